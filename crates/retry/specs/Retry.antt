-- Step control (phi_krylov_arnoldi.rs, `trial_steps`): whether a length is accepted, and the length tried next. Definitions only.
use Rattle.std.specs.Prelude.{Bool, ℕ, Float}
use Rattle.doubles.specs.F64.{◌⊗◌, ◌⊘◌, ◌⩽◌, bits}
use Rattle.power.specs.Power.{root, open_power}
use Rattle.round2.specs.Rounded.{round2, open_rounded}

-- 0.9 and 1.2, safety factors (Sidje 1998): of the length tried next, and of the error allowed
abbrev pub GAMMA : Float
GAMMA = bits 0x3fec_cccc_cccc_cccd

abbrev pub DELTA : Float
DELTA = bits 0x3ff3_3333_3333_3333

-- a length t with the error err is accepted
abbrev pub accepts : Float → Float → Float → Bool
accepts tol t err = err ⩽ DELTA ⊗ t ⊗ tol

-- 0.9 * t * (t * tol / err) ^ (1 / q), rounded up to two digits
unfoldable pub retry : ℕ → Float → Float → Float → Float
retry q tol t err = round2 (GAMMA ⊗ t ⊗ root (t ⊗ tol ⊘ err) q)

-- to compute: a line `unfolding open_retry` opens every definition of this file and of those below it
unfoldable pub open_retry : Unit {0}
unfolding retry open_power open_rounded
open_retry = tt
