-- A local error is NaN or has the sign clear. Assumes nothing.
use mathlib.Core.Path.{◌≡◌, refl}
use mathlib.Core.Bool.{Bool, true, false, cond}
use mathlib.Core.List.{List}
use Prim.Native.Nat.{ℕ, ◌+◌, ◌-◌}
use lib.Dec.{ltb}
use lib.Ieee.{Float, binary64}
use lib.Ieee.Fits.{mul-fits}
use Rattle.doubles.specs.F64.{◌⊖◌, ◌⊗◌, ◌⊘◌, ◌⋖◌, at, abs}
use Rattle.doubles.proofs.Magnitude.{abs_fits}
use Rattle.doubles.proofs.Signs.{Clear, mul_clear, div_clear, abs_clear, sub_clear}
use Rattle.trial_steps.specs.Trials.{10f, estimate, local_error}

pub error_clear : (m : ℕ) (beta avnorm : Float) (f : List Float) → Clear (local_error m beta avnorm f).err
unfolding local_error
error_clear m beta avnorm f = go (10f ⊗ phi2 ⋖ phi1) (phi2 ⋖ phi1) refl
  where
    phi1 : Float
    phi1 = abs (beta ⊗ at f m)

    phi2 : Float
    phi2 = abs (beta ⊗ at f (m + 1) ⊗ avnorm)

    go : (a b : Bool) → (phi2 ⋖ phi1) ≡ b → Clear (cond a (estimate phi2 m) (cond b (estimate ((phi1 ⊗ phi2) ⊘ (phi1 ⊖ phi2)) m) (estimate phi1 (cond (ltb 2 m) (m - 1) 1)))).err
    go true b h = abs_clear (beta ⊗ at f (m + 1) ⊗ avnorm)
    go false true h =
        div_clear (phi1 ⊗ phi2) (phi1 ⊖ phi2) (mul_clear phi1 phi2 (abs_clear (beta ⊗ at f m)) (abs_clear (beta ⊗ at f (m + 1) ⊗ avnorm)))
        (sub_clear phi1 phi2 (abs_fits (beta ⊗ at f m) (mul-fits binary64 beta (at f m))) (abs_fits (beta ⊗ at f (m + 1) ⊗ avnorm) (mul-fits binary64 (beta ⊗ at f (m + 1)) avnorm)) h)
    go false false h = abs_clear (beta ⊗ at f m)
