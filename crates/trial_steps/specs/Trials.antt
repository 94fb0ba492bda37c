-- Trial lengths on one basis (phi_krylov_arnoldi.rs, `local_error`, `trial_steps`; Sidje 1998). Definitions only.
use Rattle.std.specs.Prelude.{Bool, true, false, List, ℕ, suc, ◌+◌, ◌-◌, ltb, Float, if◌then◌else◌}
use Rattle.lists.specs.Walk.{Turn, on, out, walk}
use Rattle.lists.specs.Window.{window, open_window}
use Rattle.doubles.specs.F64.{◌⊖◌, ◌⊗◌, ◌⊘◌, ◌⋖◌, bits, at, abs, min_num}
use Rattle.retry.specs.Retry.{accepts, retry, open_retry}
use Rattle.hess_exp.specs.HessExp.{Small, unplanned, column, hess_exp_e1, open_hess_exp}
use Rattle.gram_schmidt.specs.Basis.{Setting, dim, Basis, breakdown, full, open_basis}
use Rattle.trial_steps.specs.declared.Estimate.{Estimate}

-- `MAX_REJECT`: how many lengths may be rejected on one basis
abbrev pub MAX_REJECT : ℕ
MAX_REJECT = 10

abbrev pub 10f : Float
10f = bits 0x4024_0000_0000_0000

abbrev pub estimate : Float → ℕ → Estimate
estimate err order = record { err = err; order = order }

-- `local_error`, of the column f of the small exponential
unfoldable pub local_error : ℕ → Float → Float → List Float → Estimate
local_error m beta avnorm f =
    let phi1 = abs (beta ⊗ at f m) in
    let phi2 = abs (beta ⊗ at f (m + 1) ⊗ avnorm) in
    if 10f ⊗ phi2 ⋖ phi1 then estimate phi2 m
    else (if phi2 ⋖ phi1 then estimate ((phi1 ⊗ phi2) ⊘ (phi1 ⊖ phi2)) m else estimate phi1 (if ltb 2 m then m - 1 else 1))

-- a length to be tried, and the rejections before it
pub record Trying : Type 0 where
  pub rejections : ℕ
  pub t : Float

-- a length accepted, with the rejections before it, the coefficients of the columns and the error; or no inner plan for the argument
pub data Tried : Type 0 where
  accepted : ℕ → Float → List Float → Float → Tried
  stuck : Float → Tried

-- the length is accepted, or rejected and shortened
unfoldable pub verdict : Setting → Trying → List Float → Estimate → Bool → Turn Trying Tried
verdict p s f e true = out (accepted s.rejections s.t (window 0 (p.m + 1) f) e.err)
verdict p s f e false = on (record { rejections = suc s.rejections; t = retry e.order p.tol s.t e.err })

unfoldable pub judge : Setting → Float → Float → Trying → Small → Turn Trying Tried
judge p beta avnorm s (unplanned arg) = out (stuck arg)
judge p beta avnorm s (column f) =
    let e = local_error p.m beta avnorm f in
    verdict p s f e (accepts p.tol s.t e.err)

unfoldable pub try_step : Setting → Float → List Float → Float → ℕ → Trying → Turn Trying Tried
try_step p beta h avnorm _ s = judge p beta avnorm s (hess_exp_e1 h (dim p) (dim p) s.t)

-- on a breakdown the projection is exact: the whole remaining time is accepted
unfoldable pub exact_step : Float → Float → Float → Small → Turn Trying Tried
exact_step beta hn remaining (unplanned arg) = out (stuck arg)
exact_step beta hn remaining (column f) = out (accepted 0 remaining f (beta ⊗ hn ⊗ remaining))

-- at most eleven lengths, the first the shorter of the proposed and the remaining
unfoldable pub trials : Setting → Float → Float → Float → Basis → Turn Trying Tried
trials p beta next remaining (breakdown b) = exact_step beta b.hn remaining (hess_exp_e1 b.columns.h (dim p) b.mb remaining)
trials p beta next remaining (full b avnorm) = walk (try_step p beta b.h avnorm) (MAX_REJECT + 1) 0 (on (record { rejections = 0; t = min_num next remaining }))

-- to compute: a line `unfolding open_trials` opens every definition of this file and of those below it
unfoldable pub open_trials : Unit {0}
unfolding local_error verdict judge try_step exact_step trials open_window open_retry open_hess_exp open_basis
open_trials = tt
