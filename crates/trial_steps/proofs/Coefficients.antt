-- A length accepted has a coefficient for each column that counts. Assumes nothing.
use mathlib.Core.Path.{◌≡◌}
use mathlib.Core.Bool.{Bool, true, false}
use mathlib.Core.List.{List}
use Prim.Native.Nat.{ℕ, ◌+◌}
use native.Mathlib.Omega.{arith}
use lib.ListN.{length}
use lib.Ieee.{Float}
use Rattle.lists.specs.Walk.{Turn, on, out, walk}
use Rattle.lists.proofs.Walk.{Kept, walk_keeps}
use Rattle.lists.proofs.Window.{length_window}
use Rattle.doubles.specs.F64.{min_num}
use Rattle.hess_exp.specs.HessExp.{Small, unplanned, column}
use Rattle.hess_exp.proofs.Long.{Long, column_long}
use Rattle.gram_schmidt.specs.Basis.{Setting, dim, Basis, breakdown, full}
use Rattle.trial_steps.specs.declared.Estimate.{Estimate}
use Rattle.trial_steps.specs.Trials.{Trying, Tried, accepted, stuck, verdict, judge, try_step, exact_step, trials}

-- n coefficients, where a length is accepted
abbrev pub Coefficients : ℕ → Turn Trying Tried → Type 0
Coefficients n (on s) = Unit {0}
Coefficients n (out (stuck arg)) = Unit {0}
Coefficients n (out (accepted r t f err)) = length f ≡ n

-- the columns that count
abbrev pub counting : Setting → Basis → ℕ
counting p (breakdown b) = b.mb
counting p (full b avnorm) = p.m + 1

exact_coefficients : (mb : ℕ) (beta hn remaining : Float) (f : Small) → Long mb f → Coefficients mb (exact_step beta hn remaining f)
unfolding exact_step
exact_coefficients mb beta hn remaining (unplanned arg) e = tt
exact_coefficients mb beta hn remaining (column f) e = e

module _ (p : Setting) where
  -- while lengths are tried
  abbrev TryingOn : ℕ → Turn Trying Tried → Type 0
  TryingOn i o = Kept (λ (_ : ℕ) (s : Trying). Unit {0}) (λ (_ : ℕ) (e : Tried). Coefficients (p.m + 1) (out e)) i o

  verdict_coefficients : (i : ℕ) (s : Trying) (f : List Float) (e : Estimate) (b : Bool) → length f ≡ dim p → TryingOn i (verdict p s f e b)
  unfolding verdict
  verdict_coefficients i s f e true h = length_window 0 (p.m + 1) f (omega (arith, h))
  verdict_coefficients i s f e false h = tt

  judge_coefficients : (i : ℕ) (beta avnorm : Float) (s : Trying) (f : Small) → Long (dim p) f → TryingOn i (judge p beta avnorm s f)
  unfolding judge
  judge_coefficients i beta avnorm s (unplanned arg) e = tt
  judge_coefficients i beta avnorm s (column f) e = verdict_coefficients i s f _ _ e

  tried_coefficients : (i : ℕ) (o : Turn Trying Tried) → TryingOn i o → Coefficients (p.m + 1) o
  tried_coefficients i (on s) h = tt
  tried_coefficients i (out e) h = h

  pub trials_coefficients : (beta next remaining : Float) (b : Basis) → Coefficients (counting p b) (trials p beta next remaining b)
  unfolding trials try_step
  trials_coefficients beta next remaining (breakdown b) = exact_coefficients b.mb beta b.hn remaining _ (column_long b.columns.h (dim p) b.mb remaining)
  trials_coefficients beta next remaining (full b avnorm) =
      let o : Turn Trying Tried = on (record { rejections = 0; t = min_num next remaining }) in
      tried_coefficients 11 (walk (try_step p beta b.h avnorm) 11 0 o)
      (walk_keeps (λ (_ : ℕ) (s : Trying). Unit {0}) (λ (_ : ℕ) (e : Tried). Coefficients (p.m + 1) (out e)) (try_step p beta b.h avnorm) (λ k s h. judge_coefficients (k + 1) beta avnorm s _ (column_long b.h (dim p) (dim p) s.t)) (λ i j e l h. h) 11 0 o tt)
