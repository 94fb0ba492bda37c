-- At most ten rejections before a length is accepted. Assumes nothing.
use mathlib.Core.Path.{◌≡◌, refl}
use mathlib.Core.Bool.{Bool, true, false}
use mathlib.Core.List.{List}
use Prim.Native.Nat.{ℕ, ◌+◌, ◌≤◌, ◌<◌, zero-le, suc-le-suc}
use native.Mathlib.Nat.{le_trans}
use native.Mathlib.Omega.{arith}
use lib.Ieee.{Float}
use Rattle.lists.specs.Walk.{Turn, on}
use Rattle.lists.proofs.Walk.{Kept, walk_keeps}
use Rattle.doubles.specs.F64.{min_num}
use Rattle.hess_exp.specs.HessExp.{Small, unplanned, column, hess_exp_e1}
use Rattle.gram_schmidt.specs.Basis.{Setting, dim, Basis, breakdown, full}
use Rattle.trial_steps.specs.declared.Estimate.{Estimate}
use Rattle.trial_steps.specs.Trials.{Trying, Tried, accepted, stuck, verdict, judge, try_step, exact_step, trials}

abbrev pub few : ℕ → Tried → Type 0
few k (accepted r t f err) = r < k
few k (stuck arg) = Unit {0}

abbrev pub Few : ℕ → Turn Trying Tried → Type 0
Few k o = Kept (λ (i : ℕ) (s : Trying). s.rejections ≡ i) few k o

verdict_few : (p : Setting) (s : Trying) (f : List Float) (e : Estimate) (b : Bool) (k : ℕ) → s.rejections ≡ k → Few (k + 1) (verdict p s f e b)
unfolding verdict
verdict_few p s f e true k h = omega (arith, h)
verdict_few p s f e false k h = omega (arith, h)

judge_few : (p : Setting) (beta avnorm : Float) (s : Trying) (f : Small) (k : ℕ) → s.rejections ≡ k → Few (k + 1) (judge p beta avnorm s f)
unfolding judge
judge_few p beta avnorm s (unplanned arg) k h = tt
judge_few p beta avnorm s (column f) k h = verdict_few p s f _ _ k h

few_later : (i j : ℕ) (e : Tried) → i ≤ j → few i e → few j e
few_later i j (accepted r t f err) l h = le_trans h l
few_later i j (stuck arg) l h = tt

exact_few : (beta hn remaining : Float) (f : Small) → Few 11 (exact_step beta hn remaining f)
unfolding exact_step
exact_few beta hn remaining (unplanned arg) = tt
exact_few beta hn remaining (column f) = suc-le-suc zero-le

pub trials_few : (p : Setting) (beta next remaining : Float) (b : Basis) → Few 11 (trials p beta next remaining b)
unfolding trials try_step
trials_few p beta next remaining (breakdown b) = exact_few beta b.hn remaining (hess_exp_e1 b.columns.h (dim p) b.mb remaining)
trials_few p beta next remaining (full b avnorm) =
    walk_keeps _ _ (try_step p beta b.h avnorm) (λ k s h. judge_few p beta avnorm s (hess_exp_e1 b.h (dim p) (dim p) s.t) k h) few_later 11 0 (on (record { rejections = 0; t = min_num next remaining })) refl
