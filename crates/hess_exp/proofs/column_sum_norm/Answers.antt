-- `hess_exp::column_sum_norm` meets its contract. Assumes nothing.
use native.Mathlib.Omega.{arith}
use Prim.Native.Nat.{ℕ, ◌+◌, ◌-◌, ◌*◌, ◌<◌, ◌≤◌}
use mathlib.Core.List.{List}
use mathlib.Core.Path.{◌≡◌, sym, ap, ◌∙◌}
use lib.ListN.{length, take, drop}
use lib.Ieee.{Float, nan}
use Rattle.std.specs.List.{fold}
use Rattle.lists.proofs.Bounds.{column_within}
use Rattle.lists.proofs.Folds.{fold_iter, length_part, get_d_part}
use Rattle.lists.proofs.Loop.{iter_none, iter_turn}
use Rattle.doubles.specs.F64.{◌⊕◌, max_num, +0, abs, at}
use Rattle.doubles.specs.Sum.{sum}
use Rattle.doubles.proofs.Sum.{sum_ext}
use Rattle.hess_rows.specs.HessProduct.{place}
use Rattle.hess_rows.specs.Parts.{Leading}
use Rattle.hess_exp.specs.HessExp.{column_sum_norm}
use Rattle.hess_exp.specs.Parts.{column_sum}
use Rattle.hess_exp.proofs.column_sum_norm.Goals as goal

-- a column lies within h
ends : {h : List Float} {dim mx : ℕ} → Leading h dim mx → (c : ℕ) → c < mx → c * dim + mx ≤ length h
ends {h} {dim} {mx} l c m = omega (arith, column_within c mx dim m, l.across, l.down)

-- the sum of its sizes
sum_is : (h : List Float) (dim mx c : ℕ) → Leading h dim mx → c < mx → fold (λ s x. s ⊕ abs x) +0 (take (c * dim + mx - c * dim) (drop (c * dim) h)) ≡ column_sum h dim mx c
unfolding sum
sum_is h dim mx c l m =
    let from = c * dim in
    let to = c * dim + mx in
    let part = take (to - from) (drop from h) in
    let within = ends l c m in
    let long : length part ≡ mx = omega (arith, length_part from to h within) in
    fold_iter (λ s x. s ⊕ abs x) +0 part nan ∙ rw long (sum_ext mx (λ k. abs (at part k)) (λ k. abs (at h (place dim k c))) (λ k g. ap abs (get_d_part from to h k nan (omega (arith, g)))))

pub loop-c-init : goal.loop-c-init
loop-c-init c = sym (iter_none _ _)

pub slice_bounds-column_sum-end : goal.slice_bounds-column_sum-end
slice_bounds-column_sum-end c = ends c.requires c.loop-c.c (omega arith)

pub loop-c-preserved : goal.loop-c-preserved
loop-c-preserved c = iter_turn _ _ _ _ _ c.loop-c.invariant (c.max-m.ensures ∙ ap (max_num c.loop-c.m) (c.column_sum.ensures ∙ sum_is _ _ _ _ c.requires (omega arith)))

pub returns : goal.returns
unfolding column_sum_norm
returns c =
    let e : c.loop-c.c ≡ c.args.mx = omega arith in
    rw e at c.loop-c.invariant
