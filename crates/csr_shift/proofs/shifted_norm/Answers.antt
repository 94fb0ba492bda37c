-- `csr_shift::shifted_norm` meets its contract. Assumes nothing.
use native.Mathlib.Omega.{arith}
use borrow.Author.Rules.{rules}
use mathlib.Core.List.{List, [], ◌∷◌}
use mathlib.Core.Path.{◌≡◌, refl, sym, ap, ◌∙◌}
use Prim.Native.Nat.{ℕ}
use Rattle.std.specs.List.{fold}
use Rattle.std.proofs.iter.Yields.{nat_range_steps}
use Rattle.std.proofs.lemmas.Fn.{fold_over}
use Rattle.std.proofs.lemmas.Iterator.{YieldsList-from_range}
use Rattle.std.proofs.lemmas.List.Sums.{fold-append}
use Rattle.lists.proofs.Ranges.{fold_range}
use Rattle.doubles.specs.F64.{◌⊕◌, ◌⊖◌, +0, abs, max_num}
use Rattle.general_operator.specs.Matrix.{matrix}
use Rattle.csr_shift.specs.Shift.{generator_row, shifted_norm}
use lib.Ieee.{Float}
use Rattle.csr_shift.proofs.shifted_norm.Goals as goal

pub returns : goal.returns
unfolding shifted_norm
returns c =
    let a = c.args in
    let rows = generator_row (matrix a.q) in
    let step = (λ (norm : Float) (i : ℕ). max_num norm (abs ((rows i).diagonal ⊖ a.mu) ⊕ (rows i).rest)) in
    let turned = (λ (s : Float) (x : ℕ) (ys : List ℕ) (h : s ≡ fold step +0 ys). ap (λ (s : Float). step s x) h ∙ sym (fold-append step +0 ys (x ∷ []))) in
    fold_over
    nat_range_steps
    (λ i. i)
    _
    (λ ys x. x ≡ fold step +0 ys)
    _
    (λ ys s x b f h k. let called : b ≡ step s x = search rules in (called ∙ turned s x ys h, search rules))
    (record { start = 0; end = a.q.n })
    _
    _
    _
    (YieldsList-from_range 0 a.q.n a.q.n refl (omega arith)).runs
    refl
    c.fold.ensures.ran
    ∙ fold_range step +0 a.q.n
