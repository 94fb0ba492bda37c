-- `csr_shift::has_bad_row` meets its contract. Assumes nothing.
use native.Mathlib.Omega.{arith}
use borrow.Author.Rules.{rules}
use mathlib.Core.Path.{refl, ◌∙◌}
use Rattle.std.proofs.lemmas.Iterator.{YieldsList-from_range}
use Rattle.std.proofs.lemmas.Iterator.Search.{any_from_yields_List}
use Rattle.lists.proofs.Ranges.{any_range}
use Rattle.general_operator.specs.Matrix.{matrix}
use Rattle.csr_shift.specs.Shift.{bad_row, generator_row}
use Rattle.csr_shift.proofs.has_bad_row.Goals as goal

pub returns : goal.returns
returns c =
    let a = c.args in
    let bad = bad_row (generator_row (matrix a.q)) in
    any_from_yields_List bad _ _ _ c.any.ensures.ran (YieldsList-from_range 0 a.q.n a.q.n refl (omega arith)) (λ x b q k. search rules) ∙ any_range bad a.q.n
