-- `join_rows::is_unordered` meets its contract. Assumes nothing.
use native.Mathlib.Omega.{arith}
use borrow.Author.Rules.{rules}
use mathlib.Core.Path.{refl, ◌∙◌}
use Rattle.std.proofs.lemmas.Iterator.{YieldsList-from_range}
use Rattle.std.proofs.lemmas.Iterator.Search.{any_from_yields_List}
use Rattle.lists.proofs.Ranges.{any_range}
use Rattle.join_rows.specs.Join.{unordered}
use Rattle.join_rows.specs.Inner.{unordered_row}
use Rattle.join_rows.proofs.is_unordered.Goals as goal

pub returns : goal.returns
unfolding unordered
returns c vals =
    let a = c.args in
    let bad = unordered_row a.starts.now a.cols.now in
    any_from_yields_List bad _ _ _ c.any.ensures.ran (YieldsList-from_range 0 a.n a.n refl (omega arith)) (λ x b q k. search rules) ∙ any_range bad a.n
