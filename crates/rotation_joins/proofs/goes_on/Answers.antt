-- `rotation_joins::goes_on` meets its contract. Assumes nothing.
use mathlib.Core.Path.{ap, ◌∙◌}
use borrow.Author.Tests.{ne_eqb}
use Rattle.std.specs.Prelude.{is_some}
use Rattle.rotation_joins.proofs.Chain.{chain_on, starts_on}
use Rattle.rotation_joins.proofs.goes_on.Goals as goal

pub returns-then-d-ne0 : goal.returns-then-d-ne0
returns-then-d-ne0 c sum =
    let a = c.args in
    rw (ne_eqb _ _ c.if-d-ne0.true) (chain_on a.n a.w.now a.d c.if-d-ne0.true sum)

pub returns-else-d-ne0 : goal.returns-else-d-ne0
returns-else-d-ne0 c sum =
    let a = c.args in
    c.is_some.ensures ∙ ap is_some c.pow2_scale.ensures ∙ starts_on a.n a.w.now a.d _ c.if-d-ne0.false (c.requires c.if-d-ne0.false)
