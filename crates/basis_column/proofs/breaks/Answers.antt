-- `basis_column::breaks` meets its contract. Assumes nothing.
use borrow.Author.Tests.{eq-eqb, ne_eqb}
use Rattle.gram_schmidt.specs.Basis.{broken}
use Rattle.basis_column.proofs.breaks.Goals as goal

pub returns-then-j-l : goal.returns-then-j-l
unfolding broken
returns-then-j-l c = λ b starts cols entries vectors. rw (← c.max.ensures, c.if-hn-max.true, eq-eqb _ _ c.if-j-l.true)

pub returns-else-j-l : goal.returns-else-j-l
unfolding broken
returns-else-j-l c = λ b starts cols entries vectors. rw (← c.max.ensures, c.if-hn-max.true, ne_eqb _ _ c.if-j-l.false)

pub returns-else-hn-max : goal.returns-else-hn-max
unfolding broken
returns-else-hn-max c = λ b starts cols entries vectors. rw (← c.max.ensures, c.if-hn-max.false)
