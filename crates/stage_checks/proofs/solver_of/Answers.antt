-- `stage_checks::solver_of` meets its contract. Assumes nothing.
use borrow.Author.Tests.{eq-eqb, ne_eqb}
use Rattle.stage_checks.proofs.solver_of.Goals as goal

pub returns-then-solver-eq0 : goal.returns-then-solver-eq0
returns-then-solver-eq0 c = rw (eq-eqb _ _ c.if-solver-eq0.true)

pub returns : goal.returns
returns c = rw (ne_eqb _ _ c.if-solver-eq0.false)
