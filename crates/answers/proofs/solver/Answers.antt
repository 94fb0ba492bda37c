-- `answers::solver` meets its contract. Assumes nothing.
use Rattle.answers.specs.Told.{solver}
use Rattle.answers.proofs.solver.Goals as goal

pub returns-then-krylov : goal.returns-then-krylov
unfolding solver
returns-then-krylov c = rw c.if-krylov.true

pub returns : goal.returns
unfolding solver
returns c = rw c.if-krylov.false
