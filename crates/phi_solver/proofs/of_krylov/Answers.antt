-- `phi_solver::of_krylov` meets its contract. Assumes nothing.
use mathlib.Core.Path.{refl}
use Rattle.checks.proofs.First.{passed_on}
use Rattle.phi_solver.specs.Combine.{of_krylov}
use Rattle.phi_solver.proofs.of_krylov.Goals as goal

pub returns-in_err-answer : goal.returns-in_err-answer
unfolding of_krylov
returns-in_err-answer c = rw (passed_on c.from_residual.ensures.1, c.in_err-answer.was) refl

pub returns : goal.returns
unfolding of_krylov
returns c = rw c.in_ok-answer.was refl
