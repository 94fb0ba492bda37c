-- `array_calls::solve` meets its contract. Assumes nothing.
use Rattle.phi_solver.proofs.Dispatch.{answered}
use Rattle.answers.specs.Told.{taylor_numbers, krylov_numbers}
use Rattle.byte_calls.specs.Inner.{told, called}
use Rattle.array_calls.proofs.solve.Goals as goal

pub returns-in-Combination : goal.returns-in-Combination
unfolding told called
returns-in-Combination c = rw c.in-Combination.is (answered taylor_numbers _ c.of_taylor.ensures c.phi_combination.ensures)

pub returns-in-Action : goal.returns-in-Action
unfolding told called
returns-in-Action c = rw c.in-Action.is (answered taylor_numbers _ c.of_taylor-in-Action.ensures c.phi_action.ensures)

pub returns-in-Batch : goal.returns-in-Batch
unfolding told called
returns-in-Batch c = rw c.in-Batch.is (answered taylor_numbers _ c.of_taylor-in-Batch.ensures c.phi_action_batched.ensures)

pub returns-in-Krylov : goal.returns-in-Krylov
unfolding told called
returns-in-Krylov c = rw c.in-Krylov.is (answered krylov_numbers _ c.of_krylov.ensures c.phi_combination_krylov.ensures)
