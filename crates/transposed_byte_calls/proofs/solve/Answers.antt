-- `transposed_byte_calls::solve` meets its contract. Assumes nothing.
use Rattle.transposed.specs.Transposed.{phi_combination_transposed, phi_action_transposed, phi_action_batched_transposed, phi_combination_krylov_transposed}
use Rattle.answers.specs.Told.{taylor_numbers, krylov_numbers}
use Rattle.transposed_told.proofs.Telling.{told_of}
use Rattle.byte_calls.specs.Inner.{told, called}
use Rattle.transposed_byte_calls.specs.Inner.{called_transposed}
use Rattle.transposed_byte_calls.proofs.solve.Goals as goal

pub returns-in-Combination : goal.returns-in-Combination
unfolding told called called_transposed phi_combination_transposed
returns-in-Combination c = rw c.in-Combination.is (told_of taylor_numbers _ c.of_taylor.ensures c.phi_combination_transposed.ensures)

pub returns-in-Action : goal.returns-in-Action
unfolding told called called_transposed phi_action_transposed
returns-in-Action c = rw c.in-Action.is (told_of taylor_numbers _ c.of_taylor-in-Action.ensures c.phi_action_transposed.ensures)

pub returns-in-Batch : goal.returns-in-Batch
unfolding told called called_transposed phi_action_batched_transposed
returns-in-Batch c = rw c.in-Batch.is (told_of taylor_numbers _ c.of_taylor-in-Batch.ensures c.phi_action_batched_transposed.ensures)

pub returns-in-Krylov : goal.returns-in-Krylov
unfolding told called called_transposed phi_combination_krylov_transposed
returns-in-Krylov c = rw c.in-Krylov.is (told_of krylov_numbers _ c.of_krylov.ensures c.phi_combination_krylov_transposed.ensures)
