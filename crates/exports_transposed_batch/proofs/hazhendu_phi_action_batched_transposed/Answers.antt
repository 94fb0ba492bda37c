-- `exports_transposed_batch::hazhendu_phi_action_batched_transposed` meets its contract. Assumes nothing.
use Rattle.answers.specs.Told.{taylor_numbers}
use Rattle.transposed_told.proofs.Telling.{told_of}
use Rattle.exports_transposed_batch.proofs.hazhendu_phi_action_batched_transposed.Goals as goal

pub returns : goal.returns
returns c = told_of taylor_numbers _ c.taylor_numbers.ensures c.phi_action_batched_transposed-answer.ensures
