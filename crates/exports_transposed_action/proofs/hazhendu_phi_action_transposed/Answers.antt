-- `exports_transposed_action::hazhendu_phi_action_transposed` meets its contract. Assumes nothing.
use Rattle.answers.specs.Told.{taylor_numbers}
use Rattle.transposed_told.proofs.Telling.{told_of}
use Rattle.exports_transposed_action.proofs.hazhendu_phi_action_transposed.Goals as goal

pub returns : goal.returns
returns c = told_of taylor_numbers _ c.taylor_numbers.ensures c.phi_action_transposed-answer.ensures
