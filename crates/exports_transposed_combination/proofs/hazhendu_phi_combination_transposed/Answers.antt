-- `exports_transposed_combination::hazhendu_phi_combination_transposed` meets its contract. Assumes nothing.
use Rattle.answers.specs.Told.{taylor_numbers}
use Rattle.transposed_told.proofs.Telling.{told_of}
use Rattle.exports_transposed_combination.proofs.hazhendu_phi_combination_transposed.Goals as goal

pub returns : goal.returns
returns c = told_of taylor_numbers _ c.taylor_numbers.ensures c.phi_combination_transposed-answer.ensures
