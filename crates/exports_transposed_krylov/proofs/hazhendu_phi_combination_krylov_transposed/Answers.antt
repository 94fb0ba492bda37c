-- `exports_transposed_krylov::hazhendu_phi_combination_krylov_transposed` meets its contract. Assumes nothing.
use Rattle.answers.specs.Told.{krylov_numbers}
use Rattle.transposed_told.proofs.Telling.{told_of}
use Rattle.exports_transposed_krylov.proofs.hazhendu_phi_combination_krylov_transposed.Goals as goal

pub returns : goal.returns
returns c = told_of krylov_numbers _ c.krylov_numbers.ensures (rw c.options-o.ensures at c.phi_combination_krylov_transposed-answer.ensures)
