-- `exports_krylov::hazhendu_phi_combination_krylov` meets its contract. Assumes nothing.
use Rattle.phi_solver.proofs.Dispatch.{answered}
use Rattle.answers.specs.Told.{krylov_numbers}
use Rattle.exports_krylov.proofs.hazhendu_phi_combination_krylov.Goals as goal

pub returns : goal.returns
returns c = answered krylov_numbers _ c.krylov_numbers.ensures (rw c.options-o.ensures at c.phi_combination_krylov-answer.ensures)
