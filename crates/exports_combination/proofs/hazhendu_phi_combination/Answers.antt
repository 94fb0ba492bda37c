-- `exports_combination::hazhendu_phi_combination` meets its contract. Assumes nothing.
use Rattle.phi_solver.proofs.Dispatch.{answered}
use Rattle.answers.specs.Told.{taylor_numbers}
use Rattle.exports_combination.proofs.hazhendu_phi_combination.Goals as goal

pub returns : goal.returns
returns c = answered taylor_numbers _ c.taylor_numbers.ensures c.phi_combination-answer.ensures
