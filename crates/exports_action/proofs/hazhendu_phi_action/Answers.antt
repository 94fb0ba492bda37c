-- `exports_action::hazhendu_phi_action` meets its contract. Assumes nothing.
use Rattle.phi_solver.proofs.Dispatch.{answered}
use Rattle.answers.specs.Told.{taylor_numbers}
use Rattle.exports_action.proofs.hazhendu_phi_action.Goals as goal

pub returns : goal.returns
returns c = answered taylor_numbers _ c.taylor_numbers.ensures c.phi_action-answer.ensures
