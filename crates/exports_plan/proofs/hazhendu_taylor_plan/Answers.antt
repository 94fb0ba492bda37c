-- `exports_plan::hazhendu_taylor_plan` meets its contract. Assumes nothing.
use Rattle.phi_solver.proofs.Dispatch.{answered}
use Rattle.answers.specs.Told.{taylor_numbers}
use Rattle.exports_plan.proofs.hazhendu_taylor_plan.Goals as goal

pub returns : goal.returns
returns c = answered taylor_numbers _ c.taylor_numbers.ensures c.taylor_plan-answer.ensures
