-- `exports_batch::hazhendu_phi_action_batched` meets its contract. Assumes nothing.
use Rattle.phi_solver.proofs.Dispatch.{answered}
use Rattle.answers.specs.Told.{taylor_numbers}
use Rattle.exports_batch.proofs.hazhendu_phi_action_batched.Goals as goal

pub returns : goal.returns
returns c = answered taylor_numbers _ c.taylor_numbers.ensures c.phi_action_batched-answer.ensures
