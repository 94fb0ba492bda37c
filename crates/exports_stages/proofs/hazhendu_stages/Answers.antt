-- `exports_stages::hazhendu_stages` meets its contract. Assumes nothing.
use Rattle.phi_solver.proofs.Dispatch.{answered}
use Rattle.exports_stages.specs.Told.{staged_told}
use Rattle.exports_stages.proofs.hazhendu_stages.Goals as goal

pub returns : goal.returns
returns c = answered staged_told _ c.staged_told.ensures c.stages-answer.ensures
