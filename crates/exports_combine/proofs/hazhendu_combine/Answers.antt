-- `exports_combine::hazhendu_combine` meets its contract. Assumes nothing.
use Rattle.phi_solver.proofs.Dispatch.{answered}
use Rattle.answers.specs.Told.{phi_numbers}
use Rattle.exports_combine.proofs.hazhendu_combine.Goals as goal

pub returns : goal.returns
returns c = answered phi_numbers _ c.phi_numbers.ensures (rw (c.solver-chosen.ensures, c.options-o.ensures) at c.combine-answer.ensures)
