-- `stage_checks::stage_at` meets its contract. Assumes nothing.
use mathlib.Core.Path.{refl}
use Rattle.schedule_checks.specs.Schedule.{stage}
use Rattle.stage_checks.proofs.stage_at.Goals as goal

pub returns : goal.returns
unfolding stage
returns c = rw c.solver_of-solver.ensures refl
