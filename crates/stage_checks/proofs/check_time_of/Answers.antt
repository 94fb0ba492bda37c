-- `stage_checks::check_time_of` meets its contract. Assumes nothing.
use Rattle.stage_checks.proofs.check_time_of.Goals as goal

pub returns-in-Taylor : goal.returns-in-Taylor
returns-in-Taylor c = rw c.in-Taylor.is c.check_plan.ensures

pub returns-in-Krylov : goal.returns-in-Krylov
returns-in-Krylov c = rw c.in-Krylov.is c.check_time.ensures
