-- `paused_byte_calls::solve` meets its contract. Assumes nothing.
use Rattle.paused_byte_calls.specs.Inner.{called_run}
use Rattle.paused_byte_calls.proofs.solve.Goals as goal

pub returns-in-Start : goal.returns-in-Start
unfolding called_run
returns-in-Start c = rw c.in-Start.is c.hazhendu_krylov_start-number.ensures

pub returns-in-Step : goal.returns-in-Step
unfolding called_run
returns-in-Step c = rw c.in-Step.is c.hazhendu_krylov_step-number.ensures
