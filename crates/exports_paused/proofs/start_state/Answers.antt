-- `exports_paused::start_state` meets its contract. Assumes nothing.
use mathlib.Core.Path.{refl, ◌∙◌}
use Rattle.exports_paused.specs.Told.{start_state}
use Rattle.exports_paused.proofs.start_state.Goals as goal

pub returns-in-Err : goal.returns-in-Err
unfolding start_state
returns-in-Err c = rw (c.in-Err.is, c.number.ensures) refl

pub returns-in-Ok : goal.returns-in-Ok
unfolding start_state
returns-in-Ok c = c.write_run.ensures _ _ ∙ rw c.in-Ok.is refl
