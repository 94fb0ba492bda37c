-- `exports_paused::step_state` meets its contract. Assumes nothing.
use mathlib.Core.Path.{refl, sym, ◌∙◌}
use Rattle.exports_paused.specs.Told.{step_state}
use Rattle.exports_paused.proofs.step_state.Goals as goal

pub returns-then-ran : goal.returns-then-ran
unfolding step_state
returns-then-ran c = c.write_run.ensures _ _ ∙ rw (c.in-Err.is, ← c.number-k.ensures, sym c.ran.ensures ∙ c.if-ran.true) refl

pub returns-else-ran : goal.returns-else-ran
unfolding step_state
returns-else-ran c = rw (c.in-Err.is, ← c.number-k.ensures, sym c.ran.ensures ∙ c.if-ran.false) refl

pub returns-in-Ok : goal.returns-in-Ok
unfolding step_state
returns-in-Ok c = c.write_run-in-Ok.ensures _ _ ∙ rw c.in-Ok.is refl
