-- `stages::conclude` meets its contract. Assumes nothing.
use mathlib.Core.Path.{refl}
use Rattle.checks.proofs.First.{passed_on}
use Rattle.stage_calls.specs.Stages.{concluded}
use Rattle.schedule_checks.specs.Inner.{turn_at}
use Rattle.stages.proofs.conclude.Goals as goal

pub returns-in_err-turn : goal.returns-in_err-turn
unfolding concluded turn_at
returns-in_err-turn c field output memory = rw (passed_on c.from_residual.ensures.1, c.in_err-turn.was) refl

pub returns : goal.returns
unfolding concluded turn_at
returns c field output memory = rw c.in_ok-turn.was refl
