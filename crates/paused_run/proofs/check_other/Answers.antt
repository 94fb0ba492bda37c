-- `paused_run::check_other` meets its contract. Assumes nothing.
use Rattle.checks.proofs.First.{chain}
use Rattle.paused_run.proofs.check_other.Goals as goal

pub returns-then-is_other : goal.returns-then-is_other
returns-then-is_other c = search chain

pub returns : goal.returns
returns c = search chain
