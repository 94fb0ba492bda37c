-- `taylor_schedule::taylor_need` meets its contract. Assumes nothing.
use borrow.Author.Rules.{rules}
use Rattle.combination.specs.Checks.{taylor_need}
use Rattle.taylor_schedule.proofs.taylor_need.Goals as goal

pub returns : goal.returns
unfolding taylor_need
returns c = search rules
