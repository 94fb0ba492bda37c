-- `combination::check_time` meets its contract. Assumes nothing.
use borrow.Author.Rules.{rules}
use Rattle.checks.proofs.First.{chain}
use Rattle.combination.specs.Checks.{time_checks}
use Rattle.combination.proofs.check_time.Goals as goal

pub returns-then-out_of_range : goal.returns-then-out_of_range
unfolding time_checks
returns-then-out_of_range c = search chain

pub returns : goal.returns
unfolding time_checks
returns c = search chain
