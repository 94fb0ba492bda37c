-- `combination::check_count` meets its contract. Assumes nothing.
use borrow.Author.Rules.{rules}
use Rattle.checks.proofs.First.{chain}
use Rattle.combination.specs.Checks.{count_checks}
use Rattle.combination.proofs.check_count.Goals as goal

pub returns-then-wrong_count : goal.returns-then-wrong_count
unfolding count_checks
returns-then-wrong_count c = search chain

pub returns : goal.returns
unfolding count_checks
returns c = search chain
