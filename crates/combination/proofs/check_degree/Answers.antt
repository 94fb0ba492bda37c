-- `combination::check_degree` meets its contract. Assumes nothing.
use borrow.Author.Rules.{rules}
use Rattle.checks.proofs.First.{chain}
use Rattle.combination.specs.Checks.{degree_checks}
use Rattle.combination.proofs.check_degree.Goals as goal

pub returns-then-wrong_degree : goal.returns-then-wrong_degree
unfolding degree_checks
returns-then-wrong_degree c = search chain

pub returns : goal.returns
unfolding degree_checks
returns c = search chain
