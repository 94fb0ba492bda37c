-- `combination::check_index` meets its contract. Assumes nothing.
use borrow.Author.Rules.{rules}
use Rattle.checks.proofs.First.{chain}
use Rattle.combination.specs.Checks.{index_checks}
use Rattle.combination.proofs.check_index.Goals as goal

pub returns-then-k-gt3 : goal.returns-then-k-gt3
unfolding index_checks
returns-then-k-gt3 c = search chain

pub returns : goal.returns
unfolding index_checks
returns c = search chain
