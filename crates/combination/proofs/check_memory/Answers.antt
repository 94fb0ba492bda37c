-- `combination::check_memory` meets its contract. Assumes nothing.
use borrow.Author.Rules.{rules}
use Rattle.checks.proofs.First.{chain}
use Rattle.combination.specs.Checks.{memory_checks}
use Rattle.combination.proofs.check_memory.Goals as goal

pub returns-then-memory-need : goal.returns-then-memory-need
unfolding memory_checks
returns-then-memory-need c = search chain

pub returns : goal.returns
unfolding memory_checks
returns c = search chain
