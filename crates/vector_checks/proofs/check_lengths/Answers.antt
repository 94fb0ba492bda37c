-- `vector_checks::check_lengths` meets its contract. Assumes nothing.
use Rattle.checks.proofs.First.{chain}
use Rattle.combination.specs.Checks.{length_checks}
use Rattle.vector_checks.proofs.check_lengths.Goals as goal

pub returns-then-output-wanted : goal.returns-then-output-wanted
unfolding length_checks
returns-then-output-wanted c = search chain

pub returns-then-vectors-expected : goal.returns-then-vectors-expected
unfolding length_checks
returns-then-vectors-expected c = search chain

pub returns : goal.returns
unfolding length_checks
returns c = search chain
