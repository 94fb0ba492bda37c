-- `combination::out_of_range` meets its contract. Assumes nothing.
use borrow.Author.Rules.{rules}
use Rattle.combination.specs.Checks.{out_of_range}
use Rattle.combination.proofs.out_of_range.Goals as goal

pub returns-then-is_finite : goal.returns-then-is_finite
unfolding out_of_range
returns-then-is_finite c = rw (← c.is_finite.ensures, c.if-is_finite.true)

pub returns : goal.returns
unfolding out_of_range
returns c = rw (← c.is_finite.ensures, c.if-is_finite.false)
