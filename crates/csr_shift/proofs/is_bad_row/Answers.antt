-- `csr_shift::is_bad_row` meets its contract. Assumes nothing.
use borrow.Author.Rules.{rules}
use Rattle.csr_shift.specs.Shift.{bad_row}
use Rattle.csr_shift.proofs.is_bad_row.Goals as goal

pub returns-then-is_nan : goal.returns-then-is_nan
unfolding bad_row
returns-then-is_nan c = rw (← c.generator_row-g.ensures) (search rules)

pub returns-else-is_nan : goal.returns-else-is_nan
unfolding bad_row
returns-else-is_nan c = rw (← c.generator_row-g.ensures) (search rules)
