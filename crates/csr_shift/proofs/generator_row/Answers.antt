-- `csr_shift::generator_row` meets its contract. Assumes nothing.
use Rattle.csr_shift.specs.Shift.{generator_row}
use Rattle.csr_shift.proofs.generator_row.Goals as goal

pub returns : goal.returns
unfolding generator_row
returns c = rw c.csr_row-row.ensures
