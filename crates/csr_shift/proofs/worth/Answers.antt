-- `csr_shift::worth` meets its contract. Assumes nothing.
use Rattle.std.proofs.Common.{arith}
use Rattle.std.proofs.lemmas.Grind.{common_steps}
use lib.Ieee.{ne}
use Rattle.csr_shift.specs.Shift.{worth}
use Rattle.csr_shift.proofs.worth.Goals as goal

pub returns-then-is_finite-2 : goal.returns-then-is_finite-2
unfolding worth ne
returns-then-is_finite-2 c = grind (arith, common_steps)

pub returns-else-is_finite-2 : goal.returns-else-is_finite-2
unfolding worth ne
returns-else-is_finite-2 c = grind (arith, common_steps)
