-- `phi_shift::usable` meets its contract. Assumes nothing.
use Rattle.std.proofs.Common.{arith}
use Rattle.std.proofs.lemmas.Grind.{common_steps}
use lib.Ieee.{ne}
use Rattle.phi_shift.specs.Plan.{usable}
use Rattle.phi_shift.proofs.usable.Goals as goal

pub returns-then-norm : goal.returns-then-norm
unfolding usable ne
returns-then-norm c = grind (arith, common_steps)

pub returns-else-norm : goal.returns-else-norm
unfolding usable ne
returns-else-norm c = grind (arith, common_steps)
