-- `phi_shift::argument` meets its contract. Assumes nothing.
use mathlib.Core.Path.{refl}
use Rattle.phi_shift.specs.Plan.{argument}
use Rattle.phi_shift.proofs.argument.Goals as goal

pub returns : goal.returns
unfolding argument
returns c = refl
