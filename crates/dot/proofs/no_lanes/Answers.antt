-- `dot::no_lanes` meets its contract. Assumes nothing.
use mathlib.Core.Path.{refl}
use lib.Ieee.{of_bits}
use Rattle.dot.specs.Dot.{open_dot}
use Rattle.dot.proofs.no_lanes.Goals as goal

pub returns : goal.returns
unfolding of_bits open_dot
returns c = refl
