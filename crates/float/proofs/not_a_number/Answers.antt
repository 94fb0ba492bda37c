-- `float::not_a_number` meets its contract. Assumes nothing.
use Rattle.std.proofs.Common.{refl}
use lib.Ieee.{of_bits}
use Rattle.float.proofs.not_a_number.Goals as goal

pub returns : goal.returns
unfolding of_bits
returns c = refl
