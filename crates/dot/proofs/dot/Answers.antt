-- `dot::dot` meets its contract. Assumes nothing.
use native.Mathlib.Omega.{arith}
use mathlib.Core.Path.{◌∙◌}
use native.Mathlib.Nat.{zero-add}
use Rattle.dot.proofs.Blocks.{lanes_none}
use Rattle.dot.proofs.dot.Goals as goal

pub add_blocks-acc-requires : goal.add_blocks-acc-requires
add_blocks-acc-requires c = record { count_in_bounds = (omega arith, omega arith); acc_value = c.no_lanes.ensures ∙ lanes_none _ _ }

pub joined-requires : goal.joined-requires
joined-requires c = record { x_len = c.requires; acc_value = rw zero-add at c.add_blocks-acc.ensures }
