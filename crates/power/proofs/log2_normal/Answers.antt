-- `power::log2_normal` meets its contract. Assumes nothing.
use Rattle.std.proofs.Common.{arith}
use Rattle.doubles.proofs.Compare.{above_no_nan}
use Rattle.doubles.proofs.Patterns.{finite_no_nan}
use Rattle.power.proofs.log2_normal.Goals as goal

pub float_to_bits-b : goal.float_to_bits-b
float_to_bits-b c = above_no_nan c.args.x c.if-x.true

pub float_from_bits-e : goal.float_from_bits-e
float_from_bits-e c = finite_no_nan _ (omega arith)

pub float_from_bits-m : goal.float_from_bits-m
float_from_bits-m c = finite_no_nan _ (omega arith)
