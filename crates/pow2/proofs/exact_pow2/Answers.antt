-- `pow2::exact_pow2` meets its contract. Assumes nothing.
use native.Mathlib.Omega.{arith}
use lib.IntN.{pos}
use Rattle.pow2.proofs.Integers.{small, held, mag_sum}
use Rattle.pow2.proofs.Powers.{biased, biased_read, power_pattern, finite_pattern}
use Rattle.pow2.proofs.exact_pow2.Goals as goal

pub overflow_add-result : goal.overflow_add-result
overflow_add-result c = rw (held c.args.e (omega arith)) (small _ (omega (arith, mag_sum (pos 1023) c.args.e)))

pub overflow_cast-result : goal.overflow_cast-result
overflow_cast-result c = rw (biased_read c.args.e c.requires) (tt, record { fits = omega (arith, (biased c.args.e c.requires).under) })

pub float_from_bits-result : goal.float_from_bits-result
float_from_bits-result c = finite_pattern _ (power_pattern c.args.e c.requires)

pub returns : goal.returns
returns c = power_pattern c.args.e c.requires
