-- `pow2::field` meets its contract. Assumes nothing.
use lib.IntN.{pos}
use native.Mathlib.Omega.{arith}
use Rattle.pow2.specs.Pow2.{field}
use Rattle.pow2.proofs.Integers.{held}
use Rattle.pow2.proofs.field.Goals as goal

pub returns : goal.returns
returns c = held (pos (field c.args.bits)) (omega arith)
