-- `dot::joined` meets its contract. Assumes nothing.
use native.Mathlib.Omega.{arith}
use Rattle.dot.specs.Dot.{dot}
use Rattle.dot.proofs.joined.Goals as goal

pub overflow_mul-m : goal.overflow_mul-m
unfolding dot
overflow_mul-m c = omega arith

pub tail-requires : goal.tail-requires
unfolding dot
tail-requires c = omega arith

pub returns : goal.returns
unfolding dot
returns c = rw (← c.requires.acc_value, c.tail.ensures)
