-- `dot::add_blocks` meets its contract. Assumes nothing.
use mathlib.Core.Path.{◌≡◌}
use Prim.Native.Nat.{◌+◌}
use Rattle.dot.specs.Dot.{lanes}
use Rattle.dot.proofs.add_blocks.Given as goal

abbrev pub invariant-loop-j : goal.invariant-loop-j
invariant-loop-j l = l.acc ≡ lanes l.x l.y (l.from + l.j)
