-- `dot::tail` meets its contract. Assumes nothing.
use mathlib.Core.Path.{◌≡◌}
use lib.ListN.{length}
use Rattle.dot.specs.Dot.{tail}
use Rattle.dot.proofs.tail.Given as goal

abbrev pub invariant-loop-u : goal.invariant-loop-u
invariant-loop-u l = l.s ≡ tail l.b l.x l.y (length l.yielded)
