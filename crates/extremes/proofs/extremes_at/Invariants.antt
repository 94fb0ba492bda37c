-- `extremes::extremes_at` meets its contract: the loop carries the largest and the smallest number passed. Assumes nothing.
use mathlib.Core.Path.{◌≡◌}
use Prim.Native.Nat.{◌+◌}
use Rattle.lists.specs.Loop.{iter}
use Rattle.doubles.specs.F64.{at, max_num, min_num}
use Rattle.extremes.proofs.extremes_at.Given as goal

abbrev pub invariant-loop-t : goal.invariant-loop-t
invariant-loop-t l =
    (l.high ≡ iter (λ j s. max_num s (at l.x (l.from + (j + 1)))) l.t-index (at l.x l.from)) × (l.low ≡ iter (λ j s. min_num s (at l.x (l.from + (j + 1)))) l.t-index (at l.x l.from))
