-- `pow2::sup` meets its contract: the loop carries the fold of the elements passed. Assumes nothing.
use mathlib.Core.Path.{◌≡◌}
use Rattle.lists.specs.Loop.{iter}
use Rattle.doubles.specs.F64.{+0, at, abs, max_num}
use Rattle.pow2.proofs.sup.Given as goal

abbrev pub invariant-loop-v : goal.invariant-loop-v
invariant-loop-v l = l.m ≡ iter (λ k s. max_num s (abs (at l.x k))) l.v-index +0
