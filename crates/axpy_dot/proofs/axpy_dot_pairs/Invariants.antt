-- `axpy_dot::axpy_dot_pairs` meets its contract. Assumes nothing.
use mathlib.Core.Path.{◌≡◌}
use Prim.Native.Nat.{◌+◌, ◌-◌, ◌*◌, ◌≤◌}
use Rattle.lists.proofs.Loop.{Filled}
use Rattle.dot.proofs.Blocks.{sum_at, product_at, pair_at}
use Rattle.axpy_dot.proofs.axpy_dot_pairs.Given as goal

abbrev pub invariant-loop-b : goal.invariant-loop-b
invariant-loop-b l =
    (l.b ≤ l.pairs)
    × Filled l.y_at (2 * l.b) (sum_at l.initial.work l.y_at l.x_at l.v_at (4 * l.m) l.a) l.initial.work l.work
    × (l.p ≡ pair_at (product_at l.initial.work l.y_at l.x_at l.v_at (4 * l.m) l.a) l.b)
    × (l.q ≡ pair_at (product_at l.initial.work l.y_at l.x_at l.v_at (4 * l.m) l.a) (l.b + 1))

abbrev pub decreases-loop-b : goal.decreases-loop-b
decreases-loop-b l = l.pairs - l.b
