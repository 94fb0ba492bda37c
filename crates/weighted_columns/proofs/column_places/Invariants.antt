-- `weighted_columns::column_places` meets its contract. Assumes nothing.
use Prim.Native.Nat.{◌-◌, ◌*◌, ◌≤◌}
use Rattle.lists.proofs.Loop.{Filled}
use Rattle.weighted_columns.proofs.column_places.Given as goal

abbrev pub invariant-loop-j : goal.invariant-loop-j
invariant-loop-j l = (l.j ≤ l.d) × Filled 0 l.j (λ k. (l.d - k - 1) * l.n) l.initial.places l.places

abbrev pub decreases-loop-j : goal.decreases-loop-j
decreases-loop-j l = l.d - l.j
