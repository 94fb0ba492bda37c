-- `join_rows::count_entries` meets its contract. Assumes nothing.
use Prim.Native.Nat.{◌-◌}
use Rattle.join_rows.proofs.Passes.{CountedRows}
use Rattle.join_rows.proofs.count_entries.Given as goal

abbrev pub invariant-loop-i : goal.invariant-loop-i
invariant-loop-i l = CountedRows l.n l.starts_a l.cols_a l.starts_b l.cols_b l.count l.i

abbrev pub decreases-loop-i : goal.decreases-loop-i
decreases-loop-i l = l.n - l.i
