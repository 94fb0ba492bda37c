-- `join_rows::count_row` meets its contract. Assumes nothing.
use Rattle.join_rows.proofs.Passes.{Counted}
use Rattle.join_rows.proofs.Steps.{left}
use Rattle.join_rows.proofs.count_row.Given as goal

abbrev pub invariant-loop-m : goal.invariant-loop-m
invariant-loop-m l = Counted l.n l.starts_a l.cols_a l.starts_b l.cols_b l.i l.m l.count

abbrev pub decreases-loop-m : goal.decreases-loop-m
decreases-loop-m l = left l.m
