-- `join_rows::check_row_values` meets its contract. Assumes nothing.
use Rattle.join_rows.proofs.Steps.{left}
use Rattle.join_rows.proofs.Passes.{Fine}
use Rattle.join_rows.proofs.check_row_values.Given as goal

abbrev pub invariant-loop-m : goal.invariant-loop-m
invariant-loop-m l = Fine l.n l.starts_a l.cols_a l.vals_a l.starts_b l.cols_b l.vals_b l.i l.m

abbrev pub decreases-loop-m : goal.decreases-loop-m
decreases-loop-m l = left l.m
