-- `join_rows::check_values` meets its contract. Assumes nothing.
use borrow.Author.Rules.{rules}
use Prim.Native.Nat.{◌-◌}
use Rattle.general_operator.specs.Csr.{csr}
use Rattle.join_rows.proofs.Passes.{FineRows}
use Rattle.join_rows.proofs.check_values.Given as goal

abbrev pub invariant-loop-i : goal.invariant-loop-i
invariant-loop-i l = FineRows (csr l.n l.starts_a l.cols_a l.vals_a) (csr l.n l.starts_b l.cols_b l.vals_b) l.i

abbrev pub decreases-loop-i : goal.decreases-loop-i
decreases-loop-i l = l.n - l.i
