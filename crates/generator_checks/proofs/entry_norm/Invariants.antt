-- `generator_checks::entry_norm` meets its contract. Assumes nothing.
use Prim.Native.Nat.{◌-◌, ◌≤◌}
use Rattle.general_operator.specs.Csr.{csr}
use Rattle.generator_action.proofs.Leading.{Leading}
use Rattle.generator_checks.proofs.entry_norm.Given as goal

abbrev pub invariant-loop-row : goal.invariant-loop-row
invariant-loop-row l = (l.row ≤ l.n) × Leading (csr l.n l.starts l.cols l.vals) l.row l.best.norm l.best.row

abbrev pub decreases-loop-row : goal.decreases-loop-row
decreases-loop-row l = l.n - l.row
