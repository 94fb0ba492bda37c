-- `stored_quotients::normalise_rows` meets its contract. Assumes nothing.
use Prim.Native.Nat.{◌-◌, ◌≤◌}
use lib.ListN.{get_or}
use Rattle.lists.proofs.Loop.{Filled}
use Rattle.general_operator.specs.Matrix.{matrix}
use Rattle.generator_action.proofs.Quotients.{quotient}
use Rattle.stored_quotients.proofs.normalise_rows.Given as goal

abbrev pub invariant-loop-i : goal.invariant-loop-i
invariant-loop-i l = (l.i ≤ l.q.n) × Filled l.q_at (get_or l.q.starts.now l.i 0) (quotient (matrix l.q) l.mass) l.initial.work l.work
