-- `csr_shift::midpoint` meets its contract. Assumes nothing.
use Prim.Native.Nat.{◌-◌, ◌≤◌}
use mathlib.Core.Path.{◌≡◌}
use Rattle.general_operator.specs.Matrix.{matrix}
use Rattle.csr_shift.specs.Shift.{generator_row, high, low}
use Rattle.csr_shift.proofs.midpoint.Given as goal

abbrev pub invariant-loop-i : goal.invariant-loop-i
invariant-loop-i l =
    (l.i ≤ l.q.n) × (l.high ≡ high (generator_row (matrix l.q)) l.i) × (l.low ≡ low (generator_row (matrix l.q)) l.i)

abbrev pub decreases-loop-i : goal.decreases-loop-i
decreases-loop-i l = l.q.n - l.i
