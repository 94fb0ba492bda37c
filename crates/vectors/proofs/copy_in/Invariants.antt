-- `vectors::copy_in` meets its contract. After i turns the first i elements of the window are written. Assumes nothing.
use Prim.Native.Nat.{◌+◌, ◌-◌, ◌≤◌}
use Rattle.lists.proofs.Loop.{Filled}
use Rattle.doubles.specs.F64.{at}
use Rattle.vectors.proofs.copy_in.Given as goal

abbrev pub invariant-loop-i : goal.invariant-loop-i
invariant-loop-i l = (l.i ≤ l.len) × Filled l.to l.i (λ k. at l.initial.work (l.from + k)) l.initial.work l.work

abbrev pub decreases-loop-i : goal.decreases-loop-i
decreases-loop-i l = l.len - l.i
