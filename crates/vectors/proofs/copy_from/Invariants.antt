-- `vectors::copy_from` meets its contract. Assumes nothing.
use Prim.Native.Nat.{◌+◌, ◌-◌, ◌≤◌}
use Rattle.lists.proofs.Loop.{Filled}
use Rattle.doubles.specs.F64.{at}
use Rattle.vectors.proofs.copy_from.Given as goal

abbrev pub invariant-loop-i : goal.invariant-loop-i
invariant-loop-i l = (l.i ≤ l.len) × Filled l.to l.i (λ k. at l.src (l.from + k)) l.initial.dst l.dst

abbrev pub decreases-loop-i : goal.decreases-loop-i
decreases-loop-i l = l.len - l.i
