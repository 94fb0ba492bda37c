-- `weighted_columns::scaled_gains` meets its contract. Assumes nothing.
use Prim.Native.Nat.{◌-◌, ◌≤◌}
use Rattle.lists.proofs.Loop.{Filled}
use Rattle.doubles.specs.F64.{◌⊗◌, at}
use Rattle.weighted_columns.proofs.scaled_gains.Given as goal

abbrev pub invariant-loop-j : goal.invariant-loop-j
invariant-loop-j l = (l.j ≤ l.d) × Filled 0 l.j (λ k. at l.powers (l.d - k - 1) ⊗ l.eta) l.initial.gains l.gains

abbrev pub decreases-loop-j : goal.decreases-loop-j
decreases-loop-j l = l.d - l.j
