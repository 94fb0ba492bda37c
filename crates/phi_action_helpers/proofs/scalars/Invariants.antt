-- `phi_action_helpers::scalars` meets its contract. Assumes nothing.
use Prim.Native.Nat.{◌-◌, ◌≤◌}
use lib.ListN.{replicate}
use Rattle.lists.proofs.Loop.{Filled}
use Rattle.doubles.specs.F64.{◌⊗◌, +0, at}
use Rattle.phi_action_helpers.proofs.scalars.Given as goal

abbrev pub invariant-loop-j : goal.invariant-loop-j
invariant-loop-j l = (l.j ≤ l.count) × Filled 0 l.j (λ k. at l.gains k ⊗ at l.c k ⊗ l.one) (replicate 3 +0) l.r

abbrev pub decreases-loop-j : goal.decreases-loop-j
decreases-loop-j l = l.count - l.j
