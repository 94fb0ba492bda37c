-- `phi_action_helpers::chain_in` meets its contract. Assumes nothing.
use Prim.Native.Nat.{◌-◌, ◌≤◌}
use Rattle.lists.specs.Window.{window}
use Rattle.lists.proofs.Loop.{Filled}
use Rattle.phi_action_helpers.specs.Augmented.{chain_term}
use Rattle.phi_action_helpers.proofs.chain_in.Given as goal

abbrev pub invariant-loop-i : goal.invariant-loop-i
invariant-loop-i l = (l.i ≤ l.d) × Filled l.c l.i (chain_term l.k l.d (window l.c l.d l.initial.work)) l.initial.work l.work

abbrev pub decreases-loop-i : goal.decreases-loop-i
decreases-loop-i l = l.d - l.i
