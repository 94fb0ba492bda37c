-- `phi_action_helpers::generator_terms_in` meets its contract. Assumes nothing.
use Prim.Native.Nat.{◌+◌, ◌-◌, ◌≤◌}
use Rattle.lists.proofs.Loop.{Filled}
use Rattle.doubles.specs.F64.{at}
use Rattle.phi_action_helpers.specs.Augmented.{generator_term}
use Rattle.phi_action_helpers.proofs.generator_terms_in.Given as goal

abbrev pub invariant-loop-i : goal.invariant-loop-i
invariant-loop-i l = (l.i ≤ l.n) × Filled l.w l.i (λ m. generator_term l.k (at l.initial.work (l.av + m)) (at l.initial.work (l.w + m))) l.initial.work l.work

abbrev pub decreases-loop-i : goal.decreases-loop-i
decreases-loop-i l = l.n - l.i
