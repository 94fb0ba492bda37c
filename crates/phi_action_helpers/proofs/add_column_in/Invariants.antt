-- `phi_action_helpers::add_column_in` meets its contract. Assumes nothing.
use Prim.Native.Nat.{◌+◌}
use Rattle.lists.proofs.Loop.{Filled}
use Rattle.doubles.specs.F64.{◌⊕◌, ◌⊗◌, at}
use Rattle.phi_action_helpers.proofs.add_column_in.Given as goal

abbrev pub invariant-loop-i : goal.invariant-loop-i
invariant-loop-i l = Filled l.w l.i (λ m. at l.initial.work (l.w + m) ⊕ l.s ⊗ at l.vectors (l.p + m)) l.initial.work l.work
