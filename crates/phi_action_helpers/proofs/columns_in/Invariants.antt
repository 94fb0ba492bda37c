-- `phi_action_helpers::columns_in` meets its contract. Assumes nothing.
use Prim.Native.Nat.{◌+◌, ◌-◌, ◌≤◌}
use mathlib.Core.Path.{◌≡◌}
use lib.ListN.{length}
use Rattle.lists.specs.Loop.{tabulate}
use Rattle.lists.specs.Window.{splice}
use Rattle.doubles.specs.F64.{at}
use Rattle.phi_action_helpers.specs.Augmented.{coupled}
use Rattle.phi_action_helpers.proofs.columns_in.Given as goal

abbrev pub invariant-loop-j : goal.invariant-loop-j
invariant-loop-j l =
    (l.j ≤ l.count) × (length l.work ≡ length l.initial.work) × (l.work ≡ splice l.o.l.w (tabulate l.o.l.n (λ i. coupled l.o.vectors.now l.o.b.places l.j l.sc i (at l.initial.work (l.o.l.w + i)))) l.initial.work)

abbrev pub decreases-loop-j : goal.decreases-loop-j
decreases-loop-j l = l.count - l.j
