-- `taylor_terms::term_rows_in` meets its contract. Assumes nothing.
use borrow.Author.Rules.{rules}
use Prim.Native.Nat.{◌+◌, ◌-◌, ◌≤◌}
use mathlib.Core.Path.{◌≡◌}
use lib.ListN.{length}
use Rattle.lists.specs.Loop.{tabulate}
use Rattle.lists.specs.Window.{splice}
use Rattle.doubles.specs.F64.{◌⊕◌, ◌⊗◌, at}
use Rattle.phi_action_helpers.specs.Augmented.{generator_term}
use Rattle.taylor_terms.proofs.term_rows_in.Given as goal

abbrev pub invariant-loop-i : goal.invariant-loop-i
invariant-loop-i l =
    (l.i ≤ l.n) × (length l.work ≡ length l.initial.work) × (l.work ≡ splice 0 (tabulate l.i (λ m. at l.initial.work m ⊕ (generator_term l.k (at l.initial.work (l.av + m)) (at l.initial.work (l.w + m)) ⊕ l.s ⊗ at l.vectors (l.p + m)))) (splice l.w (tabulate l.i (λ m. generator_term l.k (at l.initial.work (l.av + m)) (at l.initial.work (l.w + m)) ⊕ l.s ⊗ at l.vectors (l.p + m))) l.initial.work))

abbrev pub decreases-loop-i : goal.decreases-loop-i
decreases-loop-i l = l.n - l.i
