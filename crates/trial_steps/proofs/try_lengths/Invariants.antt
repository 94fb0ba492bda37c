-- `trial_steps::try_lengths` meets its contract. Assumes nothing.
use borrow.Author.Rules.{rules}
use mathlib.Core.Logic.{⊎_elim}
use Prim.Native.Nat.{ℕ, ◌+◌, ◌-◌, ◌≤◌}
use mathlib.Core.List.{List, []}
use lib.Ieee.{Float}
use Rattle.lists.specs.Walk.{on}
use Rattle.lists.proofs.Walk.{Left}
use Rattle.doubles.specs.F64.{+0}
use Rattle.general_operator.specs.Csr.{Csr}
use Rattle.phi_action_helpers.specs.declared.Layout.{Layout}
use Rattle.phi_action_helpers.specs.declared.Coupling.{Coupling}
use Rattle.gram_schmidt.specs.Memory.{setting_at}
use Rattle.trial_steps.specs.Trials.{try_step}
use Rattle.trial_steps.specs.Memory.{trial_at, Modest}
use Rattle.trial_steps.proofs.try_lengths.Given as goal

abbrev pub invariant-loop : goal.invariant-loop
invariant-loop live =
    (live.counter ≤ 11) × Modest live.counter (live.k.m + 1) live.o × ((l : Layout) (b : Coupling) (q : Csr) (vectors : List Float) → Left (try_step (setting_at l b live.k q vectors) live.beta live.h live.avnorm) 11 live.counter (on (record { rejections = 0; t = live.t })) (trial_at live.o))
