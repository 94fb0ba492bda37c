-- `expv::run_substeps` meets its contract. Assumes nothing.
use Prim.Native.Nat.{◌-◌, ◌≤◌}
use Rattle.lists.specs.Frame.{Kept}
use Rattle.lists.proofs.Walk.{Left}
use Rattle.doubles.specs.F64.{+0}
use Rattle.gram_schmidt.specs.Memory.{setting_in}
use Rattle.krylov_advance.specs.Run.{substep}
use Rattle.krylov_advance.specs.Memory.{progress_at, Moderate}
use Rattle.expv.proofs.run_substeps.Given as goal

abbrev pub invariant-loop : goal.invariant-loop
invariant-loop l =
    (l.counter ≤ l.limit) × Moderate l.counter l.reached × Kept 0 l.o.l.q +0 l.initial.work l.work × Left (λ _. substep (setting_in l.o l.k l.initial.work)) l.limit l.counter (progress_at l.o.l l.k l.initial.reached l.initial.work) (progress_at l.o.l l.k l.reached l.work)
