-- `stages::run_stages` meets its contract. Assumes nothing.
use mathlib.Core.Path.{◌≡◌}
use Prim.Native.Nat.{◌-◌, ◌≤◌}
use lib.Dec.{eqb}
use lib.ListN.{length}
use Rattle.lists.specs.Walk.{on}
use Rattle.lists.proofs.Walk.{Left}
use Rattle.general_operator.specs.Csr.{csr}
use Rattle.generator_action.specs.Mass.{given}
use Rattle.generator_action.specs.Generator.{forward}
use Rattle.stage_calls.specs.Stages.{stage_step, begun}
use Rattle.schedule_checks.specs.Inner.{schedule_of, Moderate, turn_at}
use Rattle.combination.specs.Combination.{field_of}
use Rattle.stages.proofs.run_stages.Given as goal

abbrev pub invariant-loop-i : goal.invariant-loop-i
invariant-loop-i l =
    (l.i ≤ l.k) × (length l.out ≡ length l.initial.out) × (length l.work ≡ length l.initial.work) × Moderate l.i l.turn × Left (stage_step (forward (csr l.g.n l.starts l.cols l.vals) (given l.g.with_mass l.mass)) (schedule_of l.taus l.counts l.solvers l.degrees l.tols l.ms l.limits) l.further) l.k l.i (on (begun l.start l.initial.out l.initial.work)) (turn_at l.turn (field_of (eqb l.i 0) l.start l.out) l.out l.work)

abbrev pub decreases-loop-i : goal.decreases-loop-i
decreases-loop-i l = l.k - l.i
