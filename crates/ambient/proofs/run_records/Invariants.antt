-- `ambient::run_records` meets its contract. Assumes nothing.
use mathlib.Core.Path.{◌≡◌}
use Prim.Native.Nat.{◌-◌, ◌≤◌}
use lib.Dec.{eqb}
use lib.ListN.{length}
use Rattle.lists.specs.Walk.{on}
use Rattle.lists.specs.Window.{splice}
use Rattle.lists.proofs.Walk.{Left}
use Rattle.general_operator.specs.Csr.{csr}
use Rattle.generator_action.specs.Mass.{given}
use Rattle.generator_action.specs.Generator.{forward}
use Rattle.ambient_checks.specs.Inner.{log_of}
use Rattle.combination.specs.Combination.{field_of}
use Rattle.ambient_turns.specs.Ambient.{record_step, begun}
use Rattle.ambient_turns.specs.Inner.{turn_at, results_of, shown_in}
use Rattle.ambient.proofs.run_records.Given as goal

abbrev pub invariant-loop-i : goal.invariant-loop-i
invariant-loop-i l =
    (l.i ≤ l.k) × (length l.out ≡ length l.initial.out) × (length l.work ≡ length l.initial.work) × (length l.temperatures ≡ length l.initial.temperatures) × (results_of l.answer l.i ≤ l.i) × (l.temperatures ≡ splice 0 (shown_in l.answer l.i l.temperatures) l.initial.temperatures) × Left (record_step (forward (csr l.g.n l.starts l.cols l.vals) (given l.g.with_mass l.mass)) (log_of l.durations l.levels) l.load l.node) l.k l.i (on (begun l.field l.initial.out l.initial.work)) (turn_at l.answer (field_of (eqb l.i 0) l.field l.out) l.out l.work (shown_in l.answer l.i l.temperatures))

abbrev pub decreases-loop-i : goal.decreases-loop-i
decreases-loop-i l = l.k - l.i
