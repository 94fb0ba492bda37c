-- `ambient::run_records` meets its contract. Assumes nothing.
use native.Mathlib.Omega.{arith}
use mathlib.Core.Path.{◌≡◌, refl, sym, ap, ◌∙◌}
use mathlib.Core.List.{List}
use Prim.Native.Nat.{ℕ, ◌<◌}
use lib.Dec.{eqb}
use lib.ListN.{length}
use lib.Ieee.{Float}
use Rattle.lists.specs.Window.{window}
use Rattle.lists.proofs.Walk.{left_start, left_turn}
use Rattle.lists.proofs.Window.{splice_nil}
use Rattle.doubles.specs.F64.{at}
use Rattle.general_operator.specs.Csr.{Csr, csr}
use Rattle.generator_action.specs.Mass.{Mass, given}
use Rattle.generator_action.specs.Generator.{Generator, forward}
use Rattle.combination.specs.Call.{Call}
use Rattle.taylor_schedule.proofs.Stored.{forward_is}
use Rattle.taylor_job.specs.Calls.{TaylorAnswer}
use Rattle.ambient_record.specs.Record.{record_call}
use Rattle.ambient_checks.specs.Inner.{log_of}
use Rattle.combination.specs.Combination.{field_of}
use Rattle.ambient_turns.specs.Inner.{turn_at, results_of}
use Rattle.ambient_turns.proofs.Turns.{shown_logged, step_is, turn_on, ended_early, ended_last, same_results}
use Rattle.ambient_turns.specs.declared.AmbientAnswer.TheVariants.{Logged}
use Rattle.ambient.proofs.run_records.Goals as goal

pub loop-i-init : goal.loop-i-init
unfolding turn_at results_of window
loop-i-init c = (omega arith, refl, refl, refl, omega arith, sym (splice_nil 0 _), left_start _ _ _)

pub shape_of-out-in_default : goal.shape_of-out-in_default
shape_of-out-in_default c = c.loop-i.invariant.1

pub shape_of-work-in_default : goal.shape_of-work-in_default
shape_of-work-in_default c = c.loop-i.invariant.2

pub shape_of-temperatures-in_default : goal.shape_of-temperatures-in_default
shape_of-temperatures-in_default c = c.loop-i.invariant.3

pub returns-in_default : goal.returns-in_default
returns-in_default c =
    let k = length c.args.durations.now in
    let n : c.loop-i.answer ≡ Logged → ⊥ = c.in_default.not-Logged in
    let e = same_results c.loop-i.i k c.loop-i.answer n in
    record { temperatures_after = ended_early _ c.loop-i.out c.loop-i.work c.loop-i.temperatures c.loop-i.answer n c.loop-i.invariant.6; durations_in_bounds = (omega (arith, e, c.loop-i.invariant.4, c.loop-i.invariant.0), rw (← e) c.loop-i.invariant.5) }

pub offset_bounds-levels-i : goal.offset_bounds-levels-i
offset_bounds-levels-i c = omega (arith, c.requires.logs.paired)

pub bounds-levels-i : goal.bounds-levels-i
bounds-levels-i c = omega (arith, c.requires.logs.paired)

pub record_call-call-requires : goal.record_call-call-requires
record_call-call-requires c =
    let h = c.requires.logs in
    record { passed = c.requires.passed; field_len = (h.fielded, h.loaded, c.loop-i.invariant.1 ∙ h.out) }

pub settle-answer-requires : goal.settle-answer-requires
settle-answer-requires c =
    let t : c.loop-i.i < length c.args.durations.now = c.loop-i-test.true in
    let h = c.requires.logs in
    (omega (arith, t, h.most), omega (arith, h.known, h.out, c.loop-i.invariant.1, c.record_call-call.auto.out), omega (arith, t, h.room, c.loop-i.invariant.3))

pub overflow_step-i : goal.overflow_step-i
overflow_step-i c = omega (arith, c.requires.logs.most)

pub loop-i-smaller : goal.loop-i-smaller
loop-i-smaller c = omega (arith, c.loop-i-test.true)

pub loop-i-preserved : goal.loop-i-preserved
loop-i-preserved c =
    let matrix : Csr = csr c.args.g.n c.args.starts.now c.args.cols.now c.args.vals.now in
    let masses : Mass = given c.args.g.with_mass c.args.mass.now in
    let called : ℕ → List Float → List Float → Generator → Call TaylorAnswer = λ i out work g. record_call g (at c.args.durations.now i) (at c.args.levels.now i) (field_of (eqb i 0) c.args.field.now out) c.args.load.now out work in
    let a = c.args in
    let t = c.loop-i-test.true in
    let logged = c.in-Logged.is in
    let made = c.record_call-call.ensures _ c.requires.value.0 ∙ ap (called c.loop-i.i c.loop-i.out c.loop-i.work) (forward_is matrix masses a.g c.requires.value.1) in
    let step = step_is (forward matrix masses) (log_of a.durations.now a.levels.now) a.load.now a.node a.field.now c.loop-i.i c.loop-i.out c.loop-i.work c.loop-i.temperatures _ c.settle-answer.result made c.settle-answer.ensures.temperatures_after in
    (omega (arith, t), c.record_call-call.auto.out ∙ c.loop-i.invariant.1, c.record_call-call.auto.work ∙ c.loop-i.invariant.2, c.settle-answer.auto.temperatures ∙ c.loop-i.invariant.3, c.settle-answer.ensures.i_bound.0, c.settle-answer.ensures.i_bound.1 a.temperatures.now (shown_logged c.loop-i.i a.temperatures.now logged c.loop-i.invariant.5), left_turn c.loop-i.invariant.6 _ _ t (turn_on (forward matrix masses) (log_of a.durations.now a.levels.now) a.load.now a.node a.field.now c.loop-i.i c.loop-i.out c.loop-i.work c.loop-i.temperatures logged) step)

pub shape_of-out : goal.shape_of-out
shape_of-out c = c.loop-i.invariant.1

pub shape_of-work : goal.shape_of-work
shape_of-work c = c.loop-i.invariant.2

pub shape_of-temperatures : goal.shape_of-temperatures
shape_of-temperatures c = c.loop-i.invariant.3

pub returns : goal.returns
returns c =
    let k = length c.args.durations.now in
    let e : c.loop-i.i ≡ k = omega arith in
    record { temperatures_after = ended_last _ c.loop-i.out c.loop-i.work c.loop-i.temperatures c.loop-i.answer e c.loop-i.invariant.6; durations_in_bounds = (rw e at c.loop-i.invariant.4, rw e at c.loop-i.invariant.5) }
