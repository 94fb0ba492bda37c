-- `stages::run_stages` meets its contract. Assumes nothing.
use native.Mathlib.Omega.{arith}
use mathlib.Core.Path.{refl, sym, ap, ◌∙◌, subst}
use Prim.Native.Nat.{ℕ, ◌+◌, ◌≤◌, ◌<◌}
use mathlib.Core.List.{List}
use lib.Dec.{eqb}
use lib.ListN.{length}
use lib.Ieee.{Float}
use Rattle.lists.proofs.Walk.{left_start, left_turn, left_none}
use Rattle.general_operator.specs.Csr.{Csr, csr}
use Rattle.generator_action.specs.Mass.{Mass, given}
use Rattle.generator_action.specs.Generator.{Generator, forward}
use Rattle.combination.specs.Call.{Call}
use Rattle.taylor_schedule.proofs.Stored.{forward_is, quotients_rows}
use Rattle.phi_solver.specs.Combine.{PhiAnswer}
use Rattle.schedule_checks.specs.declared.Stage.{Stage}
use Rattle.schedule_checks.specs.Schedule.{Schedule}
use Rattle.schedule_checks.specs.Inner.{schedule_of, Few, Moderate, turn_at, Even}
use Rattle.combination.specs.Combination.{field_of}
use Rattle.stage_calls.specs.Inner.{stage_end}
use Rattle.schedule_checks.proofs.Checks.{schedule_known}
use Rattle.stages.proofs.Few.{few_end}
use Rattle.combination.proofs.Further.{later_field}
use Rattle.stages.proofs.Turns.{step_is, turn_on, turn_ended}
use Rattle.stages.proofs.run_stages.Goals as goal

pub loop-i-init : goal.loop-i-init
unfolding turn_at
loop-i-init c = (omega arith, refl, refl, (omega arith, omega arith, omega arith, omega arith), left_start _ _ _)

pub shape_of-out-in_default : goal.shape_of-out-in_default
shape_of-out-in_default c = c.loop-i.invariant.1

pub shape_of-work-in_default : goal.shape_of-work-in_default
shape_of-work-in_default c = c.loop-i.invariant.2

pub returns-in_default : goal.returns-in_default
returns-in_default c = turn_ended c.loop-i.turn _ c.loop-i.out c.loop-i.work c.in_default.is c.loop-i.invariant.4

pub stage_at-s-requires : goal.stage_at-s-requires
stage_at-s-requires c =
    let schedule : Schedule = schedule_of c.args.taus.now c.args.counts.now c.args.solvers.now c.args.degrees.now c.args.tols.now c.args.ms.now c.args.limits.now in
    let even : Even schedule = schedule_known schedule refl c.requires.value_2 in
    let e = even in
    let h : c.loop-i.i < length c.args.taus.now = c.loop-i-test.true in
    (h, omega (arith, h, e.counts), omega (arith, h, e.solvers), omega (arith, h, e.degrees), omega (arith, h, e.tols), omega (arith, h, e.ms), omega (arith, h, e.limits))

pub overflow_add-i : goal.overflow_add-i
overflow_add-i c =
    let schedule : Schedule = schedule_of c.args.taus.now c.args.counts.now c.args.solvers.now c.args.degrees.now c.args.tols.now c.args.ms.now c.args.limits.now in
    let even : Even schedule = schedule_known schedule refl c.requires.value_2 in
    omega (arith, even.most)

pub run_stage-answer-requires : goal.run_stage-answer-requires
run_stage-answer-requires c =
    let schedule : Schedule = schedule_of c.args.taus.now c.args.counts.now c.args.solvers.now c.args.degrees.now c.args.tols.now c.args.ms.now c.args.limits.now in
    let even : Even schedule = schedule_known schedule refl c.requires.value_2 in
    let f = subst (Moderate c.loop-i.i) c.in-Ok.is c.loop-i.invariant.3 in
    record { passed = c.requires.passed; used_bound = omega (arith, f.0, even.most) }

pub settle-turn-requires : goal.settle-turn-requires
settle-turn-requires c =
    let matrix : Csr = csr c.args.g.n c.args.starts.now c.args.cols.now c.args.vals.now in
    let masses : Mass = given c.args.g.with_mass c.args.mass.now in
    let ended : Stage → ℕ → ℕ → List Float → List Float → Generator → Call PhiAnswer = λ x i used out work g. stage_end g x (eqb (i + 1) (length c.args.taus.now)) used c.args.further.now (field_of (eqb i 0) c.args.start.now out) out work in
    let schedule : Schedule = schedule_of c.args.taus.now c.args.counts.now c.args.solvers.now c.args.degrees.now c.args.tols.now c.args.ms.now c.args.limits.now in
    let even : Even schedule = schedule_known schedule refl c.requires.value_2 in
    let f = subst (Moderate c.loop-i.i) c.in-Ok.is c.loop-i.invariant.3 in
    let made = c.run_stage-answer.ensures _ c.requires.value.0 ∙ ap (ended c.stage_at-s.result c.loop-i.i c.in-Ok.p.used c.loop-i.out c.loop-i.work) (forward_is matrix masses c.args.g c.requires.value.1) in
    (omega (arith, even.most, c.loop-i-test.true), f, c.requires.passed.valid.few, subst (Few c.stage_at-s.result.count) (ap (λ (x : Call PhiAnswer). x.answer) (sym made)) (few_end matrix masses c.stage_at-s.result _ _ c.args.further.now _ c.loop-i.out c.loop-i.work))

pub overflow_step-i : goal.overflow_step-i
overflow_step-i c =
    let schedule : Schedule = schedule_of c.args.taus.now c.args.counts.now c.args.solvers.now c.args.degrees.now c.args.tols.now c.args.ms.now c.args.limits.now in
    let even : Even schedule = schedule_known schedule refl c.requires.value_2 in
    omega (arith, even.most)

pub loop-i-smaller : goal.loop-i-smaller
loop-i-smaller c = omega (arith, c.loop-i-test.true)

pub loop-i-preserved : goal.loop-i-preserved
loop-i-preserved c =
    let matrix : Csr = csr c.args.g.n c.args.starts.now c.args.cols.now c.args.vals.now in
    let masses : Mass = given c.args.g.with_mass c.args.mass.now in
    let schedule : Schedule = schedule_of c.args.taus.now c.args.counts.now c.args.solvers.now c.args.degrees.now c.args.tols.now c.args.ms.now c.args.limits.now in
    let ended : Stage → ℕ → ℕ → List Float → List Float → Generator → Call PhiAnswer = λ x i used out work g. stage_end g x (eqb (i + 1) (length c.args.taus.now)) used c.args.further.now (field_of (eqb i 0) c.args.start.now out) out work in
    let a = c.args in
    let p = c.in-Ok.p in
    let made = c.run_stage-answer.ensures _ c.requires.value.0 ∙ ap (ended c.stage_at-s.result c.loop-i.i p.used c.loop-i.out c.loop-i.work) (forward_is matrix masses a.g c.requires.value.1) in
    let step = step_is (forward matrix masses) a.g.n (quotients_rows matrix masses) schedule a.further.now a.start.now c.loop-i.i p c.loop-i.out c.loop-i.work c.settle-turn.result c.stage_at-s.ensures made (c.settle-turn.ensures.memory_value _ _) in
    (omega (arith, c.loop-i-test.true), c.run_stage-answer.auto.out ∙ c.loop-i.invariant.1, c.run_stage-answer.auto.work ∙ c.loop-i.invariant.2, c.settle-turn.ensures.moderate, left_turn c.loop-i.invariant.4 _ _ c.loop-i-test.true (turn_on c.loop-i.turn p _ c.loop-i.out c.loop-i.work c.in-Ok.is) step)

pub shape_of-out : goal.shape_of-out
shape_of-out c = c.loop-i.invariant.1

pub shape_of-work : goal.shape_of-work
shape_of-work c = c.loop-i.invariant.2

pub returns : goal.returns
returns c =
    let schedule : Schedule = schedule_of c.args.taus.now c.args.counts.now c.args.solvers.now c.args.degrees.now c.args.tols.now c.args.ms.now c.args.limits.now in
    let even : Even schedule = schedule_known schedule refl c.requires.value_2 in
    let k = length c.args.taus.now in
    let n : k ≤ c.loop-i.i = omega arith in
    ap (λ (y : List Float). turn_at c.loop-i.turn y c.loop-i.out c.loop-i.work) (sym (later_field c.loop-i.i c.args.start.now c.loop-i.out (omega (arith, n, even.some)))) ∙ left_none c.loop-i.invariant.4 n
