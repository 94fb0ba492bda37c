-- `stages::stages` meets its contract. Assumes nothing.
use mathlib.Core.Path.{refl, sym, ap, ◌∙◌}
use Rattle.checks.proofs.First.{refused_up, sound_on}
use Rattle.checks.proofs.First as checks
use Rattle.general_operator.specs.Csr.{Csr, csr}
use Rattle.generator_action.specs.Mass.{Mass, given, generator_checks}
use Rattle.generator_action.specs.Generator.{forward}
use Rattle.generator_action.proofs.Answered.{refusal_told, norm_told, passed}
use Rattle.schedule_checks.specs.Schedule.{Schedule}
use Rattle.stage_calls.specs.Stages.{concluded}
use Rattle.schedule_checks.specs.Inner.{schedule_of}
use Rattle.stages.proofs.Turns.{staged_refused, staged_is}
use Rattle.checks.proofs.First.{sound_left}
use Rattle.stages.proofs.stages.Goals as goal

pub returns-in-Err : goal.returns-in-Err
returns-in-Err c =
    let matrix : Csr = csr c.args.n c.args.starts.now c.args.cols.now c.args.vals.now in
    let masses : Mass = given c.args.with_mass c.args.mass.now in
    let schedule : Schedule = schedule_of c.args.taus.now c.args.counts.now c.args.solvers.now c.args.degrees.now c.args.tols.now c.args.ms.now c.args.limits.now in
    let a = c.args in
    let refusal = c.in-Err.is in
    let told = refusal_told matrix masses c.check_generator-matrix.ensures refusal in
    staged_refused (forward matrix masses) schedule a.start.now a.further.now a.out.now a.work.now (refused_up (generator_checks matrix masses) _ refl told) refl

pub returns-in-Err-schedule : goal.returns-in-Err-schedule
returns-in-Err-schedule c =
    let matrix : Csr = csr c.args.n c.args.starts.now c.args.cols.now c.args.vals.now in
    let masses : Mass = given c.args.with_mass c.args.mass.now in
    let schedule : Schedule = schedule_of c.args.taus.now c.args.counts.now c.args.solvers.now c.args.degrees.now c.args.tols.now c.args.ms.now c.args.limits.now in
    let a = c.args in
    let norm = norm_told matrix masses c.check_generator-matrix.ensures c.in-Ok.is in
    let refusal = c.in-Err-schedule.is in
    staged_refused (forward matrix masses) schedule a.start.now a.further.now a.out.now a.work.now (sound_on (generator_checks matrix masses) _ refl norm.sound c.check_schedule-schedule.ensures) refusal

pub run_stages-requires : goal.run_stages-requires
run_stages-requires c =
    let matrix : Csr = csr c.args.n c.args.starts.now c.args.cols.now c.args.vals.now in
    let masses : Mass = given c.args.with_mass c.args.mass.now in
    let a = c.args in
    let norm = norm_told matrix masses c.check_generator-matrix.ensures c.in-Ok.is in
    let scheduled = sym (sound_left c.in_default.not-Err) ∙ c.check_schedule-schedule.ensures in
    let e = c.generator_shape-g.ensures a.starts.now a.cols.now a.vals.now a.mass.now refl in
    record { passed = rw e (passed matrix a.with_mass a.mass.now norm); value = rw e (norm.sound, refl); value_2 = scheduled }

pub returns : goal.returns
returns c =
    let matrix : Csr = csr c.args.n c.args.starts.now c.args.cols.now c.args.vals.now in
    let masses : Mass = given c.args.with_mass c.args.mass.now in
    let schedule : Schedule = schedule_of c.args.taus.now c.args.counts.now c.args.solvers.now c.args.degrees.now c.args.tols.now c.args.ms.now c.args.limits.now in
    let a = c.args in
    let norm = norm_told matrix masses c.check_generator-matrix.ensures c.in-Ok.is in
    let walked = rw (c.generator_shape-g.ensures a.starts.now a.cols.now a.vals.now a.mass.now refl) at c.run_stages.ensures in
    staged_is (forward matrix masses) schedule a.start.now a.further.now a.out.now a.work.now (sound_on (generator_checks matrix masses) _ refl norm.sound c.check_schedule-schedule.ensures) (sound_left c.in_default.not-Err) (c.conclude.ensures _ _ _ ∙ ap concluded walked)
