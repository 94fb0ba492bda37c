-- `ambient::ambient` meets its contract. Assumes nothing.
use native.Mathlib.Omega.{arith}
use mathlib.Core.Path.{◌≡◌, refl, sym, ◌∙◌}
use mathlib.Core.List.{◌++◌}
use lib.ListN.{length}
use Rattle.checks.specs.First.{first}
use Rattle.checks.proofs.First.{sound_append}
use Rattle.checks.proofs.First as checks
use Rattle.general_operator.specs.Csr.{Csr, csr}
use Rattle.generator_action.specs.Mass.{Mass, given}
use Rattle.generator_action.specs.Generator.{forward}
use Rattle.generator_action.proofs.Answered.{refusal_told, norm_told, passed}
use Rattle.ambient_checks.specs.Log.{Log, Places, field_checks, log_checks}
use Rattle.ambient_checks.specs.Inner.{log_of, places}
use Rattle.ambient_checks.proofs.Checks.{Logged, log_known}
use Rattle.ambient_turns.specs.Ambient.{ambient_checks}
use Rattle.ambient_turns.proofs.Whole.{checks_told, matrix_refused, ambient_refused, ambient_is, logs_known}
use Rattle.checks.proofs.First.{sound_left}
use Rattle.ambient.proofs.ambient.Goals as goal
use Rattle.checks.specs.Reasons.{Sound}

pub returns-in-Err : goal.returns-in-Err
returns-in-Err c =
    let matrix : Csr = csr c.args.n c.args.starts.now c.args.cols.now c.args.vals.now in
    let masses : Mass = given c.args.with_mass c.args.mass.now in
    let logs : Log = log_of c.args.durations.now c.args.levels.now in
    let long : Places = places (length c.args.temperatures.now) (length c.args.largest.now) (length c.args.smallest.now) in
    let a = c.args in
    let refusal = c.in-Err.is in
    let told_refusal = refusal_told matrix masses c.check_generator-matrix.ensures refusal in
    ambient_refused (forward matrix masses) logs a.field.now a.load.now a.window a.node a.out.now a.work.now a.temperatures.now a.largest.now a.smallest.now
    (matrix_refused matrix masses logs a.field.now a.load.now a.window a.node (length a.out.now) long told_refusal)
    refl

pub returns-in-Err-and_then : goal.returns-in-Err-and_then
returns-in-Err-and_then c =
    let matrix : Csr = csr c.args.n c.args.starts.now c.args.cols.now c.args.vals.now in
    let masses : Mass = given c.args.with_mass c.args.mass.now in
    let logs : Log = log_of c.args.durations.now c.args.levels.now in
    let long : Places = places (length c.args.temperatures.now) (length c.args.largest.now) (length c.args.smallest.now) in
    let told : c.and_then.result ≡ first (field_checks c.args.n c.args.field.now c.args.load.now (length c.args.out.now) ++ log_checks c.args.n logs c.args.window c.args.node long) = c.and_then.ensures _ _ c.check_fields-fields.ensures c.check_log-log.ensures in
    let whole : c.and_then.result ≡ first (ambient_checks (forward matrix masses) logs c.args.field.now c.args.load.now c.args.window c.args.node (length c.args.out.now) long) = let norm = norm_told matrix masses c.check_generator-matrix.ensures c.in-Ok.is in
    checks_told matrix masses logs c.args.field.now c.args.load.now c.args.window c.args.node (length c.args.out.now) long norm.sound told in
    let a = c.args in
    let refusal = c.in-Err-and_then.is in
    ambient_refused (forward matrix masses) logs a.field.now a.load.now a.window a.node a.out.now a.work.now a.temperatures.now a.largest.now a.smallest.now whole refusal

pub run_records-answer-requires : goal.run_records-answer-requires
run_records-answer-requires c =
    let matrix : Csr = csr c.args.n c.args.starts.now c.args.cols.now c.args.vals.now in
    let masses : Mass = given c.args.with_mass c.args.mass.now in
    let logs : Log = log_of c.args.durations.now c.args.levels.now in
    let long : Places = places (length c.args.temperatures.now) (length c.args.largest.now) (length c.args.smallest.now) in
    let told : c.and_then.result ≡ first (field_checks c.args.n c.args.field.now c.args.load.now (length c.args.out.now) ++ log_checks c.args.n logs c.args.window c.args.node long) = c.and_then.ensures _ _ c.check_fields-fields.ensures c.check_log-log.ensures in
    let parts : (e : c.and_then.result ≡ Sound) → (Sound ≡ first (field_checks c.args.n c.args.field.now c.args.load.now (length c.args.out.now))) × (Sound ≡ first (log_checks c.args.n logs c.args.window c.args.node long)) = λ e. sound_append _ _ (sym e ∙ told) in
    let a = c.args in
    let norm = norm_told matrix masses c.check_generator-matrix.ensures c.in-Ok.is in
    let p = parts (sound_left c.in_default.not-Err) in
    let e = c.generator_shape-g.ensures a.starts.now a.cols.now a.vals.now a.mass.now refl in
    record {
      passed = rw e (passed matrix a.with_mass a.mass.now norm);
      value = rw e (norm.sound, refl);
      logs = rw e (logs_known a.n logs a.field.now a.load.now a.window a.node (length a.out.now) (length a.temperatures.now) (length a.largest.now) (length a.smallest.now) p.0 p.1);
    }

pub show_extremes-requires : goal.show_extremes-requires
show_extremes-requires c =
    let logs : Log = log_of c.args.durations.now c.args.levels.now in
    let long : Places = places (length c.args.temperatures.now) (length c.args.largest.now) (length c.args.smallest.now) in
    let told : c.and_then.result ≡ first (field_checks c.args.n c.args.field.now c.args.load.now (length c.args.out.now) ++ log_checks c.args.n logs c.args.window c.args.node long) = c.and_then.ensures _ _ c.check_fields-fields.ensures c.check_log-log.ensures in
    let parts : (e : c.and_then.result ≡ Sound) → (Sound ≡ first (field_checks c.args.n c.args.field.now c.args.load.now (length c.args.out.now))) × (Sound ≡ first (log_checks c.args.n logs c.args.window c.args.node long)) = λ e. sound_append _ _ (sym e ∙ told) in
    let known : (e : c.and_then.result ≡ Sound) → Logged c.args.n logs c.args.window c.args.node long = λ e. log_known c.args.n logs c.args.window c.args.node long (parts e).1 in
    let n = c.results_of-count.ensures in
    let k = known (sound_left c.in_default.not-Err) in
    let few = c.run_records-answer.ensures.durations_in_bounds.0 in
    record { le_width = (k.wide, omega (arith, n, few, k.most)); count_in_bounds = (omega (arith, n, few, k.temperatures, c.run_records-answer.auto.temperatures), omega (arith, n, few, k.largest), omega (arith, n, few, k.smallest)) }

pub returns : goal.returns
returns c =
    let matrix : Csr = csr c.args.n c.args.starts.now c.args.cols.now c.args.vals.now in
    let masses : Mass = given c.args.with_mass c.args.mass.now in
    let logs : Log = log_of c.args.durations.now c.args.levels.now in
    let long : Places = places (length c.args.temperatures.now) (length c.args.largest.now) (length c.args.smallest.now) in
    let told : c.and_then.result ≡ first (field_checks c.args.n c.args.field.now c.args.load.now (length c.args.out.now) ++ log_checks c.args.n logs c.args.window c.args.node long) = c.and_then.ensures _ _ c.check_fields-fields.ensures c.check_log-log.ensures in
    let whole : c.and_then.result ≡ first (ambient_checks (forward matrix masses) logs c.args.field.now c.args.load.now c.args.window c.args.node (length c.args.out.now) long) = let norm = norm_told matrix masses c.check_generator-matrix.ensures c.in-Ok.is in
    checks_told matrix masses logs c.args.field.now c.args.load.now c.args.window c.args.node (length c.args.out.now) long norm.sound told in
    let parts : (e : c.and_then.result ≡ Sound) → (Sound ≡ first (field_checks c.args.n c.args.field.now c.args.load.now (length c.args.out.now))) × (Sound ≡ first (log_checks c.args.n logs c.args.window c.args.node long)) = λ e. sound_append _ _ (sym e ∙ told) in
    let known : (e : c.and_then.result ≡ Sound) → Logged c.args.n logs c.args.window c.args.node long = λ e. log_known c.args.n logs c.args.window c.args.node long (parts e).1 in
    let x = c.show_extremes.ensures in
    let n = c.results_of-count.ensures in
    let a = c.args in
    let k = known (sound_left c.in_default.not-Err) in
    let walked = rw (c.generator_shape-g.ensures a.starts.now a.cols.now a.vals.now a.mass.now refl) at c.run_records-answer.ensures.temperatures_after in
    ambient_is (forward matrix masses) logs a.field.now a.load.now a.window a.node a.out.now a.work.now a.temperatures.now a.largest.now a.smallest.now whole _ (sound_left c.in_default.not-Err) k.wide k.temperatures walked c.run_records-answer.ensures.durations_in_bounds.0 c.run_records-answer.ensures.durations_in_bounds.1 n x.high_after x.low_after
