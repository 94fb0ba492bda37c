-- `stage_calls::krylov_stage` meets its contract. Assumes nothing.
use native.Mathlib.Omega.{arith}
use mathlib.Core.Path.{◌≡◌, ap, ◌∙◌}
use mathlib.Core.List.{◌++◌}
use Prim.Native.Nat.{ℕ, ◌-◌}
use lib.ListN.{length}
use Rattle.lists.proofs.Window.{length_splice}
use Rattle.checks.specs.First.{first}
use Rattle.checks.proofs.First.{passed_on, refused_up, sound_on}
use Rattle.combination.specs.Checks.{finite_checks}
use Rattle.krylov_job.specs.KrylovCall.{dimension, option_checks}
use Rattle.combination.specs.Combination.{field_of}
use Rattle.stage_calls.proofs.OneStage.{dimension_small, krylov_fits, krylov_runs, krylov_refused, krylov_not_admitted, krylov_is}
use Rattle.stage_calls.proofs.krylov_stage.Goals as goal

pub returns-in_err-check_field : goal.returns-in_err-check_field
returns-in_err-check_field c gs sound =
    let a = c.args in
    rw (passed_on c.from_residual.ensures.1)
    (krylov_refused a.mass.now c.requires.passed a.tau a.count (field_of a.initial a.start.now a.out.now) a.vectors.now a.out.now a.work.now c.requires.whole.0 a.o c.requires.whole.1 (refused_up _ (option_checks a.o (dimension a.g.n (a.count - 1) a.o.m)) c.in_err-check_field.was c.check_field.ensures) gs sound c.in_err-check_field.was)

pub returns-in_err-check_options : goal.returns-in_err-check_options
unfolding dimension
returns-in_err-check_options c gs sound =
    rw (passed_on c.from_residual-in_err-check_options.ensures.1)
    (let told : let a = c.args in c.check_options.result ≡ first (finite_checks ((field_of a.initial a.start.now a.out.now) ++ a.vectors.now) ++ option_checks a.o (dimension a.g.n (a.count - 1) a.o.m)) = let a = c.args in
    sound_on _ _ c.in_ok-check_field.was c.check_field.ensures (c.check_options.ensures ∙ ap (λ (m : ℕ). first (option_checks a.o m)) c.clamp_m-m.ensures) in
    let a = c.args in
    krylov_refused a.mass.now c.requires.passed a.tau a.count (field_of a.initial a.start.now a.out.now) a.vectors.now a.out.now a.work.now c.requires.whole.0 a.o c.requires.whole.1 told gs sound c.in_err-check_options.was)

pub admit_run-requires : goal.admit_run-requires
unfolding dimension
admit_run-requires c =
    let told : let a = c.args in c.check_options.result ≡ first (finite_checks ((field_of a.initial a.start.now a.out.now) ++ a.vectors.now) ++ option_checks a.o (dimension a.g.n (a.count - 1) a.o.m)) = let a = c.args in
    sound_on _ _ c.in_ok-check_field.was c.check_field.ensures (c.check_options.ensures ∙ ap (λ (m : ℕ). first (option_checks a.o m)) c.clamp_m-m.ensures) in
    let a = c.args in
    let small = dimension_small a.mass.now c.requires.passed a.tau a.count (field_of a.initial a.start.now a.out.now) a.vectors.now a.out.now a.work.now c.requires.whole.0 a.o c.requires.whole.1 told c.in_ok-check_options.was in
    let h = c.requires.whole.0 in
    (omega (arith, h.rest), c.requires.passed.valid.few, omega (arith, h.most), rw c.clamp_m-m.ensures small, c.requires.passed.light)

pub returns-in_err-j : goal.returns-in_err-j
unfolding dimension
returns-in_err-j c gs sound =
    rw (passed_on c.from_residual-in_err-j.ensures.1)
    (let told : let a = c.args in c.check_options.result ≡ first (finite_checks ((field_of a.initial a.start.now a.out.now) ++ a.vectors.now) ++ option_checks a.o (dimension a.g.n (a.count - 1) a.o.m)) = let a = c.args in
    sound_on _ _ c.in_ok-check_field.was c.check_field.ensures (c.check_options.ensures ∙ ap (λ (m : ℕ). first (option_checks a.o m)) c.clamp_m-m.ensures) in
    let a = c.args in
    let refusal = c.in_err-j.was in
    krylov_not_admitted a.mass.now c.requires.passed a.tau a.count (field_of a.initial a.start.now a.out.now) a.vectors.now a.out.now a.work.now c.requires.whole.0 a.o c.requires.whole.1 told c.in_ok-check_options.was c.clamp_m-m.ensures c.admit_run.ensures gs sound refusal)

pub start_field-requires : goal.start_field-requires
unfolding dimension
start_field-requires c =
    let told : let a = c.args in c.check_options.result ≡ first (finite_checks ((field_of a.initial a.start.now a.out.now) ++ a.vectors.now) ++ option_checks a.o (dimension a.g.n (a.count - 1) a.o.m)) = let a = c.args in
    sound_on _ _ c.in_ok-check_field.was c.check_field.ensures (c.check_options.ensures ∙ ap (λ (m : ℕ). first (option_checks a.o m)) c.clamp_m-m.ensures) in
    let a = c.args in
    (c.requires.whole.0.fielded, krylov_fits a.mass.now c.requires.passed a.tau a.count (field_of a.initial a.start.now a.out.now) a.vectors.now a.out.now a.work.now c.requires.whole.0 a.o c.requires.whole.1 told c.in_ok-check_options.was c.clamp_m-m.ensures c.admit_run.ensures c.in_ok-j.was)

pub run_job-requires : goal.run_job-requires
unfolding dimension
run_job-requires c =
    let told : let a = c.args in c.check_options.result ≡ first (finite_checks ((field_of a.initial a.start.now a.out.now) ++ a.vectors.now) ++ option_checks a.o (dimension a.g.n (a.count - 1) a.o.m)) = let a = c.args in
    sound_on _ _ c.in_ok-check_field.was c.check_field.ensures (c.check_options.ensures ∙ ap (λ (m : ℕ). first (option_checks a.o m)) c.clamp_m-m.ensures) in
    let a = c.args in
    let r = krylov_runs a.mass.now c.requires.passed a.tau a.count (field_of a.initial a.start.now a.out.now) a.vectors.now a.out.now a.work.now c.requires.whole.0 a.o c.requires.whole.1 told c.in_ok-check_options.was c.clamp_m-m.ensures c.admit_run.ensures c.in_ok-j.was (ap length c.start_field.ensures ∙ length_splice _ _ a.work.now) in record { allowed = r.0; out_len = r.1 }

pub returns : goal.returns
unfolding dimension
returns c gs sound =
    let told : let a = c.args in c.check_options.result ≡ first (finite_checks ((field_of a.initial a.start.now a.out.now) ++ a.vectors.now) ++ option_checks a.o (dimension a.g.n (a.count - 1) a.o.m)) = let a = c.args in
    sound_on _ _ c.in_ok-check_field.was c.check_field.ensures (c.check_options.ensures ∙ ap (λ (m : ℕ). first (option_checks a.o m)) c.clamp_m-m.ensures) in
    let a = c.args in
    krylov_is a.mass.now c.requires.passed a.tau a.count (field_of a.initial a.start.now a.out.now) a.vectors.now a.out.now a.work.now c.requires.whole.0 a.o c.requires.whole.1 told c.in_ok-check_options.was c.clamp_m-m.ensures c.admit_run.ensures gs sound c.in_ok-j.was c.start_field.ensures c.run_job.ensures
