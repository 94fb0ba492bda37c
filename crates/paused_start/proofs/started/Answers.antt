-- `paused_start::started` meets its contract. Assumes nothing.
use native.Mathlib.Omega.{arith}
use mathlib.Core.Path.{sym, ap, ◌∙◌}
use mathlib.Core.List.{[]}
use Rattle.krylov_job.specs.declared.RunJob.{RunJob}
use Rattle.krylov_job.proofs.Calls.{known}
use Rattle.checks.proofs.First.{passed_on, ends_sound}
use Rattle.paused_start.proofs.Starts.{refused_job, refused_field, begins, out_long, started_is}
use Rattle.paused_start.proofs.started.Goals as goal

pub returns-in_err-j : goal.returns-in_err-j
returns-in_err-j c gs starts cols vals mass sound ok =
    rw (passed_on c.from_residual.ensures.1)
    (let a = c.args in
    let refusal = c.in_err-j.was in
    refused_job mass ok gs sound a.tau a.count a.w.now a.o a.out.now a.work.now a.field.now (c.admit_job.ensures [] ends_sound) refusal)

pub overflow_add-j : goal.overflow_add-j
overflow_add-j c =
    let k = known (sym (c.admit_job.ensures [] ends_sound) ∙ c.in_ok-j.was) in
    let is = k.is in
    omega (arith, ap (λ (x : RunJob). x.g.n) is, ap (λ (x : RunJob). x.d) is, k.vectors.most, c.requires.0)

pub returns-then-field-j : goal.returns-then-field-j
returns-then-field-j c gs starts cols vals mass sound ok =
    let a = c.args in
    refused_field mass ok gs sound a.tau a.count a.w.now a.o a.out.now a.work.now a.field.now (c.admit_job.ensures [] ends_sound) c.in_ok-j.was c.if-field-j.true c.not_a_number.ensures

pub begin-requires : goal.begin-requires
begin-requires c =
    let k = known (sym (c.admit_job.ensures [] ends_sound) ∙ c.in_ok-j.was) in
    record { d_bound = begins k; out_len = (out_long k, c.if-field-j.false) }

pub returns : goal.returns
returns c gs starts cols vals mass sound ok =
    let a = c.args in
    started_is mass ok gs sound a.tau a.count a.w.now a.o a.out.now a.work.now a.field.now (c.admit_job.ensures [] ends_sound) c.in_ok-j.was c.if-field-j.false c.begin.ensures
