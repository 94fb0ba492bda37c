-- `stage_calls::taylor_stage` meets its contract. Assumes nothing.
use mathlib.Core.Path.{sym, ap, ◌∙◌}
use lib.ListN.{length}
use Rattle.lists.proofs.Window.{length_splice}
use Rattle.checks.proofs.First.{passed_on}
use Rattle.combination.specs.Combination.{field_of}
use Rattle.stage_calls.proofs.OneStage.{taylor_fits, taylor_runs, taylor_refused, taylor_not_admitted, taylor_is}
use Rattle.stage_calls.proofs.taylor_stage.Goals as goal

pub returns-in_err-check_field : goal.returns-in_err-check_field
returns-in_err-check_field c gs sound =
    rw (passed_on c.from_residual.ensures.1)
    (let a = c.args in
    let refusal = c.in_err-check_field.was in
    taylor_refused a.mass.now c.requires.passed a.tau a.count (field_of a.initial a.start.now a.out.now) a.vectors.now a.out.now a.work.now c.requires.whole.0 a.cap gs sound c.requires.whole.1 c.check_field.ensures refusal)

pub returns-in_err-j : goal.returns-in_err-j
returns-in_err-j c gs sound =
    rw (passed_on c.from_residual-in_err-j.ensures.1)
    (let a = c.args in
    let refusal = c.in_err-j.was in
    taylor_not_admitted a.mass.now c.requires.passed a.tau a.count (field_of a.initial a.start.now a.out.now) a.vectors.now a.out.now a.work.now c.requires.whole.0 a.cap gs sound c.requires.whole.1 c.check_field.ensures c.in_ok-check_field.was c.admit_combination.ensures refusal)

pub start_field-requires : goal.start_field-requires
start_field-requires c =
    let a = c.args in
    (c.requires.whole.0.fielded, taylor_fits a.mass.now c.requires.passed a.tau a.count (field_of a.initial a.start.now a.out.now) a.vectors.now a.out.now a.work.now c.requires.whole.0 a.cap (sym c.admit_combination.ensures ∙ c.in_ok-j.was))

pub run_job-requires : goal.run_job-requires
run_job-requires c =
    let a = c.args in
    let r = taylor_runs a.mass.now c.requires.passed a.tau a.count (field_of a.initial a.start.now a.out.now) a.vectors.now a.out.now a.work.now c.requires.whole.0 a.cap (sym c.admit_combination.ensures ∙ c.in_ok-j.was) (ap length c.start_field.ensures ∙ length_splice 0 _ a.work.now) in record { allowed = r.0; coupled = r.1 }

pub returns : goal.returns
returns c gs sound =
    let a = c.args in
    taylor_is a.mass.now c.requires.passed a.tau a.count (field_of a.initial a.start.now a.out.now) a.vectors.now a.out.now a.work.now c.requires.whole.0 a.cap gs sound c.requires.whole.1 c.check_field.ensures c.in_ok-check_field.was c.admit_combination.ensures c.in_ok-j.was c.start_field.ensures c.run_job.ensures
