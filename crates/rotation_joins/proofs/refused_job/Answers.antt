-- `rotation_joins::refused_job` meets its contract. Assumes nothing.
use native.Mathlib.Omega.{arith}
use mathlib.Core.Path.{sym, ap, ◌∙◌}
use mathlib.Core.List.{[]}
use Rattle.krylov_job.specs.declared.RunJob.{RunJob}
use Rattle.krylov_job.proofs.Calls.{known}
use Rattle.checks.proofs.First.{passed_on, ends_sound}
use Rattle.rotation_joins.proofs.Full.{full_job, one_long, full_field, full_start, told_32, told_sound}
use Rattle.rotation_joins.proofs.refused_job.Goals as goal

pub returns-in_err-j : goal.returns-in_err-j
returns-in_err-j c gs starts cols vals mass output memory lent sound ok eo ew ef =
    let a = c.args in
    rw (passed_on c.from_residual.ensures.1) (full_job mass ok gs sound a.tau a.count a.w.now a.o output memory lent eo ew ef (c.admit_job.ensures [] ends_sound) c.in_err-j.was)

pub overflow_add-j : goal.overflow_add-j
overflow_add-j c =
    let k = known (sym (c.admit_job.ensures [] ends_sound) ∙ c.in_ok-j.was) in
    let is = k.is in
    record { fits = omega (arith, ap (λ (x : RunJob). x.g.n) is, ap (λ (x : RunJob). x.d) is, k.vectors.most, c.requires.0) }

pub returns-then-field-j : goal.returns-then-field-j
returns-then-field-j c gs starts cols vals mass output memory lent sound ok eo ew ef =
    let a = c.args in
    full_field mass ok gs sound a.tau a.count a.w.now a.o output memory lent eo ew ef (c.admit_job.ensures [] ends_sound) c.in_ok-j.was c.if-field-j.true c.not_a_number.ensures

pub goes_on-requires : goal.goes_on-requires
goes_on-requires c = one_long _ _ _ _ _ _ c.args.out _ (sym (c.admit_job.ensures [] ends_sound) ∙ c.in_ok-j.was)

pub returns-then-goes_on : goal.returns-then-goes_on
returns-then-goes_on c gs starts cols vals mass output memory lent sound ok eo ew ef =
    let a = c.args in
    full_start mass ok gs sound a.tau a.count a.w.now a.o output memory lent eo ew ef (c.admit_job.ensures [] ends_sound) c.in_ok-j.was c.if-field-j.false c.goes_on.ensures (told_32 c.if-goes_on.true c.not_a_number-then-goes_on.ensures)

pub returns : goal.returns
returns c gs starts cols vals mass output memory lent sound ok eo ew ef =
    let a = c.args in
    full_start mass ok gs sound a.tau a.count a.w.now a.o output memory lent eo ew ef (c.admit_job.ensures [] ends_sound) c.in_ok-j.was c.if-field-j.false c.goes_on.ensures (told_sound c.if-goes_on.false)
