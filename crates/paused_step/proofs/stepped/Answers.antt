-- `paused_step::stepped` meets its contract. Assumes nothing.
use native.Mathlib.Omega.{arith}
use mathlib.Core.Path.{◌≡◌}
use mathlib.Core.List.{[]}
use Rattle.checks.proofs.First.{ends_sound}
use borrow.Author.Rules.{rules}
use Rattle.combination.proofs.Further.{part_further}
use Rattle.paused_advance.proofs.Steps.{refusal_given, value_given, handed_on, refused_job, within, refused_field, own_options, advances, stepped_is}
use Rattle.paused_step.proofs.stepped.Goals as goal

pub returns-in_err-j : goal.returns-in_err-j
returns-in_err-j c gs sound =
    let a = c.args in
    let admitted = own_options _ _ _ _ _ _ _ a.run a.tolerance c.tol_in-tol.ensures c.options_in-o.ensures (c.admit_job.ensures _ c.check_other-others.ensures) in
    let refusal = refusal_given _ _ _ c.in_err-j.was c.map_err.ensures.cases in
    let told : c.in_err-j.field-0.0 ≡ record { refusal = refusal.0; run = a.run } = search rules in
    rw (handed_on c.from_residual.ensures.1, told)
    (refused_job a.mass.now c.requires.passed gs sound a.run c.requires.run_value a.tolerance a.tau a.count a.w.now a.out.now a.work.now a.field.now admitted refusal.1.0)

pub overflow_add-n : goal.overflow_add-n
overflow_add-n c =
    let a = c.args in
    let admitted = own_options _ _ _ _ _ _ _ a.run a.tolerance c.tol_in-tol.ensures c.options_in-o.ensures (c.admit_job.ensures _ c.check_other-others.ensures) in
    let passed = value_given _ _ _ c.in_ok-j.was c.map_err.ensures.cases in
    let i = within a.mass.now c.requires.passed [] ends_sound a.run c.requires.run_value a.tolerance a.tau a.count a.w.now a.out.now a.work.now a.field.now admitted passed in
    omega (arith, i.0, c.requires.passed.valid.few)

pub returns-then-field-n : goal.returns-then-field-n
returns-then-field-n c gs sound =
    let a = c.args in
    let admitted = own_options _ _ _ _ _ _ _ a.run a.tolerance c.tol_in-tol.ensures c.options_in-o.ensures (c.admit_job.ensures _ c.check_other-others.ensures) in
    let passed = value_given _ _ _ c.in_ok-j.was c.map_err.ensures.cases in
    refused_field a.mass.now c.requires.passed gs sound a.run c.requires.run_value a.tolerance a.tau a.count a.w.now a.out.now a.work.now a.field.now admitted passed c.if-field-n.true c.not_a_number.ensures

pub offset_bounds-w-n : goal.offset_bounds-w-n
offset_bounds-w-n c = omega (arith, c.requires.passed.valid.few)

pub slice_bounds-advance-count : goal.slice_bounds-advance-count
slice_bounds-advance-count c =
    let a = c.args in
    let admitted = own_options _ _ _ _ _ _ _ a.run a.tolerance c.tol_in-tol.ensures c.options_in-o.ensures (c.admit_job.ensures _ c.check_other-others.ensures) in
    let passed = value_given _ _ _ c.in_ok-j.was c.map_err.ensures.cases in
    (within a.mass.now c.requires.passed [] ends_sound a.run c.requires.run_value a.tolerance a.tau a.count a.w.now a.out.now a.work.now a.field.now admitted passed).1

pub slice_bounds-advance-start : goal.slice_bounds-advance-start
slice_bounds-advance-start c =
    let a = c.args in
    let admitted = own_options _ _ _ _ _ _ _ a.run a.tolerance c.tol_in-tol.ensures c.options_in-o.ensures (c.admit_job.ensures _ c.check_other-others.ensures) in
    let passed = value_given _ _ _ c.in_ok-j.was c.map_err.ensures.cases in
    (within a.mass.now c.requires.passed [] ends_sound a.run c.requires.run_value a.tolerance a.tau a.count a.w.now a.out.now a.work.now a.field.now admitted passed).1

pub advance-requires : goal.advance-requires
advance-requires c =
    let a = c.args in
    let admitted = own_options _ _ _ _ _ _ _ a.run a.tolerance c.tol_in-tol.ensures c.options_in-o.ensures (c.admit_job.ensures _ c.check_other-others.ensures) in
    let passed = value_given _ _ _ c.in_ok-j.was c.map_err.ensures.cases in
    rw part_further (let r = advances a.mass.now c.requires.passed [] ends_sound a.run c.requires.run_value a.tolerance a.tau a.count a.w.now a.out.now a.work.now a.field.now admitted passed c.if-field-n.false in record { allowed = r.0; field_len = r.1.0; out_len = r.1.1 })

pub returns : goal.returns
returns c gs sound =
    let a = c.args in
    let admitted = own_options _ _ _ _ _ _ _ a.run a.tolerance c.tol_in-tol.ensures c.options_in-o.ensures (c.admit_job.ensures _ c.check_other-others.ensures) in
    let passed = value_given _ _ _ c.in_ok-j.was c.map_err.ensures.cases in
    stepped_is a.mass.now c.requires.passed gs sound a.run c.requires.run_value a.tolerance a.tau a.count a.w.now a.out.now a.work.now a.field.now admitted passed c.if-field-n.false c.tol_in-tol.ensures (rw part_further at c.advance.ensures)
