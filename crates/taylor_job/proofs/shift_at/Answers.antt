-- `taylor_job::shift_at` meets its contract. Assumes nothing.
use native.Mathlib.Omega.{arith}
use Rattle.lists.proofs.Window.{part_window}
use Rattle.csr_matvec.proofs.Values.{values_stored, values_given}
use Rattle.taylor_job.proofs.shift_at.Goals as goal

pub overflow_add-to : goal.overflow_add-to
overflow_add-to c = omega (arith, c.requires.vals_in_bounds c.if-l.true)

pub offset_bounds-work-from : goal.offset_bounds-work-from
offset_bounds-work-from c = omega (arith, c.requires.vals_in_bounds c.if-l.true)

pub negated_csr_shift-requires : goal.negated_csr_shift-requires
negated_csr_shift-requires c =
    let a = c.args in
    rw (part_window a.l.q _ a.work.now, ← values_stored a.l.mass a.l.q a.vals.now a.work.now c.if-l.true) c.requires.valid

pub returns-then-l : goal.returns-then-l
returns-then-l c =
    let a = c.args in
    rw (values_stored a.l.mass a.l.q a.vals.now a.work.now c.if-l.true, ← part_window a.l.q _ a.work.now) c.negated_csr_shift.ensures

pub negated_csr_shift-requires-2 : goal.negated_csr_shift-requires-2
negated_csr_shift-requires-2 c =
    let a = c.args in
    rw (← values_given a.l.mass a.l.q a.vals.now a.work.now c.if-l.false) c.requires.valid

pub returns : goal.returns
returns c =
    let a = c.args in
    rw (values_given a.l.mass a.l.q a.vals.now a.work.now c.if-l.false) c.negated_csr_shift-2.ensures
