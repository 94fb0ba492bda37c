-- `taylor_plan::from_row` meets its contract. Assumes nothing.
use Rattle.taylor_schedule.proofs.Stored.{matrix_valid, stored_in}
use Rattle.taylor_plan.proofs.Plans.{held, quotients_fit, written, shifted_is}
use Rattle.taylor_plan.proofs.from_row.Goals as goal

pub store_quotients-requires : goal.store_quotients-requires
store_quotients-requires c =
    record { valid = c.requires.passed.valid; divided = c.requires.passed.divided; vals_in_bounds = quotients_fit _ c.requires.passed c.args.work.now c.requires.stored_in_bounds }

pub shift_at-shift-requires : goal.shift_at-shift-requires
shift_at-shift-requires c =
    let p = c.requires in
    let el = c.quotients_alone-l.ensures in
    let h = held _ p.passed _ p.stored_in_bounds el in
    let e = written _ p.passed _ p.stored_in_bounds el c.store_quotients.ensures in
    record { valid = matrix_valid h e; vals_in_bounds = stored_in h e }

pub returns : goal.returns
returns c =
    let p = c.requires in
    let el = c.quotients_alone-l.ensures in
    record { value = shifted_is _ p.passed _ p.stored_in_bounds el c.store_quotients.ensures _ _ _ c.shift_at-shift.ensures c.with_shift.ensures; work_after = c.store_quotients.ensures }
