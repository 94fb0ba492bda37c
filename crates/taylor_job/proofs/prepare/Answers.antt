-- `taylor_job::prepare` meets its contract. Assumes nothing.
use Rattle.taylor_schedule.proofs.Stored.{store_fits, matrix_valid, stored_in}
use Rattle.taylor_job.proofs.Jobs.{held, plan_is}
use Rattle.taylor_job.proofs.prepare.Goals as goal

pub store_quotients-requires : goal.store_quotients-requires
store_quotients-requires c =
    let p = c.requires in
    record { valid = p.passed.valid; divided = p.passed.divided; vals_in_bounds = store_fits (held p c.layout-l.ensures) }

pub shift_at-shift-requires : goal.shift_at-shift-requires
shift_at-shift-requires c =
    let p = c.requires in
    let h = held p c.layout-l.ensures in
    record { valid = matrix_valid h c.store_quotients.ensures; vals_in_bounds = stored_in h c.store_quotients.ensures }

pub returns : goal.returns
returns c =
    let p = c.requires in
    let el = c.layout-l.ensures in
    let e = rw el at c.store_quotients.ensures in
    record { value = plan_is p el e c.shift_at-shift.ensures c.with_shift.ensures; work_after = e }
