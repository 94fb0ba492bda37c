-- `taylor_schedule::check_schedule` meets its contract. Assumes nothing.
use Rattle.taylor_schedule.proofs.Rows.{row_endless, row_found}
use Rattle.taylor_schedule.proofs.check_schedule.Goals as goal

pub returns-then-not-is_finite : goal.returns-then-not-is_finite
returns-then-not-is_finite c = search row_endless

pub returns : goal.returns
returns c = search (row_found, c.ok_or.ensures.value)
