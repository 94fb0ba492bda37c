-- `taylor_plan::admit_plan` meets its contract. Assumes nothing.
use mathlib.Core.Path.{sym, ap, ◌∙◌}
use Rattle.std.specs.Prelude.{Ok}
use Rattle.checks.proofs.First.{passed_on, refused_or, stopped_or, sound_or, told_or, ok_first, first_err, first_ok}
use Rattle.taylor_plan.proofs.admit_plan.Goals as goal

pub returns-in_err-check_plan : goal.returns-in_err-check_plan
returns-in_err-check_plan c = rw (passed_on c.from_residual.ensures.1) (refused_or _ _ _ c.in_err-check_plan.was c.check_plan.ensures)

pub returns-in_err-row : goal.returns-in_err-row
returns-in_err-row c =
    rw (passed_on c.from_residual-in_err-row.ensures.1)
    (sound_or _ _ _ c.in_ok-check_plan.was c.check_plan.ensures (stopped_or _ _ _ _ c.in_err-row.was c.check_schedule.ensures))

pub returns-in_err-check_memory : goal.returns-in_err-check_memory
returns-in_err-check_memory c =
    rw (passed_on c.from_residual-in_err-check_memory.ensures.1)
    (sound_or _ _ _ c.in_ok-check_plan.was c.check_plan.ensures
    (told_or _ _ _ _ c.in_ok-row.was c.check_schedule.ensures (sym (first_err _ _ (sym c.check_memory.ensures ∙ c.in_err-check_memory.was)))))

pub returns : goal.returns
returns c =
    let row_is = (ok_first _ _ (sym c.check_schedule.ensures ∙ c.in_ok-row.was)).1 in
    sound_or _ _ _ c.in_ok-check_plan.was c.check_plan.ensures
    (told_or _ _ _ _ c.in_ok-row.was c.check_schedule.ensures (ap Ok (sym row_is) ∙ sym (first_ok _ _ (sym c.check_memory.ensures ∙ c.in_ok-check_memory.was))))
