-- `taylor_schedule::plan_job` meets its contract. Assumes nothing.
use mathlib.Core.Path.{refl, sym, ap, ◌∙◌}
use Prim.Native.Nat.{ℕ}
use Rattle.checks.specs.First.{first}
use Rattle.checks.proofs.First.{passed_on, stopped_or, sound_or, ok_first, first_err, first_ok}
use Rattle.combination.specs.Checks.{memory_checks}
use Rattle.taylor_schedule.specs.Inner.{job_of}
use Rattle.taylor_schedule.proofs.plan_job.Goals as goal

pub returns-in_err-row : goal.returns-in_err-row
returns-in_err-row c = rw (passed_on c.from_residual.ensures.1) (stopped_or _ _ _ _ c.in_err-row.was c.check_schedule.ensures)

pub returns-in_err-check_memory : goal.returns-in_err-check_memory
returns-in_err-check_memory c =
    let a = c.args in
    let s = ok_first _ _ (sym c.check_schedule.ensures ∙ c.in_ok-row.was) in
    let e = c.check_memory.ensures ∙ ap (λ (need : ℕ). first (memory_checks a.memory need)) c.taylor_need-need.ensures in
    rw (passed_on c.from_residual-in_err-check_memory.ensures.1)
    (sound_or _ _ (job_of a.g a.tau a.cap a.d a.inv a.b) s.0 refl (sym (first_err _ _ (sym e ∙ c.in_err-check_memory.was))))

pub returns : goal.returns
returns c =
    let a = c.args in
    let s = ok_first _ _ (sym c.check_schedule.ensures ∙ c.in_ok-row.was) in
    let e = c.check_memory.ensures ∙ ap (λ (need : ℕ). first (memory_checks a.memory need)) c.taylor_need-need.ensures in
    sound_or _ _ (job_of a.g a.tau a.cap a.d a.inv a.b) s.0 refl (rw (c.taylor_need-need.ensures, ← s.1) (sym (first_ok _ _ (sym e ∙ c.in_ok-check_memory.was))))
