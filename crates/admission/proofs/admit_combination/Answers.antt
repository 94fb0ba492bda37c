-- `admission::admit_combination` meets its contract. Assumes nothing.
use mathlib.Core.Path.{sym, ◌∙◌}
use Rattle.checks.proofs.First.{passed_on, stopped_or, told_or, ok_first}
use Rattle.combination.specs.Checks.{sweep_checks}
use Rattle.admission.proofs.admit_combination.Goals as goal

pub returns-in_err-inv : goal.returns-in_err-inv
unfolding sweep_checks
returns-in_err-inv c = rw (passed_on c.from_residual.ensures.1) (stopped_or _ _ _ _ c.in_err-inv.was c.weigh.ensures)

pub returns : goal.returns
unfolding sweep_checks
returns c =
    let x = (ok_first _ _ (sym c.weigh.ensures ∙ c.in_ok-inv.was)).1 in
    told_or _ _ _ _ c.in_ok-inv.was c.weigh.ensures (rw (← x) at c.plan_job.ensures)
