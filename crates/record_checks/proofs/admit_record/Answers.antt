-- `record_checks::admit_record` meets its contract. Assumes nothing.
use mathlib.Core.Path.{sym, ◌∙◌}
use Rattle.checks.proofs.First.{passed_on, stopped_or, told_or, ok_first}
use Rattle.combination.specs.Checks.{sweep_checks}
use Rattle.weighted_columns.proofs.Gains.{own_weights}
use Rattle.vectors.specs.Vectors.{scale}
use Rattle.record_checks.proofs.admit_record.Goals as goal

pub returns-in_err-inv : goal.returns-in_err-inv
unfolding sweep_checks
returns-in_err-inv c =
    let a = c.args in
    let p = c.powers_of_products-p.ensures in
    let x = own_weights a.g.n (scale a.level a.load.now) a.duration 1 p c.eta_scaling-eta.ensures (c.weigh_by.ensures _ _ p) in
    rw (passed_on c.from_residual.ensures.1) (stopped_or _ _ _ _ c.in_err-inv.was x)

pub returns : goal.returns
unfolding sweep_checks
returns c =
    let a = c.args in
    let p = c.powers_of_products-p.ensures in
    let x = own_weights a.g.n (scale a.level a.load.now) a.duration 1 p c.eta_scaling-eta.ensures (c.weigh_by.ensures _ _ p) in
    let weights = (ok_first _ _ (sym x ∙ c.in_ok-inv.was)).1 in
    told_or _ _ _ _ c.in_ok-inv.was x (rw (← weights, c.saturating_sub-lent.ensures) at c.plan_job.ensures)
