-- `taylor_plan::planned` meets its contract. Assumes nothing.
use mathlib.Core.Path.{sym, ap, ◌∙◌}
use lib.ListN.{length}
use Rattle.lists.proofs.Window.{length_splice}
use Rattle.checks.proofs.First.{passed_on}
use Rattle.taylor_plan.proofs.Plans.{admitted_known, refused_is, planned_is}
use Rattle.taylor_plan.proofs.planned.Goals as goal

pub returns-in_err-row : goal.returns-in_err-row
returns-in_err-row c gs sound =
    rw (passed_on c.from_residual.ensures.1)
    (let refusal = c.in_err-row.was in
    refused_is c.args.mass.now c.requires c.args.work.now gs sound c.args.tau c.args.cap c.admit_plan.ensures refusal)

pub from_row-p-requires : goal.from_row-p-requires
from_row-p-requires c =
    record { passed = c.requires; stored_in_bounds = (admitted_known c.args.g c.args.tau c.args.cap _ (sym c.admit_plan.ensures ∙ c.in_ok-row.was)).room }

pub finish-requires : goal.finish-requires
finish-requires c =
    let room = (admitted_known c.args.g c.args.tau c.args.cap _ (sym c.admit_plan.ensures ∙ c.in_ok-row.was)).room in
    rw (ap length c.from_row-p.ensures.work_after ∙ length_splice 0 _ c.args.work.now) room

pub returns : goal.returns
returns c gs sound =
    planned_is c.args.mass.now c.requires c.args.work.now gs sound c.args.tau c.args.cap c.admit_plan.ensures c.in_ok-row.was c.from_row-p.ensures.value c.cost-cost.ensures c.from_row-p.ensures.work_after c.finish.ensures.value c.finish.ensures.work_after
