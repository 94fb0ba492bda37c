-- `taylor_sweeps::sweep` meets its contract. Assumes nothing.
use native.Mathlib.Omega.{arith}
use borrow.Author.Rules.{rules}
use Rattle.phi_action_helpers.proofs.Sweeps.{made_is, rescaled}
use Rattle.taylor_sweeps.proofs.sweep.Goals as goal

pub overflow_add-result : goal.overflow_add-result
overflow_add-result c = omega (arith, made_is c.args.x.o.l _ _ _ _ _ _ c.aug_horner_outer-made.ensures.work_after, c.requires.lined)

pub returns : goal.returns
returns c =
    let pre = c.requires in
    let r = rescaled _ _ _ _ _ c.aug_horner_outer-made.result _ c.args.work.now _ _ pre.lined.0 pre.ready.av_in pre.lined.1 c.aug_horner_outer-made.ensures.work_after c.aug_horner_outer-made.ensures.kept c.rescale_in.ensures in record { work_after = r.0; kept = r.1 }
