-- `taylor_sweeps::aug_horner_outer` meets its contract. Assumes nothing.
use Rattle.phi_action_helpers.proofs.Sweeps.{ready_kept, copied, swept_once}
use Rattle.taylor_sweeps.proofs.aug_horner_outer.Goals as goal

pub terms-requires : goal.terms-requires
terms-requires c =
    record { ready = ready_kept _ _ _ c.args.x.o.vectors.now (copied _ _ _ c.requires.lined c.requires.ready.av_in c.copy_in.ensures).1 c.requires.ready; lined = c.requires.lined }

pub returns : goal.returns
returns c =
    let r = swept_once _ _ _ _ _ _ _ _ _ _ _ _ c.requires.lined c.requires.ready.av_in c.copy_in.ensures c.terms.ensures.work_after c.terms.ensures.kept in record { work_after = r.0; kept = r.1 }
