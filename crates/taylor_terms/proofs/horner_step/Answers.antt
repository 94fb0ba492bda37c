-- `taylor_terms::horner_step` meets its contract. Assumes nothing.
use borrow.Author.Rules.{rules}
use mathlib.Core.Path.{refl}
use Rattle.phi_action_helpers.proofs.Sweeps.{term_made}
use Rattle.taylor_terms.proofs.horner_step.Goals as goal

pub returns : goal.returns
returns c =
    let a = c.args in
    let r = term_made a.x.o.l a.x.o.b _ _ _ _ a.x.tau a.x.p a.k a.applied _ a.work.now _ _ c.requires.lined.0 c.requires.ready.av_in c.scales_of-s.ensures refl c.term_in.ensures in record { work_after = r.0; kept = r.1 }
