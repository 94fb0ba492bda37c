-- `paused_advance::advance` meets its contract. Assumes nothing.
use Rattle.paused_advance.proofs.Steps.{advanced}
use Rattle.paused_advance.proofs.advance.Goals as goal

pub returns : goal.returns
returns c =
    let a = c.args in
    let r = c.substep_on-o.ensures in
    advanced a.run a.tol a.j a.out.now a.work.now _ _ r.field_after (c.verdict.ensures _) c.hand_out.ensures c.requires.out_len c.clear_in.ensures r.work_unchanged.0
