-- `paused_run::hand_out` meets its contract. Assumes nothing.
use Rattle.paused_run.proofs.Handed.{handed}
use Rattle.paused_run.proofs.hand_out.Goals as goal

pub returns : goal.returns
returns c =
    let a = c.args in
    handed a.up a.out.now a.field.now c.requires c.copy_from.ensures c.scale.ensures
