-- `taylor_sweeps::rescale_in` meets its contract. Assumes nothing.
use native.Mathlib.Omega.{arith}
use mathlib.Core.Path.{sym}
use lib.Ieee.{ne}
use Rattle.lists.proofs.Window.{part_back, splice_window}
use Rattle.vectors.specs.Vectors.{scale}
use Rattle.taylor_sweeps.proofs.rescale_in.Goals as goal

pub returns-then-p : goal.returns-then-p
unfolding ne
returns-then-p c =
    let a = c.args in
    rw c.if-p.true
    (part_back a.y a.len (scale a.f) _ a.work.now (omega arith) c.scale.auto.y c.scale.ensures)

pub returns-else-p : goal.returns-else-p
unfolding ne
returns-else-p c = rw c.if-p.false (sym (splice_window _ _ _))
