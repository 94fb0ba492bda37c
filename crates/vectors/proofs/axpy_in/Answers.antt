-- `vectors::axpy_in` meets its contract. After i turns the first i elements of the window are written. Assumes nothing.
use native.Mathlib.Omega.{arith}
use mathlib.Core.Path.{◌∙◌}
use lib.Ieee.{nan}
use Rattle.lists.proofs.Loop.{started, turned, finished, read_here, read_apart, zip_with_windows}
use Rattle.vectors.specs.Vectors.{axpy}
use Rattle.vectors.proofs.axpy_in.Goals as goal

pub loop-i-init : goal.loop-i-init
loop-i-init c = (omega arith, started _ _ _)

pub loop-i-preserved : goal.loop-i-preserved
loop-i-preserved c =
    let inv = c.loop-i.invariant in
    (omega arith, turned inv.1 (cc (read_here inv.1 nan, read_apart inv.1 c.args.x_at c.args.len c.loop-i.i nan c.requires.apart inv.0 (omega arith))))

pub returns : goal.returns
unfolding axpy
returns c =
    let a = c.args in
    finished c.loop-i.invariant.1 a.len (omega arith) (omega arith)
    ∙ rw (zip_with_windows _ a.y_at a.x_at a.len a.work.now a.work.now nan (omega arith) (omega arith))
