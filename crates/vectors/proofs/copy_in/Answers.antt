-- `vectors::copy_in` meets its contract. After i turns the first i elements of the window are written. Assumes nothing.
use native.Mathlib.Omega.{arith}
use mathlib.Core.Path.{◌∙◌}
use lib.Ieee.{nan}
use Rattle.lists.proofs.Loop.{started, turned, finished, read_apart, window_tabulate}
use Rattle.vectors.proofs.copy_in.Goals as goal

pub loop-i-init : goal.loop-i-init
loop-i-init c = (omega arith, started _ _ _)

pub loop-i-preserved : goal.loop-i-preserved
loop-i-preserved c =
    (omega arith, turned c.loop-i.invariant.1 (read_apart c.loop-i.invariant.1 c.args.from c.args.len c.loop-i.i nan c.requires.apart c.loop-i.invariant.0 (omega arith)))

pub returns : goal.returns
returns c =
    let a = c.args in
    finished c.loop-i.invariant.1 a.len (omega arith) (omega arith) ∙ rw (window_tabulate a.from a.len a.work.now nan (omega arith))
