-- `vectors::copy_from` meets its contract. Assumes nothing.
use native.Mathlib.Omega.{arith}
use mathlib.Core.Path.{refl, ◌∙◌}
use lib.Ieee.{nan}
use Rattle.lists.proofs.Loop.{started, turned, finished, window_tabulate}
use Rattle.vectors.proofs.copy_from.Goals as goal

pub loop-i-init : goal.loop-i-init
loop-i-init c = (omega arith, started _ _ _)

pub loop-i-preserved : goal.loop-i-preserved
loop-i-preserved c = (omega arith, turned c.loop-i.invariant.1 refl)

pub returns : goal.returns
returns c =
    let a = c.args in
    finished c.loop-i.invariant.1 a.len (omega arith) (omega arith) ∙ rw (window_tabulate a.from a.len a.src.now nan (omega arith))
