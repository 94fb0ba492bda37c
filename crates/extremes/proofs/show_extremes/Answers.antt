-- `extremes::show_extremes` meets its contract: after i turns the first i places of both slices are written. Assumes nothing.
use native.Mathlib.Omega.{arith}
use Rattle.lists.proofs.Loop.{started, turned₀, finished}
use Rattle.extremes.proofs.show_extremes.Goals as goal

pub loop-i-init : goal.loop-i-init
loop-i-init c = (started _ _ _, started _ _ _)

pub loop-i-preserved : goal.loop-i-preserved
loop-i-preserved c =
    let e = c.extremes_at-e.ensures in
    (turned₀ c.loop-i.invariant.0 e.0, turned₀ c.loop-i.invariant.1 e.1)

pub returns : goal.returns
returns c =
    let n = c.args.count in
    record { high_after = finished c.loop-i.invariant.0 n (omega arith) (omega arith); low_after = finished c.loop-i.invariant.1 n (omega arith) (omega arith) }
