-- `dense_la::halvings` meets its contract. The loop's invariant: the halvings that are left give the whole. Assumes nothing.
use Prim.Native.Nat.{◌-◌}
use Rattle.dense_la.proofs.Halved.{Halved}
use Rattle.dense_la.proofs.halvings.Given as goal

abbrev pub invariant-loop-scale : goal.invariant-loop-scale
invariant-loop-scale l = Halved l.norm l.squarings l.scale

abbrev pub decreases-loop-scale : goal.decreases-loop-scale
decreases-loop-scale l = 1100 - l.squarings
