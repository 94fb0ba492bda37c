-- `dense_la::halvings` meets its contract. The loop's invariant: the halvings that are left give the whole. Assumes nothing.
use Prim.Native.Nat.{◌<◌}
use Rattle.dense_la.proofs.Halved.{halved_start, halved_turn, halved_stop, halved_end, halved_whole}
use Rattle.dense_la.proofs.halvings.Goals as goal

pub loop-scale-init : goal.loop-scale-init
loop-scale-init c = halved_start c.args.norm

pub loop-scale-preserved : goal.loop-scale-preserved
loop-scale-preserved c =
    let more : c.loop-scale.squarings < 1100 = c.if-squarings-lt1100.true in
    halved_turn c.loop-scale.invariant more c.loop-scale-test.true

pub returns-else-squarings-lt1100 : goal.returns-else-squarings-lt1100
returns-else-squarings-lt1100 c = let inv = c.loop-scale.invariant in halved_whole inv (halved_end inv c.if-squarings-lt1100.false)

pub returns-after-loop-scale : goal.returns-after-loop-scale
returns-after-loop-scale c = let inv = c.loop-scale.invariant in halved_whole inv (halved_stop inv c.loop-scale-test.false)
