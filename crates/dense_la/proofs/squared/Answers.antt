-- `dense_la::squared` meets its contract. Assumes nothing.
use mathlib.Core.Path.{sym}
use Rattle.lists.proofs.Loop.{iter_none, iter_turn}
use Rattle.dense_la.specs.DenseExp.{squared}
use Rattle.dense_la.proofs.squared.Goals as goal

pub loop-init : goal.loop-init
unfolding squared
loop-init c = sym (iter_none _ _)

pub loop-preserved : goal.loop-preserved
unfolding squared
loop-preserved c = iter_turn _ _ _ _ _ c.loop.invariant c.matmul-result.ensures
