-- `dense_la::dense_exp` meets its contract. Assumes nothing.
use Rattle.dense_la.specs.DenseExp.{dense_exp}
use Rattle.dense_la.proofs.dense_exp.Goals as goal

pub returns : goal.returns
unfolding dense_exp
returns c = cc
