-- `dense_la::squared` meets its contract. Assumes nothing.
use mathlib.Core.Path.{◌≡◌}
use Rattle.dense_la.specs.DenseExp.{squared}
use Rattle.dense_la.proofs.squared.Given as goal

abbrev pub invariant-loop : goal.invariant-loop
invariant-loop l = l.result ≡ squared l.counter l.y
