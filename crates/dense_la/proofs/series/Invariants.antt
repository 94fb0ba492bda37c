-- `dense_la::series` meets its contract. Assumes nothing.
use mathlib.Core.Path.{◌≡◌}
use Prim.Native.Nat.{◌-◌}
use Rattle.dense_la.specs.DenseExp.{Series, series}
use Rattle.dense_la.proofs.series.Given as goal

abbrev pub invariant-loop-d : goal.invariant-loop-d
invariant-loop-d l = ◌≡◌ {A = Series} (record { term = l.term; result = l.result }) (series l.a (l.d - 1))
