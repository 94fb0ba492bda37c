-- `stored_quotients::divide_row` meets its contract. Assumes nothing.
use Prim.Native.Nat.{◌+◌}
use Rattle.lists.proofs.Loop.{Filled}
use Rattle.doubles.specs.F64.{◌⊘◌, at}
use Rattle.stored_quotients.proofs.divide_row.Given as goal

abbrev pub invariant-loop-k : goal.invariant-loop-k
invariant-loop-k l = Filled l.place l.k (λ j. at l.vals (l.from + j) ⊘ l.m) l.initial.work l.work
