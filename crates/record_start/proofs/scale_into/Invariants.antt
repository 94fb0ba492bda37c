-- `record_start::scale_into` meets its contract. Assumes nothing.
use Rattle.lists.proofs.Loop.{Filled}
use Rattle.doubles.specs.F64.{◌⊗◌, at}
use Rattle.record_start.proofs.scale_into.Given as goal

abbrev pub invariant-loop-i : goal.invariant-loop-i
invariant-loop-i l = Filled 0 l.i (λ k. at l.load k ⊗ l.level) l.initial.out l.out
