-- `vectors::scale` meets its contract. After i turns the first i elements are written. Assumes nothing.
use Rattle.lists.proofs.Loop.{Filled}
use Rattle.doubles.specs.F64.{◌⊗◌, at}
use Rattle.vectors.proofs.scale.Given as goal

abbrev pub invariant-loop-x : goal.invariant-loop-x
invariant-loop-x l = Filled 0 l.x-index (λ k. at l.initial.y k ⊗ l.s) l.initial.y l.y
