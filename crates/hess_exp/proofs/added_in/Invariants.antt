-- `hess_exp::added_in` meets its contract. Assumes nothing.
use Rattle.lists.proofs.Loop.{Filled}
use Rattle.doubles.specs.F64.{◌⊕◌, at}
use Rattle.hess_exp.proofs.added_in.Given as goal

abbrev pub invariant-loop-i : goal.invariant-loop-i
invariant-loop-i l = Filled 0 l.i (λ k. at l.fn.y k ⊕ at l.w k) l.fn.y l.y
