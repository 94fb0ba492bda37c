-- `axpy_dot::axpy_dot_pair` meets its contract. Assumes nothing.
use native.Mathlib.Omega.{arith}
use lib.ListN.{length-set}
use Rattle.axpy_dot.proofs.axpy_dot_pair.Goals as goal

pub bounds-work-y-4 : goal.bounds-work-y-4
bounds-work-y-4 c = simp length-set (omega arith)
