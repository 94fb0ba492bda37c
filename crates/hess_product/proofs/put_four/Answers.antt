-- `hess_product::put_four` meets its contract. Assumes nothing.
use native.Mathlib.Omega.{arith}
use lib.ListN.{length-set}
use Rattle.hess_product.proofs.put_four.Goals as goal

pub bounds-w-r-2 : goal.bounds-w-r-2
bounds-w-r-2 c = simp length-set (omega arith)

pub bounds-w-r-3 : goal.bounds-w-r-3
bounds-w-r-3 c = simp length-set (omega arith)

pub bounds-w-r-4 : goal.bounds-w-r-4
bounds-w-r-4 c = simp length-set (omega arith)
