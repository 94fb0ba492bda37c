-- `hess_product::hess_product_in` meets its contract. Assumes nothing.
use Prim.Native.Nat.{◌*◌}
use Rattle.hess_rows.proofs.InPlace.{Placed}
use Rattle.hess_product.proofs.hess_product_in.Given as goal

abbrev pub invariant-loop-b : goal.invariant-loop-b
invariant-loop-b l = Placed l.h l.dim l.mx l.f l.initial.w (8 * l.b) l.x l.w

abbrev pub invariant-loop-r : goal.invariant-loop-r
invariant-loop-r l = Placed l.h l.dim l.mx l.f l.fn.w l.r l.x l.w
