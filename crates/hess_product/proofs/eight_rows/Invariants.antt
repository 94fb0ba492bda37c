-- `hess_product::eight_rows` meets its contract. Assumes nothing.
use Prim.Native.Nat.{◌+◌}
use mathlib.Core.Path.{◌≡◌}
use Rattle.doubles.specs.F64.{at}
use Rattle.hess_rows.specs.Parts.{four_parts}
use Rattle.hess_product.proofs.eight_rows.Given as goal

abbrev pub invariant-loop-k : goal.invariant-loop-k
invariant-loop-k l =
    (l.s ≡ four_parts l.h l.dim l.x l.w l.r (l.r + 7 + l.k)) × (l.t ≡ four_parts l.h l.dim (at l.w (l.r + 3)) l.w (l.r + 4) (l.r + 7 + l.k))
