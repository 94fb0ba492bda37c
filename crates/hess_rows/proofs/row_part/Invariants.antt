-- `hess_rows::row_part` meets its contract. Assumes nothing.
use Prim.Native.Nat.{◌+◌, ◌-◌}
use mathlib.Core.Path.{◌≡◌}
use Rattle.hess_rows.specs.Parts.{row_part}
use Rattle.hess_rows.proofs.row_part.Given as goal

abbrev pub invariant-loop-k : goal.invariant-loop-k
invariant-loop-k l = l.s ≡ row_part l.h l.dim l.x l.w l.r (l.r + l.k)
