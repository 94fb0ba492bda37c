-- `hess_rows::four_rows` meets its contract. Assumes nothing.
use Prim.Native.Nat.{◌+◌}
use mathlib.Core.Path.{◌≡◌}
use Rattle.hess_rows.specs.Parts.{four_parts}
use Rattle.hess_rows.proofs.four_rows.Given as goal

abbrev pub invariant-loop-k : goal.invariant-loop-k
invariant-loop-k l = l.s ≡ four_parts l.h l.dim l.x l.w l.r (l.r + 3 + l.k)
