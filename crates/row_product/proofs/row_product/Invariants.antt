-- `row_product::row_product` meets its contract. Assumes nothing.
use mathlib.Core.Path.{◌≡◌}
use mathlib.Core.List.{List}
use Prim.Native.Nat.{ℕ, ◌+◌, ◌-◌}
use lib.ListN.{get_or}
use lib.Ieee.{Float}
use Rattle.doubles.specs.F64.{◌⊗◌, at}
use Rattle.doubles.specs.Sum.{sum}
use Rattle.row_product.proofs.row_product.Given as goal

-- the product of entry k
abbrev pub product : List ℕ → List Float → List Float → ℕ → Float
product cols vals x k = at vals k ⊗ at x (get_or cols k 0)

-- what has been added from place `from` up to place k
abbrev pub part : (ℕ → Float) → ℕ → ℕ → Float
part f from k = sum (k - from) (λ j. f (from + j))

abbrev pub invariant-loop-k : goal.invariant-loop-k
invariant-loop-k l = l.s ≡ part (product l.cols l.vals l.x) l.from l.k
