-- The order in which the checks of a transposed job's matrix are met, by number (document 02, N3). Assumes nothing.
use mathlib.Core.Path.{◌≡◌, refl}
use mathlib.Core.List.{List, [], ◌∷◌, map}
use mathlib.Core.Option.{none, some}
use Prim.Native.Nat.{ℕ}
use lib.Ieee.{Float}
use Rattle.checks.specs.First.{Check}
use Rattle.checks.specs.Reasons.{number}
use Rattle.general_operator.specs.Csr.{Csr}
use Rattle.transpose.specs.Transpose.{Lent, before_transposing, transposed_checks, open_transpose}

abbrev numbers : List Check → List ℕ
numbers cs = map (λ (c : Check). number c.reason) cs

module _ (a : Csr) (mass : List Float) (l : Lent) where
  checked : numbers (transposed_checks a none l) ≡ 1 ∷ 2 ∷ 3 ∷ 4 ∷ 5 ∷ 6 ∷ 9 ∷ 11 ∷ 30 ∷ 11 ∷ []
  unfolding open_transpose
  checked = refl

  checked_mass : numbers (transposed_checks a (some mass) l) ≡ 1 ∷ 2 ∷ 3 ∷ 4 ∷ 5 ∷ 6 ∷ 7 ∷ 8 ∷ 9 ∷ 10 ∷ 30 ∷ 11 ∷ []
  unfolding open_transpose
  checked_mass = refl

  -- where one of these refuses, the buffers are unchanged
  unchanged : numbers (before_transposing a none l) ≡ 1 ∷ 2 ∷ 3 ∷ 4 ∷ 5 ∷ 6 ∷ 9 ∷ 11 ∷ 30 ∷ []
  unfolding open_transpose
  unchanged = refl

  unchanged_mass : numbers (before_transposing a (some mass) l) ≡ 1 ∷ 2 ∷ 3 ∷ 4 ∷ 5 ∷ 6 ∷ 7 ∷ 8 ∷ 9 ∷ 10 ∷ 30 ∷ []
  unfolding open_transpose
  unchanged_mass = refl
