-- Operations that neither overflow nor have a tiny result (document 02, N9). The exact result is looked at, not the rounded one: docs/DIFFERENCES.md says why. Definitions only.
use Rattle.std.specs.Prelude.{true, false, ◌≡◌, ◌*◌, ◌^◌, ℤ, pos, ◌*ℤ◌, Float}
use Rattle.std.specs.Float.{fin}
use Rattle.std.specs.Float.Ieee.{up, down}
use Rattle.doubles.specs.F64.{◌⊕◌, ◌⊗◌, is_finite}
use Rattle.doubles.specs.Units.{units, NotTiny}

-- N9's condition on a product: x ⊗ y is finite, and exactly it is 0 or at least 2 ^ -1022 in size, which is 2 ^ 1126 units of 2 ^ -2148
pub record Clean⊗ (x y : Float) : Type 0 where
  pub finite : is_finite (x ⊗ y) ≡ true
  pub not_tiny : NotTiny (2 ^ 1126) (units x *ℤ units y)

-- N9's condition on a sum: finite. A sum of doubles is a whole number of 2 ^ -1074, so that one below 2 ^ -1022 is exact, whatever its size
abbrev pub Clean⊕ : Float → Float → Type 0
Clean⊕ x y = is_finite (x ⊕ y) ≡ true

-- N9's condition on x times 2 ^ j, for any whole number j, also where 2 ^ j is no double: finite, and exactly 0 or at least 2 ^ -1022 in size. 2 ^ j is up j / down j, so that the exact
-- result is a whole number of 2 ^ -1074 / down j, of which 2 ^ -1022 is 2 ^ 52 * down j
pub record CleanTimes (j : ℤ) (x : Float) : Type 0 where
  pub finite : is_finite (x ⊗ fin false 1 j) ≡ true
  pub not_tiny : NotTiny (2 ^ 52 * down j) (units x *ℤ pos (up j))
