-- N9's condition in document 02's own words, which look at the rounded result: 'each operation on finite numbers whose exact result is not 0 gives a finite number of at least 2 ^ -1022 in
-- size'. It is not the condition of the theorem: `proofs/Boundary` has a job that meets it and is not doubled. Definitions only.
use Rattle.std.specs.Prelude.{true, List, ◌≡◌, ℕ, ◌^◌, ◌≤◌, ◌<◌, ℤ, nat_abs, ◌+ℤ◌, ◌*ℤ◌, length, Float}
use Rattle.doubles.specs.F64.{◌⊕◌, ◌⊗◌, at, is_finite}
use Rattle.doubles.specs.Units.{units}
use Rattle.pow2.specs.Pow2.{exact_pow2}

-- a finite number of at least 2 ^ -1022 in size
pub record Normal (x : Float) : Type 0 where
  pub finite : is_finite x ≡ true
  pub large : 2 ^ 52 ≤ nat_abs (units x)

-- of a product, of a sum, and of the multiplication of the vectors by 2 ^ j
abbrev pub Words⊗ : Float → Float → Type 0
Words⊗ x y = is_finite x ≡ true → is_finite y ≡ true → (nat_abs (units x *ℤ units y) ≡ 0 → ⊥) → Normal (x ⊗ y)

abbrev pub Words⊕ : Float → Float → Type 0
Words⊕ x y = is_finite x ≡ true → is_finite y ≡ true → (nat_abs (units x +ℤ units y) ≡ 0 → ⊥) → Normal (x ⊕ y)

abbrev pub WordsDoubled : ℤ → List Float → Type 0
WordsDoubled j x = (i : ℕ) → i < length x → is_finite (at x i) ≡ true → (nat_abs (units (at x i)) ≡ 0 → ⊥) → Normal (at x i ⊗ exact_pow2 j)
