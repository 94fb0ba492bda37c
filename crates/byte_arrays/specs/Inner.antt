-- What the functions behind the exported ones know of slices that were cut: cited by their contracts, and by no contract of an exported one. Definitions
-- only.
use Rattle.std.specs.Prelude.{◌&&◌, cond, ◌⊎◌, ◌≡◌, ℕ, ◌≤◌, ◌<◌, ltb, eqb, Float}
use Rattle.doubles.specs.F64.{nat}

-- a slice of `len` bytes is cut to r: not at all, or to the `most`
abbrev pub Cut : ℕ → ℕ → ℕ → Type 0
Cut len most r = ((r ≡ len) × (len ≤ most)) ⊎ ((r ≡ most) × (most < len))

-- the double x of a refusal where a slice of `len` elements was cut to 512: that of number k is the length handed in
unfoldable pub long_told : ℕ → ℕ → ℕ → Float → Float
long_told k len number x = cond (ltb 512 len && eqb number k) (nat len) x

-- of row starts, mass, output and vectors
abbrev pub lengths_told : ℕ → ℕ → ℕ → ℕ → ℕ → Float → Float
lengths_told starts mass output vectors number x =
    long_told 16 vectors number (long_told 15 output number (long_told 7 mass number (long_told 1 starts number x)))
