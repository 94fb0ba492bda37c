-- The whole number of units of 2 ^ -1074 that a finite double is: it is the double's value, and products of doubles are products of such numbers, rounded. Assumes nothing.
use mathlib.Core.Path.{◌≡◌, refl, sym, ap, ◌∙◌, subst}
use mathlib.Core.Logic.{inl, inr}
use Prim.Native.Nat.{ℕ, zero, suc, ◌*◌, ◌/◌, ◌^◌, ◌≤◌, ◌<◌}
use native.Mathlib.Nat.{mul-div_cancel, lt_irrefl, not-le_of_lt}
use mathlib.Core.Bool.{Bool, not}
use mathlib.Core.List.{List, [], ◌∷◌, map}
use lib.IntN.{ℤ, nat_abs, ◌*ℤ◌}
use lib.Dec.{T}
use lib.ListN.{length, get_or-eq_default}
use lib.Pow.{pow_pos}
use lib.Ieee.{Float, nan, inf, fin, binary64, unlike, up, down, round, neg, to_bits, fits}
use lib.Ieee.Fits.{down_pos, nan-fits}
use lib.Ieee.Bits.{of_bits-fits}
use lib.Ieee.Exact.{HasValue}
use Rattle.lists.specs.Loop.{tabulate}
use Rattle.lists.proofs.Bounds.{lt_or_le}
use Rattle.lists.proofs.Loop.{length_tabulate, get_d_tabulate}
use Rattle.doubles.specs.F64.{◌⊗◌, bits, abs, is_finite}
use Rattle.doubles.specs.Value.{val}
use Rattle.doubles.specs.Units.{signed, units, Doubles, NotTiny}
use Rattle.doubles.proofs.Total.{sign}
use Rattle.doubles.proofs.Unique.{pattern_value}
use Rattle.doubles.proofs.OneRounding.{mul_signed}
use Rattle.doubles.proofs.Signed.{size_signed, times_signed}

-- ---- a double by its value: what is ±a / 2 ^ 1074 is ±a units
pub units_by : (x : Float) (s : Bool) (a : ℕ) → HasValue x s a (2 ^ 1074) → units x ≡ signed s a
unfolding units
units_by nan s a h = absurd h
units_by (inf t) s a h = absurd h
units_by (fin t m e) s a h = ap (λ (z : Bool). signed z (m * up e * 2 ^ 1074 / down e)) h.0 ∙ ap (signed s) (ap (λ (z : ℕ). z / down e) h.1 ∙ mul-div_cancel a (down_pos e))

-- its size in units, by its bit pattern
abbrev pub size : Float → ℕ
size x = val (to_bits binary64 (abs x))

pub own : (x : Float) → T (fits binary64 x) → T (is_finite x) → HasValue x (sign x) (size x) (2 ^ 1074)
own nan f h = h
own (inf s) f h = h
own (fin s m e) f h = (refl, pattern_value (fin s m e) s (m * up e) (down e) f (refl, refl))

-- `units` is what IEEE 754 says of the bit pattern, with the double's sign
pub units_own : (x : Float) → T (fits binary64 x) → T (is_finite x) → units x ≡ signed (sign x) (size x)
units_own x f h = units_by x (sign x) (size x) (own x f h)

-- a finite double has its sign, and in size it is exactly |units x| / 2 ^ 1074
pub units_value : (x : Float) → T (fits binary64 x) → T (is_finite x) → HasValue x (sign x) (nat_abs (units x)) (2 ^ 1074)
units_value x f h = subst (λ (a : ℕ). HasValue x (sign x) a (2 ^ 1074)) (sym (ap nat_abs (units_own x f h) ∙ size_signed (sign x) (size x))) (own x f h)

pub neg_value : (x : Float) (s : Bool) (a c : ℕ) → HasValue x s a c → HasValue (neg x) (not s) a c
unfolding neg
neg_value nan s a c h = h
neg_value (inf t) s a c h = h
neg_value (fin t m e) s a c h = (ap not h.0, h.1)

-- ---- the exact product of two doubles, in units of 2 ^ -2148
module _ (x y : Float) (f : T (fits binary64 x)) (g : T (fits binary64 y)) (h : T (is_finite x)) (k : T (is_finite y)) where
  product_own : units x *ℤ units y ≡ signed (unlike (sign x) (sign y)) (size x * size y)
  product_own = ap (λ (z : ℤ). z *ℤ units y) (units_own x f h) ∙ ap (λ (z : ℤ). signed (sign x) (size x) *ℤ z) (units_own y g k) ∙ times_signed (sign x) (sign y) (size x) (size y)

  product_size : nat_abs (units x *ℤ units y) ≡ size x * size y
  product_size = ap nat_abs product_own ∙ size_signed (unlike (sign x) (sign y)) (size x * size y)

  -- it has the rounded product's sign
  pub product_signed : units x *ℤ units y ≡ signed (unlike (sign x) (sign y)) (nat_abs (units x *ℤ units y))
  product_signed = product_own ∙ ap (signed (unlike (sign x) (sign y))) (sym product_size)

  -- the product of two doubles is their exact product, rounded once
  pub product_rounds : x ⊗ y ≡ round binary64 (unlike (sign x) (sign y)) (nat_abs (units x *ℤ units y)) (2 ^ 2148)
  product_rounds =
      mul_signed x y (sign x) (sign y) (size x) (2 ^ 1074) (size y) (2 ^ 1074) (pow_pos 1074) (pow_pos 1074) (own x f h) (own y g k)
      ∙ ap (λ (a : ℕ). round binary64 (unlike (sign x) (sign y)) a (2 ^ 2148)) (sym product_size)

-- what lies between 0 and 2 ^ -1022 is tiny
pub tiny_between : (k : ℕ) (z : ℤ) → 0 < nat_abs z → nat_abs z < k → NotTiny k z → ⊥
tiny_between k z p l (inl e) = lt_irrefl 0 (subst (λ (n : ℕ). 0 < n) e p)
tiny_between k z p l (inr h) = not-le_of_lt l h

-- ---- lists of doubles
pub tabulated : (n : ℕ) (f : ℕ → Float) → ((k : ℕ) → T (fits binary64 (f k))) → Doubles (tabulate n f)
tabulated n f h k = elim (lt_or_le k n) [
  | inl l ↦ rw (get_d_tabulate n f k nan l) (h k)
  | inr g ↦ let e : length (tabulate n f) ≤ k = rw (length_tabulate n f) g in rw (get_or-eq_default (tabulate n f) nan {n = k} e) (nan-fits binary64)
]

-- a list of bit patterns is one
pub patterns : (bs : List ℕ) → Doubles (map bits bs)
unfolding fits
patterns [] k = tt
patterns (b ∷ bs) zero = of_bits-fits binary64 b
patterns (b ∷ bs) (suc k) = patterns bs k
