-- The exponent of a positive double's leading digit is its pattern's field less 1023; a subnormal's is that of its product by 2 ^ 54, less 54.
-- 4503599627370496 is 2 ^ 52, 9223372036854775808 is 2 ^ 63, and 4850376798678024192 is the pattern of 2 ^ 54. Assumes nothing.
use mathlib.Core.Path.{◌≡◌, refl, sym, ap, ◌∙◌, subst}
use mathlib.Core.Bool.{Bool, true, false, not}
use mathlib.Core.Logic.{inl, inr}
use Prim.Native.Nat.{ℕ, zero, suc, ◌+◌, ◌-◌, ◌*◌, ◌/◌, ◌%◌, ◌^◌, ◌≤◌, ◌<◌}
use native.Mathlib.Nat.{le_trans, le_of_eq, lt_of_lt_of_le, not-le_of_lt, mod-lt, mul-lt-mul_of_pos_right, mul-le-mul_right, eq_of_mul-eq-mul_right, eq-zero-or-pos}
use Rattle.doubles.proofs.Nearest.{size_exact}
use native.Mathlib.Omega.{arith}
use lib.Dec.{T, lit≤, lit<}
use lib.Pow.{pow_pos, pow-add}
use lib.IntN.{pos, negsuc, sub_ℕ, ◌-ℤ◌, +ℤ_assoc}
use lib.Signed.{mag}
use lib.Ieee.{Float, nan, inf, fin, binary64, size, mul, lt, of_bits, to_bits, fits, is_nan}
use lib.Ieee.Bits.{of_bits-to_bits}
use lib.Ieee.Digits.{size-lt, size-le, size_reaches}
use lib.Ieee.Exact.{HasValue, round_exact}
use lib.Ieee.Fits.{mul-fits}
use borrow.Author.Tests.{lt-ltb, le-ltb}
use Rattle.lists.proofs.Bounds.{lt_or_le}
use Rattle.doubles.specs.F64.{◌⋖◌, +0, abs}
use Rattle.doubles.specs.Value.{val}
use Rattle.doubles.proofs.Patterns.{bits_value, val_lt, val_field, val_subnormal}
use Rattle.doubles.proofs.Magnitude.{bits_abs}
use Rattle.doubles.proofs.Unique.{pattern_value}
use Rattle.doubles.proofs.Arithmetic.{mul_by}
use Rattle.pow2.specs.Pow2.{field, exponent}
use Rattle.pow2.proofs.Integers.{mag_sub}

-- ---- how many binary digits
pub size_scaled : (n t : ℕ) → 0 < n → size (n * 2 ^ t) ≡ size n + t
size_scaled n t h = go (size n) refl
  where
    go : (s : ℕ) → size n ≡ s → size (n * 2 ^ t) ≡ s + t
    go zero e = absurd (not-le_of_lt (subst (λ (z : ℕ). n < 2 ^ z) e (size-lt n)) h)
    go (suc j) e =
        let lo : 2 ^ j ≤ n = size_reaches n j (le_of_eq (sym e)) in
        let hi : n < 2 ^ suc j = subst (λ (z : ℕ). n < 2 ^ z) e (size-lt n) in
        let s : suc j + t ≡ suc (j + t) = omega arith in
        size_exact (j + t) (n * 2 ^ t) (le_trans (le_of_eq (pow-add 2 j t)) (mul-le-mul_right (2 ^ t) lo))
        (lt_of_lt_of_le (mul-lt-mul_of_pos_right hi (pow_pos t)) (le_of_eq (sym (pow-add 2 (suc j) t) ∙ ap (λ (z : ℕ). 2 ^ z) s)))
        ∙ sym s

normal_size : (b : ℕ) → 1 ≤ b / 4503599627370496 → size (val b) ≡ b / 4503599627370496 + 52
normal_size b h =
    let t = b % 4503599627370496 in
    let x = b / 4503599627370496 - 1 in
    let d : size (4503599627370496 + t) ≡ 53 = size_exact 52 (4503599627370496 + t) (omega arith) (omega arith) in
    ap size (val_field b h) ∙ size_scaled (4503599627370496 + t) x (omega arith) ∙ omega (arith, d)

-- ---- a difference moves with both its terms
sub_moved : (a b k : ℕ) → sub_ℕ (a + k) (b + k) ≡ sub_ℕ a b
sub_moved a b k = elim (lt_or_le a b) [
  | inl l ↦ rw (lt-ltb (a + k) (b + k) (omega arith), lt-ltb a b l) (ap negsuc (omega arith))
  | inr g ↦ rw (le-ltb (a + k) (b + k) (omega arith), le-ltb a b g) (ap pos (omega arith))
]

-- ---- a double with the sign clear
pub record Plain (x : Float) : Type 0 where
  pub same : abs x ≡ x
  pub number : T (not (is_nan x))

pub positive_plain : (x : Float) → T (+0 ⋖ x) → Plain x
unfolding lt of_bits is_nan
positive_plain nan h = absurd h
positive_plain (inf true) h = absurd h
positive_plain (inf false) h = record { same = refl; number = tt }
positive_plain (fin true m e) h = absurd h
positive_plain (fin false m e) h = record { same = refl; number = tt }

value_plain : (x : Float) (a c : ℕ) → HasValue x false a c → Plain x
unfolding is_nan
value_plain nan a c h = absurd h
value_plain (inf s) a c h = absurd h
value_plain (fin s m e) a c h = record { same = ap (λ (t : Bool). fin t m e) (sym h.0); number = tt }

bits_small : (x : Float) → T (fits binary64 x) → Plain x → to_bits binary64 x < 9223372036854775808
bits_small x f p = subst (λ (z : ℕ). z < 9223372036854775808) (bits_abs x f p.number ∙ ap (to_bits binary64) p.same) (mod-lt (to_bits binary64 x) (lit< tt))

pub exponent_mag : (x : Float) → T (fits binary64 x) → Plain x → mag (exponent x) ≤ 1074
unfolding exponent
exponent_mag x f p =
    let n = size-le (val (to_bits binary64 x)) 2099 (lt_of_lt_of_le (val_lt (to_bits binary64 x) 9223372036854775808 (bits_small x f p)) (lit≤ tt)) in
    mag_sub (size (val (to_bits binary64 x))) 1075 1074 (omega arith) (lit≤ tt)

-- ---- normal
normal_field : (x : Float) → T (fits binary64 x) → Plain x → (field (to_bits binary64 x) ≡ 0 → ⊥) → size (val (to_bits binary64 x)) ≡ field (to_bits binary64 x) + 52
normal_field x f p n =
    let s = bits_small x f p in
    let e : field (to_bits binary64 x) ≡ to_bits binary64 x / 4503599627370496 = omega arith in
    normal_size (to_bits binary64 x) (omega arith) ∙ ap (λ (z : ℕ). z + 52) (sym e)

pub exponent_normal : (x : Float) → T (fits binary64 x) → Plain x → (field (to_bits binary64 x) ≡ 0 → ⊥) → pos (field (to_bits binary64 x)) -ℤ pos 1023 ≡ exponent x
unfolding exponent
exponent_normal x f p n = rw (normal_field x f p n) (sym (sub_moved (field (to_bits binary64 x)) 1023 52))

-- ---- subnormal
bits_positive : (x : Float) → T (fits binary64 x) → T (+0 ⋖ x) → 0 < to_bits binary64 x
unfolding lt of_bits
bits_positive x f h = elim (eq-zero-or-pos (to_bits binary64 x)) [
  | inl z ↦ absurd (not_below (subst (λ (y : Float). T (+0 ⋖ y)) (sym (of_bits-to_bits binary64 x f) ∙ ap (of_bits binary64) z) h))
  | inr p ↦ p
]
  where
    not_below : T (+0 ⋖ +0) → ⊥
    not_below h = h

abbrev two54 : Float
two54 = of_bits binary64 4850376798678024192

two54_value : HasValue two54 false (2 ^ 54) 1
unfolding of_bits
two54_value = (refl, refl)

module _ (x : Float) (f : T (fits binary64 x)) (h : T (+0 ⋖ x)) (z : field (to_bits binary64 x) ≡ 0) where
  bits_low : to_bits binary64 x < 4503599627370496
  bits_low = let s = bits_small x f (positive_plain x h) in omega arith

  lifted_value : HasValue (mul binary64 x two54) false (to_bits binary64 x * 2 ^ 54) (2 ^ 1074)
  lifted_value =
      let b = to_bits binary64 x in
      let v : HasValue x false b (2 ^ 1074) =
      subst (λ (y : Float). HasValue y false b (2 ^ 1074)) (of_bits-to_bits binary64 x f)
      (subst (λ (a : ℕ). HasValue (of_bits binary64 b) false a (2 ^ 1074)) (val_subnormal b (omega (arith, bits_low))) (bits_value b (omega (arith, bits_low)))) in
      subst (λ (y : Float). HasValue y false (b * 2 ^ 54) (2 ^ 1074)) (sym (mul_by x two54 b (2 ^ 1074) (2 ^ 54) 1 (pow_pos 1074) (pow_pos 0) v two54_value))
      (round_exact binary64 false (b * 2 ^ 54) (2 ^ 1074) b 54 (pow_pos 1074) (omega (arith, bits_low)) (lt_of_lt_of_le (mul-lt-mul_of_pos_right bits_low (pow_pos 54)) (lit≤ tt)) refl)

  pub lifted_plain : Plain (mul binary64 x two54)
  lifted_plain = value_plain (mul binary64 x two54) (to_bits binary64 x * 2 ^ 54) (2 ^ 1074) lifted_value

  lifted_val : val (to_bits binary64 (mul binary64 x two54)) ≡ to_bits binary64 x * 2 ^ 54
  lifted_val =
      ap (λ (y : Float). val (to_bits binary64 y)) (sym lifted_plain.same)
      ∙ sym (eq_of_mul-eq-mul_right (2 ^ 1074) (pow_pos 1074) _ _ (pattern_value (mul binary64 x two54) false (to_bits binary64 x * 2 ^ 54) (2 ^ 1074) (mul-fits binary64 x two54) lifted_value))

  lifted_normal : field (to_bits binary64 (mul binary64 x two54)) ≡ 0 → ⊥
  lifted_normal n =
      let s = bits_small (mul binary64 x two54) (mul-fits binary64 x two54) lifted_plain in
      let v = val_subnormal (to_bits binary64 (mul binary64 x two54)) (omega arith) in
      omega (arith, bits_positive x f h, lifted_val)

  pub exponent_subnormal : pos (field (to_bits binary64 (mul binary64 x two54))) -ℤ pos 1023 -ℤ pos 54 ≡ exponent x
  unfolding exponent
  exponent_subnormal =
      let b = to_bits binary64 x in
      let F = field (to_bits binary64 (mul binary64 x two54)) in
      let n = normal_field (mul binary64 x two54) (mul-fits binary64 x two54) lifted_plain lifted_normal in
      let v = ap size (val_subnormal b (omega (arith, bits_low))) in
      let d : F ≡ size (val b) + 2 = omega (arith, ap size lifted_val, size_scaled b 54 (bits_positive x f h)) in
      +ℤ_assoc (pos F) (negsuc 1022) (negsuc 53) ∙ ap (λ (k : ℕ). sub_ℕ k 1077) d ∙ sub_moved (size (val b)) 1075 2
