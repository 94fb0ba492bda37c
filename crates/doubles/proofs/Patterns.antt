-- The bit patterns of the doubles that are not negative: which number each stands for, in units of 2 ^ -1074, and that a larger pattern stands for a larger number.
-- 4503599627370496 is 2 ^ 52, 9223372036854775808 is 2 ^ 63, and 9218868437227405312 is 0x7ff0_0000_0000_0000, the pattern of the infinity. Assumes nothing.
use mathlib.Core.Path.{◌≡◌, refl, sym, ap, ◌∙◌, subst}
use mathlib.Core.Logic.{inl, inr}
use Prim.Native.Nat.{ℕ, zero, suc, ◌+◌, ◌-◌, ◌*◌, ◌/◌, ◌%◌, ◌^◌, ◌≤◌, ◌<◌}
use native.Mathlib.Nat.{le_trans, le_of_eq, lt_of_lt_of_le, not-le_of_lt, not-suc-le-zero, eq-or-lt_of_le, mod-eq_of_lt, mul_assoc, mul-one, mul-le-mul_right, mul-le-mul_left, mul-lt-mul_of_pos_right, pow-succ', le_of_lt, lt_irrefl}
use native.Mathlib.Omega.{arith}
use mathlib.Core.Bool.{Bool, false, not, cond}
use lib.Dec.{T, leb, eqb, leb→le, eqb→eq, not_T}
use lib.Pow.{pow_pos, pow_mono}
use lib.Ieee.{Float, nan, inf, fin, binary64, odd, of_fields, of_bits, nan_bits, is_nan}
use lib.Ieee.Bits.{is_false, cond_no, nan_bits_is}
use lib.Ieee.Exact.{HasValue, odd_sign}
use Rattle.doubles.specs.Value.{field_units, val}

-- ---- a pattern below 2 ^ 63 by its two fields
is_fields : (b : ℕ) → of_bits binary64 b ≡ of_fields binary64 (leb 9223372036854775808 b) (b % 9223372036854775808 / 4503599627370496) (b % 4503599627370496)
unfolding of_bits
is_fields b = refl

pub positive_fields : (b : ℕ) → b < 9223372036854775808 → of_bits binary64 b ≡ of_fields binary64 false (b / 4503599627370496) (b % 4503599627370496)
positive_fields b h =
    is_fields b
    ∙ ap (λ (s : Bool). of_fields binary64 s (b % 9223372036854775808 / 4503599627370496) (b % 4503599627370496)) (is_false (leb 9223372036854775808 b) (not_T (leb 9223372036854775808 b) (λ (u : T (leb 9223372036854775808 b)). not-le_of_lt h (leb→le 9223372036854775808 b u))))
    ∙ ap (λ (x : ℕ). of_fields binary64 false (x / 4503599627370496) (b % 4503599627370496)) (mod-eq_of_lt h)

pub of_bits_inf : of_bits binary64 9218868437227405312 ≡ inf false
unfolding of_bits
of_bits_inf = refl

differ : (x : ℕ) → suc x < 2047 → suc x ≡ 2047 → ⊥
differ x h e = omega arith

-- ---- the number, in units of 2 ^ -1074, that an exponent's field and digits stand for
pub fields_value : (s : Bool) (x t : ℕ) → x < 2047 → HasValue (of_fields binary64 s x t) s (field_units x t) (2 ^ 1074)
unfolding of_fields
fields_value s zero t h = subst (λ (a : ℕ). HasValue (odd 53 s t 0 1074) s a (2 ^ 1074)) (mul-one t) (odd_sign 53 s t 0 1074)
fields_value s (suc x) t h =
    subst (λ (v : Float). HasValue v s ((4503599627370496 + t) * 2 ^ x) (2 ^ 1074))
    (sym (cond_no (eqb (suc x) 2047) (cond (eqb t 0) (inf s) nan) (odd 53 s (4503599627370496 + t) x 1074) (not_T (eqb (suc x) 2047) (λ (u : T (eqb (suc x) 2047)). differ x h (eqb→eq (suc x) 2047 u)))))
    (odd_sign 53 s (4503599627370496 + t) x 1074)

field_lt : (b : ℕ) → b < 9218868437227405312 → b / 4503599627370496 < 2047
field_lt b h = omega arith

small : (b : ℕ) → b < 9218868437227405312 → b < 9223372036854775808
small b h = omega arith

pub bits_value : (b : ℕ) → b < 9218868437227405312 → HasValue (of_bits binary64 b) false (val b) (2 ^ 1074)
bits_value b h = subst (λ (v : Float). HasValue v false (val b) (2 ^ 1074)) (sym (positive_fields b (small b h))) (fields_value false (b / 4503599627370496) (b % 4503599627370496) (field_lt b h))

-- so no such pattern is a NaN's
pub finite_no_nan : (w : ℕ) → w < 9218868437227405312 → T (not (nan_bits binary64 w))
unfolding is_nan
finite_no_nan w h = subst (λ (b : Bool). T (not b)) (sym (nan_bits_is binary64 w)) (go (of_bits binary64 w) (bits_value w h))
  where
    go : (x : Float) → HasValue x false (val w) (2 ^ 1074) → T (not (is_nan x))
    go nan h = h
    go (inf t) h = tt
    go (fin t m e) h = tt

-- ---- a larger pattern is a larger number
in_field : (x t u : ℕ) → t < u → field_units x t < field_units x u
in_field zero t u h = h
in_field (suc x) t u h = mul-lt-mul_of_pos_right (more t u h) (pow_pos x)
  where
    more : (t u : ℕ) → t < u → 4503599627370496 + t < 4503599627370496 + u
    more t u h = omega arith

-- the whole of a field lies below the start of the next one
pub field_end : (x t : ℕ) → t < 4503599627370496 → field_units x t < 4503599627370496 * 2 ^ x
field_end zero t h = lt_of_lt_of_le h (le_of_eq (sym (mul-one 4503599627370496)))
field_end (suc x) t h =
    lt_of_lt_of_le (mul-lt-mul_of_pos_right (twice t h) (pow_pos x))
    (le_of_eq (mul_assoc 4503599627370496 2 (2 ^ x) ∙ ap (λ (z : ℕ). 4503599627370496 * z) (sym (pow-succ' 2 x))))
  where
    twice : (t : ℕ) → t < 4503599627370496 → 4503599627370496 + t < 4503599627370496 * 2
    twice t h = omega arith

field_start : (x y u : ℕ) → x < y → 4503599627370496 * 2 ^ x ≤ field_units y u
field_start x zero u h = absurd (not-suc-le-zero h)
field_start x (suc y) u h = le_trans (mul-le-mul_left 4503599627370496 (pow_mono (le_of_suc x y h))) (mul-le-mul_right (2 ^ y) (first u))
  where
    first : (u : ℕ) → 4503599627370496 ≤ 4503599627370496 + u
    first u = omega arith

    le_of_suc : (x y : ℕ) → x < suc y → x ≤ y
    le_of_suc x y h = omega arith

next_field : (x t y u : ℕ) → x < y → t < 4503599627370496 → field_units x t < field_units y u
next_field x t y u h k = lt_of_lt_of_le (field_end x t k) (field_start x y u h)

digits_lt : (b c : ℕ) → b < c → b / 4503599627370496 ≡ c / 4503599627370496 → b % 4503599627370496 < c % 4503599627370496
digits_lt b c h e = omega arith

fields_le : (b c : ℕ) → b < c → b / 4503599627370496 ≤ c / 4503599627370496
fields_le b c h = omega arith

pub digits_in : (b : ℕ) → b % 4503599627370496 < 4503599627370496
digits_in b = omega arith

pub val_lt : (b c : ℕ) → b < c → val b < val c
val_lt b c h = elim (eq-or-lt_of_le (fields_le b c h)) [
  | inl e ↦ subst (λ (x : ℕ). val b < field_units x (c % 4503599627370496)) e (in_field (b / 4503599627370496) (b % 4503599627370496) (c % 4503599627370496) (digits_lt b c h e))
  | inr l ↦ next_field (b / 4503599627370496) (b % 4503599627370496) (c / 4503599627370496) (c % 4503599627370496) l (digits_in b)
]

pub val_le : (b c : ℕ) → b ≤ c → val b ≤ val c
val_le b c h = elim (eq-or-lt_of_le h) [ inl e ↦ le_of_eq (ap val e) | inr l ↦ le_of_lt (val_lt b c l) ]

-- a field's digits may run up to the next field's start: the carry goes into the exponent, as it should
pub val_carry : (x t : ℕ) → t ≤ 4503599627370496 → val (suc x * 4503599627370496 + t) ≡ (4503599627370496 + t) * 2 ^ x
val_carry x t h = elim (eq-or-lt_of_le h) [
  | inl e ↦
      ap val (at_end x t e) ∙ ap (λ (y : ℕ). field_units y (suc (suc x) * 4503599627370496 % 4503599627370496)) (field_of x) ∙ ap (λ (y : ℕ). field_units (suc (suc x)) y) (digits_of x)
      ∙ ap (λ (y : ℕ). 4503599627370496 * y) (pow-succ' 2 x) ∙ sym (mul_assoc 4503599627370496 2 (2 ^ x)) ∙ ap (λ (y : ℕ). (4503599627370496 + y) * 2 ^ x) (sym e)
  | inr l ↦ ap (λ (y : ℕ). field_units y ((suc x * 4503599627370496 + t) % 4503599627370496)) (within x t l) ∙ ap (λ (y : ℕ). field_units (suc x) y) (within_digits x t l)
]
  where
    at_end : (x t : ℕ) → t ≡ 4503599627370496 → suc x * 4503599627370496 + t ≡ suc (suc x) * 4503599627370496
    at_end x t e = omega arith

    field_of : (x : ℕ) → suc (suc x) * 4503599627370496 / 4503599627370496 ≡ suc (suc x)
    field_of x = omega arith

    digits_of : (x : ℕ) → suc (suc x) * 4503599627370496 % 4503599627370496 ≡ 0
    digits_of x = omega arith

    within : (x t : ℕ) → t < 4503599627370496 → (suc x * 4503599627370496 + t) / 4503599627370496 ≡ suc x
    within x t l = omega arith

    within_digits : (x t : ℕ) → t < 4503599627370496 → (suc x * 4503599627370496 + t) % 4503599627370496 ≡ t
    within_digits x t l = omega arith

-- the number of a pattern whose field is not 0
pub val_field : (b : ℕ) → 1 ≤ b / 4503599627370496 → val b ≡ (4503599627370496 + b % 4503599627370496) * 2 ^ (b / 4503599627370496 - 1)
val_field b h = go (b / 4503599627370496) (b % 4503599627370496) h
  where
    same : (y : ℕ) → y ≡ suc y - 1
    same y = omega arith

    go : (x t : ℕ) → 1 ≤ x → field_units x t ≡ (4503599627370496 + t) * 2 ^ (x - 1)
    go zero t h = absurd (lt_irrefl 0 h)
    go (suc y) t h = ap (λ (z : ℕ). (4503599627370496 + t) * 2 ^ z) (same y)

pub val_subnormal : (b : ℕ) → b / 4503599627370496 ≡ 0 → val b ≡ b
val_subnormal b h = ap (λ (x : ℕ). field_units x (b % 4503599627370496)) h ∙ field_zero b h
  where
    field_zero : (b : ℕ) → b / 4503599627370496 ≡ 0 → b % 4503599627370496 ≡ b
    field_zero b h = omega arith
