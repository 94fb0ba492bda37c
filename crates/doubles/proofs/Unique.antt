-- A double is its value: two that fit and have the same sign and size are one, and a double's own value rounds to itself. Assumes nothing.
use mathlib.Core.Path.{◌≡◌, refl, sym, ap, ◌∙◌, subst}
use mathlib.Core.Logic.{inl, inr}
use Prim.Native.Nat.{ℕ, zero, suc, ◌+◌, ◌*◌, ◌/◌, ◌%◌, ◌^◌, ◌<◌}
use native.Mathlib.Nat.{lt_of_lt_of_le, lt_irrefl, eq-or-lt_of_le, mul_right_comm, mul-one, eq_of_mul-eq-mul_right}
use native.Mathlib.Omega.{arith}
use mathlib.Core.Bool.{Bool, true, false}
use lib.Dec.{T, lit≤}
use Rattle.lists.proofs.Bounds.{lt_or_le}
use lib.Ieee.{Float, nan, inf, fin, binary64, up, down, round, of_bits, to_bits, fits}
use lib.Ieee.Fits.{round-fits, down_pos}
use lib.Ieee.Bits.{of_bits-to_bits}
use lib.Ieee.Exact.{HasValue, round_exact}
use Rattle.doubles.specs.F64.{abs, is_finite, nonneg}
use Rattle.doubles.specs.Value.{field_units, val}
use Rattle.doubles.proofs.Patterns.{bits_value, digits_in, val_lt}
use Rattle.doubles.proofs.Magnitude.{abs_fits, finite_bits}

-- ---- the value of a double that fits, by the pattern of its magnitude
pub finite_of_value : (x : Float) (s : Bool) (a c : ℕ) → HasValue x s a c → T (is_finite x)
finite_of_value nan s a c h = absurd h
finite_of_value (inf t) s a c h = absurd h
finite_of_value (fin t m e) s a c h = tt

pub bits_finite : (b : ℕ) → b < 9218868437227405312 → T (is_finite (of_bits binary64 b))
bits_finite b h = finite_of_value (of_bits binary64 b) false (val b) (2 ^ 1074) (bits_value b h)

abs_value : (x : Float) (s : Bool) (a c : ℕ) → HasValue x s a c → HasValue (abs x) false a c
abs_value nan s a c h = h
abs_value (inf t) s a c h = h
abs_value (fin t m e) s a c h = (refl, h.1)

-- two fractions of one value
cross : (x : Float) (a c b d : ℕ) → HasValue x false a c → HasValue x false b d → a * d ≡ b * c
cross nan a c b d h k = absurd h
cross (inf t) a c b d h k = absurd h
cross (fin t m e) a c b d h k =
    eq_of_mul-eq-mul_right (down e) (down_pos e) (a * d) (b * c)
    (mul_right_comm a d (down e) ∙ ap (λ (z : ℕ). z * d) (sym h.1) ∙ mul_right_comm (m * up e) c d ∙ ap (λ (z : ℕ). z * c) k.1 ∙ mul_right_comm b (down e) c)

pub pattern_value : (x : Float) (s : Bool) (a c : ℕ) → T (fits binary64 x) → HasValue x s a c → a * 2 ^ 1074 ≡ val (to_bits binary64 (abs x)) * c
pattern_value x s a c f h =
    let b = to_bits binary64 (abs x) in
    cross (abs x) a c (val b) (2 ^ 1074) (abs_value x s a c h)
    (subst (λ (v : Float). HasValue v false (val b) (2 ^ 1074)) (of_bits-to_bits binary64 (abs x) (abs_fits x f)) (bits_value b (finite_bits x f (finite_of_value x s a c h))))

pub val_inj : (b c : ℕ) → val b ≡ val c → b ≡ c
val_inj b c e = elim (lt_or_le b c) [
  | inl l ↦ absurd (lt_irrefl (val c) (subst (λ (z : ℕ). z < val c) e (val_lt b c l)))
  | inr g ↦ elim (eq-or-lt_of_le g) [ inl q ↦ sym q | inr l ↦ absurd (lt_irrefl (val c) (subst (λ (z : ℕ). val c < z) e (val_lt c b l))) ]
]

abs_same : (x y : Float) (s : Bool) (a c : ℕ) → 0 < c → T (fits binary64 x) → T (fits binary64 y) → HasValue x s a c → HasValue y s a c → abs x ≡ abs y
abs_same x y s a c C f g h k =
    sym (of_bits-to_bits binary64 (abs x) (abs_fits x f))
    ∙ ap (of_bits binary64) (val_inj (to_bits binary64 (abs x)) (to_bits binary64 (abs y)) (eq_of_mul-eq-mul_right c C _ _ (sym (pattern_value x s a c f h) ∙ pattern_value y s a c g k)))
    ∙ of_bits-to_bits binary64 (abs y) (abs_fits y g)

with_sign : Bool → Float → Float
with_sign s nan = nan
with_sign s (inf t) = inf s
with_sign s (fin t m e) = fin s m e

sign_back : (x : Float) (s : Bool) (a c : ℕ) → HasValue x s a c → x ≡ with_sign s (abs x)
unfolding with_sign
sign_back nan s a c h = absurd h
sign_back (inf t) s a c h = absurd h
sign_back (fin t m e) s a c h = ap (λ (b : Bool). fin b m e) h.0

pub value_unique : (x y : Float) (s : Bool) (a c : ℕ) → 0 < c → T (fits binary64 x) → T (fits binary64 y) → HasValue x s a c → HasValue y s a c → x ≡ y
value_unique x y s a c C f g h k = sign_back x s a c h ∙ ap (with_sign s) (abs_same x y s a c C f g h k) ∙ sym (sign_back y s a c k)

-- ---- a double's value rounds to the double
-- a finite pattern's number is q * 2 ^ j with a q of 53 digits
abbrev pub Digits : ℕ → Type 0
Digits v = (q : ℕ) × (j : ℕ) × (v ≡ q * 2 ^ j) × (q < 9007199254740992)

digits_of : (x t : ℕ) → t < 4503599627370496 → Digits (field_units x t)
digits_of zero t h = (t, 0, sym (mul-one t), more t h)
  where
    more : (t : ℕ) → t < 4503599627370496 → t < 9007199254740992
    more t h = omega arith
digits_of (suc x) t h = (4503599627370496 + t, x, refl, more t h)
  where
    more : (t : ℕ) → t < 4503599627370496 → 4503599627370496 + t < 9007199254740992
    more t h = omega arith

pub pattern_digits : (b : ℕ) → Digits (val b)
pattern_digits b = digits_of (b / 4503599627370496) (b % 4503599627370496) (digits_in b)

pub val_under : (b : ℕ) → b < 9218868437227405312 → val b < 2 ^ 2098
val_under b h = lt_of_lt_of_le (val_lt b 9218868437227405312 h) (lit≤ tt)

pub round_self : (x : Float) (s : Bool) (a c : ℕ) → 0 < c → T (fits binary64 x) → HasValue x s a c → round binary64 s a c ≡ x
round_self x s a c C f h =
    let b = to_bits binary64 (abs x) in
    let d = pattern_digits b in
    let e = d.2 in
    value_unique (round binary64 s a c) x s a c C (round-fits binary64 s a c) f
    (round_exact binary64 s a c d.0 d.1 C d.3 (subst (λ (z : ℕ). z < 2 ^ 2098) e (val_under b (finite_bits x f (finite_of_value x s a c h)))) (pattern_value x s a c f h ∙ ap (λ (z : ℕ). z * c) e))
    h

-- ---- a double that is not negative and finite, in units of 2 ^ -1074
pub units_of : (x : Float) → T (fits binary64 x) → T (is_finite x) → T (nonneg x) → HasValue x false (val (to_bits binary64 x)) (2 ^ 1074)
units_of nan f h p = absurd h
units_of (inf s) f h p = absurd h
units_of (fin true m e) f h p = absurd p
units_of (fin false m e) f h p = (refl, pattern_value (fin false m e) false (m * up e) (down e) f (refl, refl))
