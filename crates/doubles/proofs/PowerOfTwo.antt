-- x times 2 ^ j, for any whole number j: where it is finite and exactly 0 or at least 2 ^ -1022 it is exact; and what is x times 2 ^ j is x ⊗ 2 ^ j. Assumes nothing.
use mathlib.Core.Path.{◌≡◌, refl, sym, ap, ◌∙◌, subst}
use mathlib.Core.Logic.{◌⊎◌, inl, inr}
use Prim.Native.Nat.{ℕ, suc, ◌+◌, ◌-◌, ◌*◌, ◌^◌, ◌≤◌, ◌<◌}
use native.Mathlib.Nat.{le_trans, le_of_eq, lt_of_lt_of_le, lt_of_le_of_lt, not-le_of_lt, mul_comm, mul_assoc, mul-pos, one-mul, zero-mul, mul-lt-mul_of_pos_right, mul-le-mul_left, sub-add_cancel, pow-succ'}
use mathlib.Core.Bool.{Bool, false}
use lib.IntN.{ℤ, pos, negsuc, nat_abs, ◌*ℤ◌}
use lib.Dec.{T}
use lib.Pow.{pow-add, pow_pos, pow_mono}
use lib.Ieee.{Float, fin, binary64, unlike, up, down, round, to_bits, fits}
use lib.Ieee.Fits.{down_pos, up_pos, mul-fits}
use lib.Ieee.Exact.{HasValue}
use lib.Ieee.Scale.{round_same}
use Rattle.lists.proofs.Bounds.{lt_or_le}
use Rattle.doubles.specs.F64.{◌⊗◌, abs, is_finite}
use Rattle.doubles.specs.Units.{units}
use Rattle.doubles.specs.Clean.{CleanTimes}
use Rattle.doubles.proofs.Total.{sign}
use Rattle.doubles.proofs.Unique.{Digits, pattern_digits, round_self}
use Rattle.doubles.proofs.Monotone.{zero_of, unlike_false}
use Rattle.doubles.proofs.OneRounding.{mul_signed}
use Rattle.doubles.proofs.Finite.{mul_finite}
use Rattle.doubles.proofs.Signed.{size_signed, times_signed}
use Rattle.doubles.proofs.Units.{units_own, size, own}
use Rattle.doubles.proofs.RelativeError.{round_value}
use Rattle.doubles.proofs.ProductError.{zero_is}
use Rattle.doubles.proofs.KeptDigits.{kept_whole}
use Rattle.doubles.proofs.Scaled.{Scaled}

-- 2 ^ j is 2 ^ lift / 2 ^ sink
abbrev pub lift : ℤ → ℕ
lift (pos k) = k
lift (negsuc k) = 0

abbrev pub sink : ℤ → ℕ
sink (pos k) = 0
sink (negsuc k) = suc k

up_is : (j : ℤ) → up j ≡ 2 ^ lift j
up_is (pos k) = refl
up_is (negsuc k) = refl

down_is : (j : ℤ) → down j ≡ 2 ^ sink j
down_is (pos k) = refl
down_is (negsuc k) = refl

-- ---- a double's number of units has 53 digits and zeros behind them; where a * 2 ^ u / 2 ^ v is at least 2 ^ 52 units it is a whole number of them too
lost : (q i u v : ℕ) → q < 9007199254740992 → i + u < v → q * 2 ^ i * 2 ^ u < 4503599627370496 * 2 ^ v
lost q i u v h l =
    lt_of_le_of_lt (le_of_eq (mul_assoc q (2 ^ i) (2 ^ u) ∙ ap (λ (z : ℕ). q * z) (sym (pow-add 2 i u))))
    (lt_of_lt_of_le (mul-lt-mul_of_pos_right h (pow_pos (i + u)))
    (le_trans (le_of_eq (mul_assoc 4503599627370496 2 (2 ^ (i + u)) ∙ ap (λ (z : ℕ). 4503599627370496 * z) (sym (pow-succ' 2 (i + u))))) (mul-le-mul_left 4503599627370496 (pow_mono l))))

moved : (a u v : ℕ) → Digits a → 4503599627370496 * 2 ^ v ≤ a * 2 ^ u → (q : ℕ) × (r : ℕ) × (q * 2 ^ r * 2 ^ v ≡ a * 2 ^ u) × (q < 9007199254740992)
moved a u v d h = elim (lt_or_le (d.1 + u) v) [
  | inl l ↦ absurd (not-le_of_lt (lost d.0 d.1 u v d.3 l) (subst (λ (z : ℕ). 4503599627370496 * 2 ^ v ≤ z * 2 ^ u) d.2 h))
  | inr g ↦ (
    d.0,
    d.1 + u - v,
    mul_assoc d.0 (2 ^ (d.1 + u - v)) (2 ^ v) ∙ ap (λ (z : ℕ). d.0 * z) (sym (pow-add 2 (d.1 + u - v) v) ∙ ap (λ (z : ℕ). 2 ^ z) (sub-add_cancel g) ∙ pow-add 2 d.1 u) ∙ sym (mul_assoc d.0 (2 ^ d.1) (2 ^ u)) ∙ ap (λ (z : ℕ). z * 2 ^ u) (sym d.2),
    d.3,
  )
]

-- ---- the multiplication
-- ±a / 2 ^ 1074 times 2 ^ j, rounded once
times_rounds : (j : ℤ) (x : Float) (s : Bool) (a : ℕ) → HasValue x s a (2 ^ 1074) → x ⊗ fin false 1 j ≡ round binary64 s (a * up j) (2 ^ 1074 * down j)
times_rounds j x s a v =
    mul_signed x (fin false 1 j) s false a (2 ^ 1074) (up j) (down j) (pow_pos 1074) (down_pos j) v (refl, ap (λ (z : ℕ). z * down j) (one-mul (up j)))
    ∙ ap (λ (s : Bool). round binary64 s (a * up j) (2 ^ 1074 * down j)) (unlike_false s)

-- which is ±a' / 2 ^ 1074, rounded, where a' is a * 2 ^ j
times_whole : (j : ℤ) (s : Bool) (a a' : ℕ) → a' * 2 ^ sink j ≡ a * 2 ^ lift j → round binary64 s (a * up j) (2 ^ 1074 * down j) ≡ round binary64 s a' (2 ^ 1074)
times_whole j s a a' e =
    round_same binary64 s (a * up j) (2 ^ 1074 * down j) a' (2 ^ 1074) (mul-pos (pow_pos 1074) (down_pos j)) (pow_pos 1074)
    (ap (λ (z : ℕ). a * z * 2 ^ 1074) (up_is j) ∙ ap (λ (z : ℕ). z * 2 ^ 1074) (sym e) ∙ ap (λ (z : ℕ). a' * z * 2 ^ 1074) (sym (down_is j)) ∙ mul_assoc a' (down j) (2 ^ 1074) ∙ ap (λ (z : ℕ). a' * z) (mul_comm (down j) (2 ^ 1074)))

pub times_scaled : (j : ℤ) (x : Float) → T (fits binary64 x) → CleanTimes j x → Scaled (lift j) (sink j) x (x ⊗ fin false 1 j)
times_scaled j x f c = go (subst (λ (z : ℕ). (z ≡ 0) ⊎ (4503599627370496 * down j ≤ z)) size_is c.not_tiny)
  where
    fine : T (is_finite (x ⊗ fin false 1 j))
    fine = subst T (sym c.finite) tt

    own_finite : T (is_finite x)
    own_finite = (mul_finite x (fin false 1 j) fine).0

    v : HasValue x (sign x) (size x) (2 ^ 1074)
    v = own x f own_finite

    size_is : nat_abs (units x *ℤ pos (up j)) ≡ size x * up j
    size_is = ap (λ (z : ℤ). nat_abs (z *ℤ pos (up j))) (units_own x f own_finite) ∙ ap nat_abs (times_signed (sign x) false (size x) (up j)) ∙ size_signed (unlike (sign x) false) (size x * up j)

    is : x ⊗ fin false 1 j ≡ round binary64 (sign x) (size x * up j) (2 ^ 1074 * down j)
    is = times_rounds j x (sign x) (size x) v

    by : (a' : ℕ) → HasValue (x ⊗ fin false 1 j) (sign x) a' (2 ^ 1074) → a' * 2 ^ sink j ≡ size x * 2 ^ lift j → Scaled (lift j) (sink j) x (x ⊗ fin false 1 j)
    by a' w e = record { sign = sign x; a = size x; a' = a'; value = v; value' = w; scaled = e; fit = f; fit' = mul-fits binary64 x (fin false 1 j) }

    go : (size x * up j ≡ 0) ⊎ (4503599627370496 * down j ≤ size x * up j) → Scaled (lift j) (sink j) x (x ⊗ fin false 1 j)
    go (inl z) =
        by 0 (subst (λ (y : Float). HasValue y (sign x) 0 (2 ^ 1074)) (sym (is ∙ ap (λ (a : ℕ). round binary64 (sign x) a (2 ^ 1074 * down j)) z)) (zero_is (sign x) (2 ^ 1074 * down j) (mul-pos (pow_pos 1074) (down_pos j))))
        (zero-mul (2 ^ sink j) ∙ sym (ap (λ (a : ℕ). a * 2 ^ lift j) (zero_of (size x) (up j) (up_pos j) z) ∙ zero-mul (2 ^ lift j)))
    go (inr h) =
        let d = moved (size x) (lift j) (sink j) (pattern_digits (to_bits binary64 (abs x))) (subst (λ (z : ℕ). 4503599627370496 * z ≤ size x * 2 ^ lift j) (down_is j) (subst (λ (z : ℕ). 4503599627370496 * down j ≤ size x * z) (up_is j) h)) in
        let a' = d.0 * 2 ^ d.1 in
        let e : x ⊗ fin false 1 j ≡ round binary64 (sign x) a' (2 ^ 1074) = is ∙ times_whole j (sign x) (size x) a' d.2 in
        by a'
        (subst (λ (y : Float). HasValue y (sign x) a' (2 ^ 1074)) (sym e)
        (subst (λ (z : ℕ). HasValue (round binary64 (sign x) a' (2 ^ 1074)) (sign x) z (2 ^ 1074)) (kept_whole d.0 d.1 d.3) (round_value (sign x) a' (2 ^ 1074) (subst (λ (y : Float). T (is_finite y)) e fine))))
        d.2

-- and what is x times 2 ^ j is that product
pub scaled_times : (j : ℤ) (x x' : Float) → Scaled (lift j) (sink j) x x' → x' ≡ x ⊗ fin false 1 j
scaled_times j x x' p =
    sym (times_rounds j x p.sign p.a p.value ∙ times_whole j p.sign p.a p.a' p.scaled ∙ round_self x' p.sign p.a' (2 ^ 1074) (pow_pos 1074) p.fit' p.value')
