-- A whole number of units of 2 ^ -1074 with 53 digits and zeros behind them is rounded to itself; and so whole numbers that differ by a power of two round alike, however small they are.
-- Assumes nothing.
use mathlib.Core.Path.{◌≡◌, sym, ap, ◌∙◌}
use mathlib.Core.Logic.{inl, inr}
use Prim.Native.Nat.{ℕ, ◌+◌, ◌-◌, ◌*◌, ◌^◌, ◌≤◌, ◌<◌}
use native.Mathlib.Nat.{le_trans, le_of_eq, lt_of_le_of_lt, add_comm, mul_assoc, mul-one, mul-le-mul_right, mul-le-mul_left, le_of_mul-le-mul_right, eq_of_mul-eq-mul_right, sub-add_cancel}
use native.Mathlib.Omega.{arith}
use lib.Pow.{pow-add, pow_pos, shl_lt}
use lib.Ieee.{binary64, size as digits}
use lib.Ieee.Digits.{size-le}
use lib.Ieee.Nearest.{closest}
use lib.Ieee.Scale.{grid, grid_scale, normal_of_fraction}
use Rattle.lists.proofs.Bounds.{lt_or_le}
use Rattle.doubles.proofs.Nearest.{closest_near, grid_units}

-- ---- so many digits are kept whole
whole_closest : (z w : ℕ) → 0 < w → closest (z * w) w ≡ z
whole_closest z w W =
    let n = closest_near (z * w) w W in
    let c = closest (z * w) w in
    let a = n.0 in
    let b = n.1 in
    let up : 2 * c ≤ 2 * z + 1 = le_of_mul-le-mul_right (omega arith) W in
    let dn : 2 * z ≤ 2 * c + 1 = le_of_mul-le-mul_right (omega arith) W in
    omega arith

less_dropped : (z r : ℕ) → z ≤ 53 + r → z - 53 ≤ r
less_dropped z r h = omega arith

pub kept_whole : (q r : ℕ) → q < 9007199254740992 → grid binary64 (q * 2 ^ r) (2 ^ 1074) ≡ q * 2 ^ r
kept_whole q r h =
    let n = q * 2 ^ r in
    let k = digits n - 53 in
    let l : k ≤ r = less_dropped (digits n) r (size-le n (53 + r) (shl_lt 53 r h)) in
    let z = q * 2 ^ (r - k) in
    let e : n ≡ z * 2 ^ k = ap (λ (i : ℕ). q * 2 ^ i) (sym (sub-add_cancel l)) ∙ ap (λ (i : ℕ). q * i) (pow-add 2 (r - k) k) ∙ sym (mul_assoc q (2 ^ (r - k)) (2 ^ k)) in
    grid_units n ∙ ap (λ (i : ℕ). i * 2 ^ k) (ap (λ (i : ℕ). closest i (2 ^ k)) e ∙ whole_closest z (2 ^ k) (pow_pos k)) ∙ sym e

-- ---- two whole numbers of units, one the other times 2 ^ u / 2 ^ v
short_whole : (m : ℕ) → m < 9007199254740992 → grid binary64 m (2 ^ 1074) ≡ m
short_whole m h = ap (λ (z : ℕ). grid binary64 z (2 ^ 1074)) (sym (mul-one m)) ∙ kept_whole m 0 h ∙ mul-one m

-- where one has few digits both are exact
few_digits : (m m' u v : ℕ) → m' * 2 ^ v ≡ m * 2 ^ u → m < 9007199254740992 → grid binary64 m' (2 ^ 1074) ≡ m'
few_digits m m' u v e h = elim (lt_or_le u v) [
  | inl l ↦ short_whole m' (lt_of_le_of_lt (smaller (v - u) (omega arith)) h)
  | inr g ↦ ap (λ (z : ℕ). grid binary64 z (2 ^ 1074)) (larger (u - v) (omega arith)) ∙ kept_whole m (u - v) h ∙ sym (larger (u - v) (omega arith))
]
  where
    larger : (k : ℕ) → k + v ≡ u → m' ≡ m * 2 ^ k
    larger k f = eq_of_mul-eq-mul_right (2 ^ v) (pow_pos v) m' (m * 2 ^ k) (e ∙ ap (λ (z : ℕ). m * z) (ap (λ (z : ℕ). 2 ^ z) (sym f) ∙ pow-add 2 k v) ∙ sym (mul_assoc m (2 ^ k) (2 ^ v)))

    smaller : (k : ℕ) → k + u ≡ v → m' ≤ m
    smaller k f =
        let grown : m' * 2 ^ u ≤ m' * 2 ^ u * 2 ^ k = le_trans (le_of_eq (sym (mul-one (m' * 2 ^ u)))) (mul-le-mul_left (m' * 2 ^ u) (pow_pos k)) in
        let is : m' * 2 ^ u * 2 ^ k ≡ m * 2 ^ u = mul_assoc m' (2 ^ u) (2 ^ k) ∙ ap (λ (z : ℕ). m' * z) (sym (pow-add 2 u k) ∙ ap (λ (z : ℕ). 2 ^ z) (add_comm u k ∙ f)) ∙ e in
        le_of_mul-le-mul_right (le_trans grown (le_of_eq is)) (pow_pos u)

normal : (m : ℕ) → 9007199254740992 ≤ m → 4503599627370496 * 2 ^ 1074 ≤ m * 2 ^ 1074
normal m h = let l : 4503599627370496 ≤ m = omega arith in mul-le-mul_right (2 ^ 1074) l

pub units_scaled : (m m' u v : ℕ) → m' * 2 ^ v ≡ m * 2 ^ u → grid binary64 m' (2 ^ 1074) * 2 ^ v ≡ grid binary64 m (2 ^ 1074) * 2 ^ u
units_scaled m m' u v e = elim (lt_or_le m 9007199254740992) [
  | inl l ↦ ap (λ (z : ℕ). z * 2 ^ v) (few_digits m m' u v e l) ∙ e ∙ ap (λ (z : ℕ). z * 2 ^ u) (sym (short_whole m l))
  | inr g ↦ elim (lt_or_le m' 9007199254740992) [
    | inl l ↦ ap (λ (z : ℕ). z * 2 ^ v) (short_whole m' l) ∙ e ∙ ap (λ (z : ℕ). z * 2 ^ u) (sym (few_digits m' m v u (sym e) l))
    | inr g' ↦
        sym (grid_scale binary64 m' (2 ^ 1074) v (pow_pos 1074) (normal_of_fraction binary64 m' (2 ^ 1074) (pow_pos 1074) (normal m' g')))
        ∙ ap (λ (z : ℕ). grid binary64 z (2 ^ 1074)) e
        ∙ grid_scale binary64 m (2 ^ 1074) u (pow_pos 1074) (normal_of_fraction binary64 m (2 ^ 1074) (pow_pos 1074) (normal m g))
  ]
]
