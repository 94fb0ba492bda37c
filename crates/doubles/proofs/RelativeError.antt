-- The error of one rounding. A fraction in the normal range and a whole number of units of 2 ^ -1074 are missed by at most 2 ^ -53 of their size. Assumes nothing.
use mathlib.Core.Path.{◌≡◌, refl, sym, ap, ◌∙◌, subst}
use mathlib.Core.Logic.{inl, inr}
use Prim.Native.Nat.{ℕ, ◌+◌, ◌-◌, ◌*◌, ◌/◌, ◌^◌, ◌≤◌, ◌<◌}
use native.Mathlib.Nat.{le_trans, le_of_eq, mul_comm, mul_assoc, mul_left_comm, mul-pos, le-div_iff_mul-le}
use native.Mathlib.Omega.{arith}
use mathlib.Core.Bool.{Bool, true, false}
use lib.Dec.{T}
use lib.Pow.{pow-add, pow_pos}
use lib.Ieee.{Float, nan, inf, fin, binary64, size, round}
use lib.Ieee.Fits.{round_is}
use lib.Ieee.Digits.{size_reaches}
use lib.Ieee.Exact.{HasValue, units_val}
use lib.Ieee.Nearest.{closest}
use lib.Ieee.Order.{drop, kept}
use lib.Ieee.Scale.{grid, finite, round_under, normal_of_fraction}
use Rattle.lists.proofs.Bounds.{lt_or_le}
use Rattle.doubles.specs.F64.{is_finite}
use Rattle.doubles.proofs.Finite.{neg_finite}
use Rattle.doubles.proofs.Monotone.{round_not}
use Rattle.doubles.proofs.Nearest.{Near, closest_near, grid_units}

-- p is n, but for 2 ^ -53 of n at most
abbrev pub Close : ℕ → ℕ → Type 0
Close p n = (9007199254740992 * p ≤ 9007199254740992 * n + n) × (9007199254740992 * n ≤ 9007199254740992 * p + n)

near_close : (p n u : ℕ) → Near p n u → 4503599627370496 * u ≤ n → Close p n
near_close p n u e h =
    let a = e.0 in
    let b = e.1 in
    (omega arith, omega arith)

same_close : (p n u : ℕ) → Near p n u → u ≡ 1 → Close p n
same_close p n u e h =
    let a = e.0 in
    let b = e.1 in
    let q : p ≡ n = omega arith in
    (omega arith, omega arith)

-- digits dropped: 2 ^ k units of them are at most 2 ^ -52 of the number
dropped : (z k : ℕ) → 53 ≤ z → k ≡ z - 53 → 52 + k < z
dropped z k h e = omega arith

reaches : (w : ℕ) → 53 ≤ size w → 4503599627370496 * 2 ^ (size w - 53) ≤ w
reaches w h = le_trans (le_of_eq (sym (pow-add 2 52 (size w - 53)))) (size_reaches w (52 + (size w - 53)) (dropped (size w) (size w - 53) h refl))

-- ---- a whole number of units
few : (z : ℕ) → z ≤ 53 → z - 53 ≡ 0
few z h = omega arith

pub units_close : (n : ℕ) → Close (grid binary64 n (2 ^ 1074)) n
units_close n =
    let k = size n - 53 in
    let e : Near (closest n (2 ^ k) * 2 ^ k) n (2 ^ k) = closest_near n (2 ^ k) (pow_pos k) in
    subst (λ (g : ℕ). Close g n) (sym (grid_units n)) (elim (lt_or_le (size n) 53) [
      | inl l ↦ same_close (closest n (2 ^ k) * 2 ^ k) n (2 ^ k) e (ap (λ (z : ℕ). 2 ^ z) (few (size n) (omega arith)))
      | inr g ↦ near_close (closest n (2 ^ k) * 2 ^ k) n (2 ^ k) e (reaches n g)
    ])

-- ---- a / c in the normal range, which is 2 ^ 52 units at least: the rounded value is grid / 2 ^ 1074
pub fraction_close : (a c : ℕ) → 0 < c → 4503599627370496 * c ≤ a * 2 ^ 1074 → Close (grid binary64 a c * c) (a * 2 ^ 1074)
fraction_close a c C h =
    let n = a * 2 ^ 1074 in
    let k = size (n / c) - 53 in
    let u = c * 2 ^ k in
    let e : Near (closest n u * u) n u = closest_near n u (mul-pos C (pow_pos k)) in
    let is : closest n u * u ≡ grid binary64 a c * c = mul_left_comm (closest n u) c (2 ^ k) ∙ mul_comm c (closest n u * 2 ^ k) in
    let big : 4503599627370496 * 2 ^ k * c ≤ n = (le-div_iff_mul-le C).0 (reaches (n / c) (normal_of_fraction binary64 a c C h)) in
    subst (λ (p : ℕ). Close p n) is (near_close (closest n u * u) n u e (le_trans (le_of_eq (ap (λ (z : ℕ). 4503599627370496 * z) (mul_comm c (2 ^ k)) ∙ sym (mul_assoc 4503599627370496 (2 ^ k) c))) big))

-- ---- a rounded fraction that is finite has the sign it was given, and is `grid` units in size
plain_finite : (x : Float) → T (is_finite x) → T (finite x)
plain_finite nan h = h
plain_finite (inf s) h = h
plain_finite (fin s m e) h = tt

round_finite : (u : Bool) (a c : ℕ) → T (is_finite (round binary64 u a c)) → T (finite (round binary64 false a c))
round_finite false a c h = plain_finite (round binary64 false a c) h
round_finite true a c h = plain_finite (round binary64 false a c) (neg_finite (round binary64 false a c) (subst (λ (x : Float). T (is_finite x)) (round_not binary64 false a c) h))

pub round_value : (u : Bool) (a c : ℕ) → T (is_finite (round binary64 u a c)) → HasValue (round binary64 u a c) u (grid binary64 a c) (2 ^ 1074)
round_value u a c h =
    subst (λ (z : Float). HasValue z u (grid binary64 a c) (2 ^ 1074)) (sym (round_is binary64 u a c))
    (units_val binary64 u (kept 53 (a * 2 ^ 1074) c) (drop 53 (a * 2 ^ 1074) c) (round_under binary64 a c (round_finite u a c h)))
