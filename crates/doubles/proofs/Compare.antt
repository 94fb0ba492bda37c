-- What the tests `x == 0.0` and `x > 0.0` tell of a double, by cases on it. Assumes nothing.
use mathlib.Core.Path.{◌≡◌, refl, sym, ap, ◌∙◌, subst}
use Prim.Native.Nat.{ℕ, zero, suc, ◌*◌, ◌<◌}
use native.Mathlib.Nat.{lt_irrefl, mul-one, zero-mul, mul-pos, zero-lt-suc}
use native.Mathlib.Omega.{arith}
use mathlib.Core.Bool.{Bool, true, false, not, ◌&&◌, ◌||◌, true≢false, beq}
use lib.IntN.{ℤ}
use lib.Dec.{T, ltb, eqb}
use lib.Ieee.{Float, nan, inf, fin, binary64, up, down, lt, eq, div, of_bits, is_nan}
use lib.Ieee.Fits.{up_pos, down_pos}
use borrow.Author.Tests.{eqb-true, ltb-true, lt-ltb}
use Rattle.doubles.specs.F64.{◌⋖◌, +0, +∞}

and_true : (a b : Bool) → (a && b) ≡ true → a ≡ true
and_true true b h = refl
and_true false b h = h

pub positive_size : (m : ℕ) (e : ℤ) → 0 < suc m * up e
positive_size m e = mul-pos (zero-lt-suc m) (up_pos e)

-- a zero is below a number above 0
pub zero_below : (e : ℤ) (n : ℕ) (d : ℤ) → (fin false 0 e ⋖ fin false (suc n) d) ≡ true
unfolding lt
zero_below e n d = lt-ltb (0 * up e * down d) (suc n * up d * down e) (rw (zero-mul (up e), zero-mul (down d)) (mul-pos (positive_size n d) (down_pos e)))

not_zero : (a b : ℕ) → 0 < a → a * 1 ≡ 0 * b → ⊥
not_zero a b h e = lt_irrefl 0 (subst (λ (z : ℕ). 0 < z) (sym (mul-one a) ∙ e ∙ zero-mul b) h)

nothing : (a b : ℕ) → b ≡ 0 → ltb a b ≡ true → ⊥
nothing a b e h = none a b e (ltb-true a b h)
  where
    none : (a b : ℕ) → b ≡ 0 → a < b → ⊥
    none a b e l = omega arith

-- ---- `x == 0.0`: a zero of either sign
pub zero_cases : (P : Float → Type 0) → ((s : Bool) (e : ℤ) → P (fin s zero e)) → (x : Float) → eq x +0 ≡ true → P x
unfolding eq of_bits
zero_cases P p nan h = absurd (true≢false (sym h))
zero_cases P p (inf s) h = absurd (true≢false (sym h))
zero_cases P p (fin s zero e) h = p s e
zero_cases P p (fin s (suc m) e) h = absurd (not_zero (suc m * up e) (down e) (positive_size m e) (eqb-true (suc m * up e * 1) (0 * down e) (and_true (eqb (suc m * up e * 1) (0 * down e)) _ h)))

-- ---- `x > 0.0`: +infinity or a number above 0
abbrev pub Above : Float → Type 0
Above nan = ⊥
Above (inf s) = s ≡ false
Above (fin s zero e) = ⊥
Above (fin s (suc m) e) = s ≡ false

pub is_above : (x : Float) → lt +0 x ≡ true → Above x
unfolding lt of_bits
is_above nan h = true≢false (sym h)
is_above (inf true) h = absurd (true≢false (sym h))
is_above (inf false) h = refl
is_above (fin true zero e) h = true≢false (sym h)
is_above (fin false zero e) h = nothing (0 * down e) (0 * up e * 1) (mul-one (0 * up e) ∙ zero-mul (up e)) h
is_above (fin true (suc m) e) h = absurd (true≢false (sym h))
is_above (fin false (suc m) e) h = refl

pub above_no_nan : (x : Float) → lt +0 x ≡ true → T (not (is_nan x))
unfolding is_nan
above_no_nan nan h = absurd (is_above nan h)
above_no_nan (inf s) h = tt
above_no_nan (fin s m e) h = tt

-- ---- neither: NaN, -infinity or a number below 0
pub zero_equal : (s : Bool) (e : ℤ) → eq (fin s 0 e) +0 ≡ true
unfolding eq of_bits
zero_equal s e = zero_true s (0 * up e * 1) (0 * down e) (mul-one (0 * up e) ∙ zero-mul (up e)) (zero-mul (down e))
  where
    same : (s : Bool) → (beq s false || true) ≡ true
    same true = refl
    same false = refl

    zero_true : (s : Bool) (a b : ℕ) → a ≡ 0 → b ≡ 0 → (eqb a b && (beq s false || eqb a 0)) ≡ true
    zero_true s a b p q = ap (λ (z : ℕ). eqb z b && (beq s false || eqb z 0)) p ∙ ap (λ (z : ℕ). eqb 0 z && (beq s false || true)) q ∙ same s

pub below_cases : (P : Float → Type 0) → P nan → P (inf true) → ((m : ℕ) (e : ℤ) → P (fin true (suc m) e)) → (x : Float) → eq x +0 ≡ false → lt +0 x ≡ false → P x
unfolding lt of_bits
below_cases P n i p nan h k = n
below_cases P n i p (inf true) h k = i
below_cases P n i p (inf false) h k = absurd (true≢false k)
below_cases P n i p (fin s zero e) h k = absurd (true≢false (sym (zero_equal s e) ∙ h))
below_cases P n i p (fin true (suc m) e) h k = p m e
below_cases P n i p (fin false (suc m) e) h k = absurd (true≢false (sym (lt-ltb (0 * down e) (suc m * up e * 1) (start (0 * down e) (suc m * up e * 1) (zero-mul (down e)) (subst (λ (z : ℕ). 0 < z) (sym (mul-one (suc m * up e))) (positive_size m e)))) ∙ k))
  where
    start : (a b : ℕ) → a ≡ 0 → 0 < b → a < b
    start a b e h = omega arith

-- ---- `x < +infinity`, of what is above 0
pub endless_not : (s : Bool) → lt (inf s) +∞ ≡ true → s ≡ true
unfolding lt of_bits
endless_not true h = refl
endless_not false h = absurd (true≢false (sym h))

pub number_under : (s : Bool) (m : ℕ) (e : ℤ) → lt (fin s m e) +∞ ≡ true
unfolding lt of_bits
number_under s m e = refl

-- ---- `0.0 / 0.0`
pub zero_over_zero : div binary64 +0 +0 ≡ nan
unfolding div of_bits
zero_over_zero = refl
