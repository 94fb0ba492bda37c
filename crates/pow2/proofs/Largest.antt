-- The sup-norm is no NaN and not negative; where it is not 0 it is above 0; of finite values it is 0 exactly where all are. Assumes nothing.
use Rattle.std.specs.Prelude.{if◌then◌else◌}
use mathlib.Core.Path.{◌≡◌, refl, sym}
use mathlib.Core.Bool.{Bool, true, false, ◌&&◌, true≢false}
use mathlib.Core.List.{List}
use Prim.Native.Nat.{ℕ, zero, suc, ◌*◌, ◌<◌}
use native.Mathlib.Nat.{zero-mul, eq-or-lt_of_le, le_of_suc-le-suc}
use native.Mathlib.Omega.{arith}
use mathlib.Core.Logic.{⊎_elim}
use mathlib.Core.Path.{subst}
use lib.IntN.{ℤ}
use lib.Dec.{T, lt→ltb, eqb}
use lib.ListN.{length}
use lib.Ieee.{Float, nan, inf, fin, up, down, lt, eq, of_bits}
use borrow.Author.Tests.{eqb-false, le-ltb}
use Rattle.doubles.proofs.Extremes.{nonneg_max}
use Rattle.lists.specs.Loop.{iter}
use Rattle.doubles.specs.F64.{◌⋖◌, +0, at, abs, is_finite, replaced, max_num, nonneg}
use Rattle.doubles.proofs.Compare.{zero_below, zero_cases, zero_equal}
use Rattle.pow2.specs.Pow2.{sup}

pub nonneg_sup : (x : List Float) → T (nonneg (sup x))
unfolding sup iter of_bits
nonneg_sup x = go (length x)
  where
    go : (n : ℕ) → T (nonneg (iter (λ i m. max_num m (abs (at x i))) n +0))
    go zero = tt
    go (suc n) = nonneg_max (iter (λ i m. max_num m (abs (at x i))) n +0) (at x n) (go n)

pub above_zero : (b : Float) → T (nonneg b) → eq b +0 ≡ false → T (+0 ⋖ b)
unfolding lt eq of_bits
above_zero nan h e = absurd h
above_zero (inf true) h e = absurd h
above_zero (inf false) h e = tt
above_zero (fin true m d) h e = absurd h
above_zero (fin false m d) h e =
    let z = zero-mul (down d) in
    let n = eqb-false (m * up d * 1) (0 * down d) (off (eqb (m * up d * 1) (0 * down d)) e) in
    lt→ltb (0 * down d) (m * up d * 1) (positive (m * up d * 1) (0 * down d) z n)
  where
    off : (t : Bool) → (t && true) ≡ false → t ≡ false
    off true p = p
    off false p = refl

    positive : (a o : ℕ) → o ≡ 0 → (a ≡ o → ⊥) → o < a
    positive a o z n = omega arith

-- ---- 0 exactly where all values are
abbrev IsZero : Float → Type 0
IsZero x = eq x +0 ≡ true

abbrev NoDigit : Float → Type 0
NoDigit nan = ⊥
NoDigit (inf s) = ⊥
NoDigit (fin s zero e) = Unit
NoDigit (fin s (suc m) e) = ⊥

no_digit : (x : Float) → IsZero x → NoDigit x
no_digit = zero_cases NoDigit (λ s e. tt)

large_first : (a : ℕ) (e : ℤ) (d : ℤ) → (fin false a e ⋖ fin false 0 d) ≡ false
unfolding lt
large_first a e d = le-ltb (a * up e * down d) (0 * up d * down e) (rw (zero-mul (up d), zero-mul (down e)) (omega arith))

-- a maximum is 0 only of zeros
max_zero : (m v : Float) → T (nonneg m) → is_finite v ≡ true → IsZero (max_num m (abs v)) → IsZero m × IsZero v
unfolding max_num replaced
max_zero nan v h f z = absurd h
max_zero (inf true) v h f z = absurd h
max_zero (inf false) nan h f z = absurd (true≢false (sym f))
max_zero (inf false) (inf s) h f z = absurd (true≢false (sym f))
max_zero (inf false) (fin s n d) h f z = absurd (no_digit (inf false) (unfold lt in z))
max_zero (fin true a e) v h f z = absurd h
max_zero (fin false a e) nan h f z = absurd (true≢false (sym f))
max_zero (fin false a e) (inf s) h f z = absurd (true≢false (sym f))
max_zero (fin false zero e) (fin s zero d) h f z = (zero_equal false e, zero_equal s d)
max_zero (fin false zero e) (fin s (suc n) d) h f z = absurd (no_digit (fin false (suc n) d) (rw (zero_below e n d) at z))
max_zero (fin false (suc a) e) (fin s zero d) h f z = absurd (no_digit (fin false (suc a) e) (rw (large_first (suc a) e d) at z))
max_zero (fin false (suc a) e) (fin s (suc n) d) h f z = absurd (go (fin false (suc a) e ⋖ fin false (suc n) d) z)
  where
    go : (b : Bool) → IsZero (if b then fin false (suc n) d else fin false (suc a) e) → ⊥
    go true z = no_digit (fin false (suc n) d) z
    go false z = no_digit (fin false (suc a) e) z

zero_max : (m v : Float) → IsZero m → IsZero v → IsZero (max_num m (abs v))
unfolding max_num replaced
zero_max nan v z y = absurd (no_digit nan z)
zero_max (inf s) v z y = absurd (no_digit (inf s) z)
zero_max (fin s a e) nan z y = absurd (no_digit nan y)
zero_max (fin s a e) (inf t) z y = absurd (no_digit (inf t) y)
zero_max (fin s a e) (fin t (suc n) d) z y = absurd (no_digit (fin t (suc n) d) y)
zero_max (fin s a e) (fin t zero d) z y = go (fin s a e ⋖ fin false 0 d)
  where
    go : (b : Bool) → IsZero (if b then fin false 0 d else fin s a e)
    go true = zero_equal false d
    go false = z

pub sup_zero : (x : List Float) → ((i : ℕ) → i < length x → is_finite (at x i) ≡ true) → eq (sup x) +0 ≡ true → (i : ℕ) → i < length x → eq (at x i) +0 ≡ true
unfolding sup iter of_bits
sup_zero x f = go (length x) f
  where
    step : ℕ → Float → Float
    step i m = max_num m (abs (at x i))

    clear : (n : ℕ) → T (nonneg (iter step n +0))
    clear zero = tt
    clear (suc n) = nonneg_max (iter step n +0) (at x n) (clear n)

    go : (n : ℕ) → ((i : ℕ) → i < n → is_finite (at x i) ≡ true) → IsZero (iter step n +0) → (i : ℕ) → i < n → IsZero (at x i)
    go zero f z i l = absurd (omega (arith, l))
    go (suc n) f z i l =
        let h = max_zero (iter step n +0) (at x n) (clear n) (f n (omega arith)) z in
        ⊎_elim (λ (e : i ≡ n). subst (λ (k : ℕ). IsZero (at x k)) (sym e) h.1) (λ (k : i < n). go n (λ j m. f j (omega (arith, m))) h.0 i k) (eq-or-lt_of_le (le_of_suc-le-suc l))

pub zero_sup : (x : List Float) → ((i : ℕ) → i < length x → eq (at x i) +0 ≡ true) → eq (sup x) +0 ≡ true
unfolding sup iter
zero_sup x h = go (length x) h
  where
    go : (n : ℕ) → ((i : ℕ) → i < n → IsZero (at x i)) → IsZero (iter (λ i m. max_num m (abs (at x i))) n +0)
    go zero h = unfold eq of_bits in refl
    go (suc n) h = zero_max _ (at x n) (go n (λ i l. h i (omega (arith, l)))) (h n (omega arith))
