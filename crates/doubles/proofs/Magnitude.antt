-- The sign of a double and its pattern: the magnitude's pattern is the pattern with the sign's bit taken off, and a finite magnitude's pattern is below the infinity's. Assumes nothing.
use mathlib.Core.Path.{◌≡◌, refl, sym, ap, ◌∙◌, subst}
use Prim.Native.Nat.{ℕ, zero, suc, ◌+◌, ◌-◌, ◌*◌, ◌/◌, ◌%◌, ◌^◌, ◌≤◌, ◌<◌}
use native.Mathlib.Nat.{add-mod_left, zero-add, mod-eq_of_lt, lt_of_not-le, add_assoc}
use native.Mathlib.Omega.{arith}
use mathlib.Core.Bool.{Bool, true, false, not, cond, true≢false}
use lib.IntN.{ℤ}
use lib.Dec.{T, eqb}
use lib.Ieee.{Float, nan, inf, fin, binary64, up, down, size, ne, of_fields, of_bits, to_bits, fits, is_nan}
use lib.Ieee.Bits.{of_bits-to_bits, to_bits-lt}
use lib.Ieee.Compare.{differs_from_itself, nan_differs}
use Rattle.doubles.specs.F64.{abs, is_finite}
use Rattle.doubles.proofs.Patterns.{positive_fields}

-- ---- NaN, by `x != x`
pub no_nan : (x : Float) → ne x x ≡ false → T (not (is_nan x))
unfolding is_nan
no_nan nan e = absurd (true≢false (sym nan_differs ∙ e))
no_nan (inf s) e = tt
no_nan (fin s m e) h = tt

pub nan_of_ne : (x : Float) → ne x x ≡ true → x ≡ nan
nan_of_ne x e = differs_from_itself x (subst T (sym e) tt)

-- b is what the test found
pub nan_told : (x : Float) (b : Bool) → ne x x ≡ b → b ≡ is_nan x
unfolding is_nan
nan_told x true e = sym (ap is_nan (nan_of_ne x e))
nan_told nan false e = absurd (true≢false (sym nan_differs ∙ e))
nan_told (inf s) false e = refl
nan_told (fin s m d) false e = refl

-- ---- what fits does not turn on the sign
pub abs_fits : (x : Float) → T (fits binary64 x) → T (fits binary64 (abs x))
unfolding fits
abs_fits nan h = tt
abs_fits (inf s) h = tt
abs_fits (fin s zero e) h = h
abs_fits (fin s (suc m) e) h = h

-- ---- the absolute value by bits
below_top : (c : ℕ) → 9223372036854775808 + c < 2 * 9223372036854775808 → c < 9223372036854775808
below_top c h = omega arith

-- the pattern of ±m * 2 ^ e is the sign's weight and a rest that does not turn on the sign
pub rest : ℕ → ℤ → ℕ
unfolding size
rest m e = let n = m * up e * 2 ^ 1074 / down e in (size n - 53) * 4503599627370496 + n / 2 ^ (size n - 53)

pub bits_fin : (s : Bool) (m : ℕ) (e : ℤ) → to_bits binary64 (fin s m e) ≡ cond s 9223372036854775808 0 + rest m e
unfolding to_bits rest
bits_fin s m e =
    let n = m * up e * 2 ^ 1074 / down e in
    add_assoc (cond s 9223372036854775808 0) ((size n - 53) * 4503599627370496) (n / 2 ^ (size n - 53))

pub rest_lt : (m : ℕ) (e : ℤ) → T (fits binary64 (fin true m e)) → rest m e < 9223372036854775808
rest_lt m e h = below_top (rest m e) (subst (λ (z : ℕ). z < 2 * 9223372036854775808) (bits_fin true m e) (to_bits-lt binary64 (fin true m e) h))

pub flip_fits : (s t : Bool) (m : ℕ) (e : ℤ) → T (fits binary64 (fin s m e)) → T (fits binary64 (fin t m e))
unfolding fits
flip_fits s t zero e h = h
flip_fits s t (suc m) e h = h

bits_abs_inf : (s : Bool) → to_bits binary64 (inf s) % 9223372036854775808 ≡ to_bits binary64 (inf false)
unfolding to_bits
bits_abs_inf true = refl
bits_abs_inf false = refl

pub bits_abs : (x : Float) → T (fits binary64 x) → T (not (is_nan x)) → to_bits binary64 x % 9223372036854775808 ≡ to_bits binary64 (abs x)
unfolding is_nan
bits_abs nan f n = absurd n
bits_abs (inf s) f n = bits_abs_inf s
bits_abs (fin true m e) f n =
    ap (λ (z : ℕ). z % 9223372036854775808) (bits_fin true m e)
    ∙ add-mod_left 9223372036854775808 (rest m e)
    ∙ mod-eq_of_lt (rest_lt m e f)
    ∙ sym (zero-add (rest m e))
    ∙ sym (bits_fin false m e)
bits_abs (fin false m e) f n =
    ap (λ (z : ℕ). z % 9223372036854775808) (bits_fin false m e ∙ zero-add (rest m e))
    ∙ mod-eq_of_lt (rest_lt m e (flip_fits false true m e f))
    ∙ sym (zero-add (rest m e))
    ∙ sym (bits_fin false m e)

-- ---- a finite magnitude's pattern is below the infinity's
at_top : (b : ℕ) → 9218868437227405312 ≤ b → b < 9223372036854775808 → b / 4503599627370496 ≡ 2047
at_top b h k = omega arith

top_not_finite : (t x : ℕ) → x ≡ 2047 → is_finite (of_fields binary64 false x t) ≡ false
unfolding of_fields
top_not_finite t x e = subst (λ (y : ℕ). is_finite (of_fields binary64 false y t) ≡ false) (sym e) (go (eqb t 0))
  where
    go : (b : Bool) → is_finite (cond b (inf false) nan) ≡ false
    go true = refl
    go false = refl

pub finite_bits : (x : Float) → T (fits binary64 x) → T (is_finite x) → to_bits binary64 (abs x) < 9218868437227405312
finite_bits nan f h = absurd h
finite_bits (inf s) f h = absurd h
finite_bits (fin s m e) f h = lt_of_not-le (λ (g : 9218868437227405312 ≤ b).
    true≢false (sym (ap is_finite (sym (positive_fields b small) ∙ back)) ∙ top_not_finite (b % 4503599627370496) (b / 4503599627370496) (at_top b g small)))
  where
    b : ℕ
    b = to_bits binary64 (fin false m e)

    small : b < 9223372036854775808
    small = subst (λ (z : ℕ). z < 9223372036854775808) (sym (bits_fin false m e ∙ zero-add (rest m e))) (rest_lt m e (flip_fits s true m e f))

    back : of_bits binary64 b ≡ fin false m e
    back = of_bits-to_bits binary64 (fin false m e) (flip_fits s false m e f)
