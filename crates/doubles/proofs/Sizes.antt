-- Sizes and sums of sizes: no NaN, and the sign clear. Assumes nothing.
use mathlib.Core.Path.{◌≡◌, refl, sym, ◌∙◌, subst}
use mathlib.Core.Logic.{inl, inr}
use mathlib.Core.Bool.{Bool, true, false, not, true≢false}
use Prim.Native.Nat.{ℕ, zero, suc, ◌<◌}
use native.Mathlib.Omega.{arith}
use lib.Dec.{T}
use lib.Ieee.{Float, nan, inf, fin, binary64, lt, le, ne, fits, is_nan, of_bits, to_bits}
use lib.Ieee.Fits.{add-fits}
use lib.Ieee.Bits.{of_bits-fits, is_true}
use Rattle.lists.specs.Loop.{iter}
use Rattle.doubles.specs.F64.{◌⋖◌, ◌⩽◌, +0, abs, is_finite, nonneg}
use Rattle.doubles.specs.Sum.{sum}
use Rattle.doubles.proofs.Magnitude.{nan_of_ne, finite_bits}
use Rattle.doubles.proofs.Total.{⩽_or_⋖, ⩽_antisymm}
use Rattle.doubles.proofs.Order.{nonneg_add, nonneg_number, nonneg_zero, nonneg_sign}

pub zero_nonneg : T (nonneg +0)
unfolding of_bits
zero_nonneg = tt

pub abs_nonneg : (x : Float) → T (not (is_nan x)) → T (nonneg (abs x))
unfolding is_nan
abs_nonneg nan h = absurd h
abs_nonneg (inf s) h = tt
abs_nonneg (fin s m e) h = tt

pub sum_nonneg : (n : ℕ) (f : ℕ → Float) → ((k : ℕ) → k < n → T (nonneg (f k))) → T (nonneg (sum n f))
unfolding sum iter
sum_nonneg zero f h = zero_nonneg
sum_nonneg (suc n) f h = nonneg_add (sum n f) (f n) (sum_nonneg n f (λ k l. h k (omega arith))) (h n (omega arith))

pub sum_fits : (n : ℕ) (f : ℕ → Float) → T (fits binary64 (sum n f))
unfolding sum iter
sum_fits zero f = of_bits-fits binary64 0
sum_fits (suc n) f = add-fits binary64 (sum n f) (f n)

-- a test of `x != x` fails where x is no NaN
pub equals_itself : (x : Float) → T (not (is_nan x)) → ne x x ≡ false
equals_itself x h = go (ne x x) refl
  where
    no : x ≡ nan → ⊥
    no e = unfold is_nan in subst (λ (y : Float). T (not (is_nan y))) e h

    go : (b : Bool) → ne x x ≡ b → b ≡ false
    go true e = absurd (no (nan_of_ne x e))
    go false e = refl

-- what is not negative and not above 0 is +0
pub not_above_zero : (x : Float) → T (fits binary64 x) → T (nonneg x) → (+0 ⋖ x) ≡ false → x ≡ +0
not_above_zero x f p h = ⩽_antisymm x +0 f (of_bits-fits binary64 0) (nonneg_sign x p ∙ sym (nonneg_sign +0 zero_nonneg)) under (nonneg_zero x p)
  where
    under : T (x ⩽ +0)
    under = elim (⩽_or_⋖ x +0 (nonneg_number x p) (nonneg_number +0 zero_nonneg)) [ inl l ↦ l | inr g ↦ absurd (true≢false (sym (is_true (+0 ⋖ x) g) ∙ h)) ]

-- what is not negative and below something, or at most something finite, is finite
pub finite_below : (x y : Float) → T (+0 ⩽ x) → T (x ⋖ y) → T (is_finite x)
unfolding le lt of_bits
finite_below nan y p l = p
finite_below (inf true) y p l = p
finite_below (inf false) nan p l = l
finite_below (inf false) (inf t) p l = l
finite_below (inf false) (fin t n d) p l = l
finite_below (fin s m e) y p l = tt

pub finite_under : (x y : Float) → T (+0 ⩽ x) → T (x ⩽ y) → T (is_finite y) → T (is_finite x)
unfolding le of_bits
finite_under nan y p l f = p
finite_under (inf true) y p l f = p
finite_under (inf false) nan p l f = f
finite_under (inf false) (inf t) p l f = f
finite_under (inf false) (fin t n d) p l f = l
finite_under (fin s m e) y p l f = tt

-- with the sign clear a double is its size, and its pattern is below the infinity's
pub abs_is : (y : Float) → T (nonneg y) → abs y ≡ y
abs_is nan h = refl
abs_is (inf true) h = absurd h
abs_is (inf false) h = refl
abs_is (fin true m e) h = absurd h
abs_is (fin false m e) h = refl

pub nonneg_bits : (x : Float) → T (fits binary64 x) → T (is_finite x) → T (nonneg x) → to_bits binary64 x < 9218868437227405312
nonneg_bits x f h p = subst (λ (y : Float). to_bits binary64 y < 9218868437227405312) (abs_is x p) (finite_bits x f h)
