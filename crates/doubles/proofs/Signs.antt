-- A NaN goes through products and quotients, and the sign of a product or a quotient comes from the signs of its operands. Assumes nothing.
use mathlib.Core.Path.{◌≡◌, refl, sym, ap, ◌∙◌, subst}
use mathlib.Core.Logic.{◌⊎◌, inl, inr}
use mathlib.Core.Bool.{Bool, true, false, not, cond}
use Prim.Native.Nat.{ℕ, zero, suc, ◌*◌}
use native.Mathlib.Omega.{arith}
use lib.IntN.{ℤ, pos}
use lib.Dec.{T, eqb, eqb-suc-zero}
use lib.Ieee.{Float, nan, inf, fin, binary64, round, up, down, unlike, neg, mul, div, le, fits, is_nan, of_bits}
use lib.Ieee.Bits.{is_true}
use Rattle.doubles.specs.F64.{◌⊖◌, ◌⊗◌, ◌⊘◌, ◌⩽◌, ◌⋖◌, +0, 1f, abs, is_finite, nonneg}
use Rattle.doubles.proofs.Compare.{Above, is_above}
use Rattle.doubles.proofs.Total.{before→le, le_lowest}
use Rattle.doubles.proofs.Monotone.{round_not, sub_above}
use Rattle.doubles.proofs.Order.{nonneg_round, View, endless, number, view, ⋖_nonneg}
use Rattle.doubles.proofs.Sizes.{zero_nonneg}

-- ---- NaN
pub mul_nan : (x : Float) → x ⊗ nan ≡ nan
unfolding mul
mul_nan nan = refl
mul_nan (inf s) = refl
mul_nan (fin s m e) = refl

pub nan_mul : (x : Float) → nan ⊗ x ≡ nan
unfolding mul
nan_mul x = refl

pub div_nan : (x : Float) → x ⊘ nan ≡ nan
unfolding div
div_nan nan = refl
div_nan (inf s) = refl
div_nan (fin s m e) = refl

pub nan_div : (x : Float) → nan ⊘ x ≡ nan
unfolding div
nan_div x = refl

pub nan_or_number : (x : Float) → (x ≡ nan) ⊎ T (not (is_nan x))
unfolding is_nan
nan_or_number nan = inl refl
nan_or_number (inf s) = inr tt
nan_or_number (fin s m e) = inr tt

-- ---- the sign clear
-- NaN, or the sign clear
abbrev pub Clear : Float → Type 0
Clear x = (x ≡ nan) ⊎ T (nonneg x)

clear_test : (b : Bool) → Clear (cond b nan (inf false))
clear_test true = inl refl
clear_test false = inr tt

mul_view : {x y : Float} → View x → View y → Clear (x ⊗ y)
unfolding mul
mul_view endless endless = inr tt
mul_view endless (number n d) = clear_test (eqb n 0)
mul_view (number m e) endless = clear_test (eqb m 0)
mul_view (number m e) (number n d) = inr (nonneg_round binary64 (m * up e * (n * up d)) (down e * down d))

div_view : {x y : Float} → View x → View y → Clear (x ⊘ y)
unfolding div
div_view endless endless = inl refl
div_view endless (number n d) = inr tt
div_view (number m e) endless = inr tt
div_view (number m e) (number n d) = go (eqb n 0) (eqb m 0)
  where
    go : (a b : Bool) → Clear (cond a (cond b nan (inf false)) (round binary64 false (m * up e * down d) (n * up d * down e)))
    go true b = clear_test b
    go false b = inr (nonneg_round binary64 (m * up e * down d) (n * up d * down e))

pub mul_clear : (x y : Float) → Clear x → Clear y → Clear (x ⊗ y)
mul_clear x y (inl e) c = inl (ap (λ (z : Float). z ⊗ y) e ∙ nan_mul y)
mul_clear x y (inr h) (inl e) = inl (ap (λ (z : Float). x ⊗ z) e ∙ mul_nan x)
mul_clear x y (inr h) (inr k) = mul_view (view x h) (view y k)

pub mul_sign : (x y : Float) → T (nonneg x) → T (nonneg y) → T (not (is_nan (x ⊗ y))) → T (nonneg (x ⊗ y))
unfolding is_nan
mul_sign x y h k n = elim (mul_clear x y (inr h) (inr k)) [ inl e ↦ absurd (subst (λ (z : Float). T (not (is_nan z))) e n) | inr c ↦ c ]

pub div_clear : (x y : Float) → Clear x → Clear y → Clear (x ⊘ y)
div_clear x y (inl e) c = inl (ap (λ (z : Float). z ⊘ y) e ∙ nan_div y)
div_clear x y (inr h) (inl e) = inl (ap (λ (z : Float). x ⊘ z) e ∙ div_nan x)
div_clear x y (inr h) (inr k) = div_view (view x h) (view y k)

pub abs_clear : (x : Float) → Clear (abs x)
abs_clear nan = inl refl
abs_clear (inf s) = inr tt
abs_clear (fin s m e) = inr tt

-- a difference above 0
pub sub_clear : (x y : Float) → T (fits binary64 x) → T (fits binary64 y) → (y ⋖ x) ≡ true → Clear (x ⊖ y)
sub_clear x y f g h = elim (nan_or_number (x ⊖ y)) [
  | inl e ↦ inl e
  | inr n ↦ inr (⋖_nonneg +0 (x ⊖ y) zero_nonneg (sub_above y x g f (subst T (sym h) tt) n))
]

-- ---- the sign set
pub data SignSet : Float → Type 0 where
  lowest : SignSet (inf true)
  below : (m : ℕ) (e : ℤ) → SignSet (fin true m e)

round_set : (a c : ℕ) → SignSet (round binary64 true a c)
unfolding neg
round_set a c = subst SignSet (sym (round_not binary64 false a c)) (go (view (round binary64 false a c) (nonneg_round binary64 a c)))
  where
    go : {x : Float} → View x → SignSet (neg x)
    go endless = lowest
    go (number m e) = below m e

set_test : (b : Bool) → (cond b nan (inf true) ≡ nan) ⊎ SignSet (cond b nan (inf true))
set_test true = inl refl
set_test false = inr lowest

pub mul_set : {x y : Float} → View x → SignSet y → (x ⊗ y ≡ nan) ⊎ SignSet (x ⊗ y)
unfolding mul
mul_set endless lowest = inr lowest
mul_set endless (below n d) = set_test (eqb n 0)
mul_set (number m e) lowest = set_test (eqb m 0)
mul_set (number m e) (below n d) = inr (round_set (m * up e * (n * up d)) (down e * down d))

pub div_set : {x y : Float} → SignSet x → View y → (x ⊘ y ≡ nan) ⊎ SignSet (x ⊘ y)
unfolding div
div_set lowest endless = inl refl
div_set lowest (number n d) = inr lowest
div_set (below m e) endless = inr (below 0 (pos 0))
div_set (below m e) (number n d) = go (eqb n 0) (eqb m 0)
  where
    go : (a b : Bool) → (cond a (cond b nan (inf true)) (round binary64 true (m * up e * down d) (n * up d * down e)) ≡ nan) ⊎ SignSet (cond a (cond b nan (inf true)) (round binary64 true (m * up e * down d) (n * up d * down e)))
    go true b = set_test b
    go false b = inr (round_set (m * up e * down d) (n * up d * down e))

pub set_low : {x : Float} → SignSet x → T (x ⩽ 1f)
unfolding of_bits
set_low lowest = le_lowest 1f (unfold is_nan in tt)
set_low (below m e) = before→le true m e false 1 (pos 0) (omega arith)

-- ---- infinity
pub above_mul_inf : (u : Float) → T (+0 ⋖ u) → u ⊗ inf false ≡ inf false
unfolding mul
above_mul_inf u h = go u (is_above u (is_true (+0 ⋖ u) h))
  where
    go : (u : Float) → Above u → u ⊗ inf false ≡ inf false
    go nan a = absurd a
    go (inf s) a = ap (λ (b : Bool). inf (unlike b false)) a
    go (fin s zero e) a = absurd a
    go (fin s (suc m) e) a = ap (λ (b : Bool). cond b nan (inf (unlike s false))) (eqb-suc-zero m) ∙ ap (λ (b : Bool). inf (unlike b false)) a

pub zero_mul_inf : +0 ⊗ inf false ≡ nan
unfolding mul of_bits
zero_mul_inf = refl

-- at least 0: +infinity, or finite
pub inf_or_finite : (x : Float) → T (+0 ⩽ x) → (x ≡ inf false) ⊎ T (is_finite x)
unfolding le of_bits
inf_or_finite nan h = absurd h
inf_or_finite (inf true) h = absurd h
inf_or_finite (inf false) h = inl refl
inf_or_finite (fin s m e) h = inr tt
