-- Numbers against 1: x / x, and a product with at least 1. Assumes nothing.
use mathlib.Core.Path.{◌≡◌, refl, sym, ap, ◌∙◌, subst}
use mathlib.Core.Bool.{Bool, true, false, cond, true≢false}
use Prim.Native.Nat.{ℕ, zero, suc, ◌*◌, ◌<◌}
use native.Mathlib.Nat.{mul-pos, mul-one, one-mul}
use lib.Dec.{T, eqb, eqb-suc-zero}
use lib.Pow.{pow_pos}
use lib.Ieee.{Float, nan, inf, fin, binary64, round, up, down, unlike, mul, div, le, lt, fits, of_bits}
use lib.Ieee.Bits.{is_true}
use lib.Ieee.Fits.{down_pos}
use lib.Ieee.Scale.{round_same}
use Rattle.doubles.specs.F64.{◌⊗◌, ◌⊘◌, ◌⩽◌, ◌⋖◌, +0, 1f, is_finite}
use Rattle.doubles.proofs.Arithmetic.{mul_commutes}
use Rattle.doubles.proofs.Compare.{Above, is_above, positive_size}
use Rattle.doubles.proofs.Monotone.{mul_mono, mul_number, mul_one_is, finite_number}
use Rattle.doubles.proofs.Order.{View, endless, number}
use Rattle.doubles.proofs.Total.{⩽_refl, ⋖_⩽, ⋖_⩽_trans}

-- ---- x / x
pub round_one : (a : ℕ) → 0 < a → round binary64 false a a ≡ 1f
round_one a h = round_same binary64 false a a 1 1 h (pow_pos 0) (mul-one a ∙ sym (one-mul a)) ∙ (unfold round of_bits in refl)

pub div_self : (x : Float) → T (is_finite x) → Above x → x ⊘ x ≡ 1f
unfolding div
div_self nan h a = absurd a
div_self (inf s) h a = absurd h
div_self (fin s zero e) h a = absurd a
div_self (fin true (suc m) e) h a = absurd (true≢false a)
div_self (fin false (suc m) e) h a =
    ap (λ (b : Bool). cond b (cond (eqb (suc m) 0) nan (inf false)) (round binary64 false (suc m * up e * down e) (suc m * up e * down e))) (eqb-suc-zero m)
    ∙ round_one (suc m * up e * down e) (mul-pos (positive_size m e) (down_pos e))

-- ---- a product of at least 1 and a number above 0
inf_mul_above : (t : Float) → T (is_finite t) → Above t → T (+0 ⋖ inf false ⊗ t)
unfolding mul lt of_bits
inf_mul_above nan n a = absurd a
inf_mul_above (inf s) n a = absurd n
inf_mul_above (fin s zero e) n a = absurd a
inf_mul_above (fin s (suc m) e) n a = subst (λ (x : Float). T (+0 ⋖ x)) (sym (ap (λ (b : Bool). cond b nan (inf (unlike false s))) (eqb-suc-zero m) ∙ ap (λ (b : Bool). inf (unlike false b)) a)) tt

pub mul_above : {c : Float} (t : Float) → View c → T (1f ⩽ c) → T (fits binary64 t) → T (is_finite t) → T (+0 ⋖ t) → T (+0 ⋖ c ⊗ t)
mul_above t endless h f n a = inf_mul_above t n (is_above t (is_true (+0 ⋖ t) a))
mul_above t (number m e) h f n a =
    let c = fin false m e in
    ⋖_⩽_trans +0 t (c ⊗ t) a
    (subst (λ (x : Float). T (x ⩽ c ⊗ t)) (mul_commutes 1f t ∙ mul_one_is t f)
    (mul_mono 1f c t t (unfold le of_bits in tt) (⋖_⩽ +0 t a) h (⩽_refl t (finite_number t n)) (mul_number 1f t (unfold of_bits in tt) n) (mul_number c t tt n)))
