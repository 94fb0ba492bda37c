-- A product whose exact value is 0 or not tiny, as a term of a sum: rounded, it is the exact product but for 2 ^ -53 of its size at most. Assumes nothing.
use mathlib.Core.Path.{◌≡◌, refl, sym, ap, ◌∙◌, subst}
use mathlib.Core.Logic.{◌⊎◌, inl, inr}
use Prim.Native.Nat.{ℕ, ◌*◌, ◌^◌, ◌≤◌, ◌<◌}
use native.Mathlib.Nat.{le_trans, le_of_eq, mul_assoc, mul-le-mul_right, mul-one, zero-mul}
use native.Mathlib.Omega.{arith}
use mathlib.Core.Bool.{Bool}
use lib.IntN.{nat_abs, ◌*ℤ◌}
use lib.Dec.{T}
use lib.Pow.{pow_pos}
use lib.Ieee.{Float, binary64, unlike, round, fits}
use lib.Ieee.Fits.{mul-fits}
use lib.Ieee.Exact.{HasValue}
use lib.Ieee.Scale.{grid, round_same}
use Rattle.doubles.specs.F64.{◌⊗◌, is_finite}
use Rattle.doubles.specs.Units.{units, NotTiny}
use Rattle.doubles.proofs.Total.{sign}
use Rattle.doubles.proofs.Monotone.{zero_round}
use Rattle.doubles.proofs.Finite.{mul_finite}
use Rattle.doubles.proofs.Units.{product_rounds}
use Rattle.doubles.proofs.RelativeError.{Close, fraction_close, round_value}
use Rattle.doubles.proofs.SumStep.{close_cancel}
use Rattle.doubles.proofs.SumError.{Term}

-- 0 / c rounds to a zero of its sign
pub zero_is : (u : Bool) (c : ℕ) → 0 < c → HasValue (round binary64 u 0 c) u 0 (2 ^ 1074)
zero_is u c C = subst (λ (z : Float). HasValue z u 0 (2 ^ 1074)) (sym (round_same binary64 u 0 c 0 1 C (pow_pos 0) (mul-one 0 ∙ sym (zero-mul c)) ∙ zero_round u)) (refl, refl)

-- 2 ^ -1022 is 2 ^ 1126 units of 2 ^ -2148, and 2 ^ 52 of 2 ^ -1074
powers : 4503599627370496 * 2 ^ 2148 ≡ 2 ^ 1126 * 2 ^ 1074
powers = refl

pub normal_size : (a : ℕ) → 2 ^ 1126 ≤ a → 4503599627370496 * 2 ^ 2148 ≤ a * 2 ^ 1074
normal_size a l = le_trans (le_of_eq powers) (mul-le-mul_right (2 ^ 1074) l)

-- a units of 2 ^ -2148, rounded
rounded_term : (x : Float) (u : Bool) (a : ℕ) → T (fits binary64 x) → x ≡ round binary64 u a (2 ^ 2148) → T (is_finite x) → (a ≡ 0) ⊎ (2 ^ 1126 ≤ a) → Term x u a
rounded_term x u a f e h (inl z) =
    record {
      g = 0;
      value = subst (λ (y : Float). HasValue y u 0 (2 ^ 1074)) (sym (e ∙ ap (λ (b : ℕ). round binary64 u b (2 ^ 2148)) z)) (zero_is u (2 ^ 2148) (pow_pos 2148));
      close = subst (λ (b : ℕ). Close 0 b) (sym z) (omega arith, omega arith);
      fit = f;
    }
rounded_term x u a f e h (inr l) =
    let g = grid binary64 a (2 ^ 2148) in
    record {
      g = g;
      value = subst (λ (y : Float). HasValue y u g (2 ^ 1074)) (sym e) (round_value u a (2 ^ 2148) (subst (λ (y : Float). T (is_finite y)) e h));
      close = close_cancel (g * 2 ^ 1074) a (2 ^ 1074) (pow_pos 1074) (subst (λ (p : ℕ). Close p (a * 2 ^ 1074)) (sym (mul_assoc g (2 ^ 1074) (2 ^ 1074))) (fraction_close a (2 ^ 2148) (pow_pos 2148) (normal_size a l)));
      fit = f;
    }

pub product_term : (x y : Float) → T (fits binary64 x) → T (fits binary64 y) → T (is_finite (x ⊗ y)) → NotTiny (2 ^ 1126) (units x *ℤ units y) → Term (x ⊗ y) (unlike (sign x) (sign y)) (nat_abs (units x *ℤ units y))
product_term x y f g h n =
    let k = mul_finite x y h in
    rounded_term (x ⊗ y) (unlike (sign x) (sign y)) (nat_abs (units x *ℤ units y)) (mul-fits binary64 x y) (product_rounds x y f g k.0 k.1) h n
