-- +0 times a finite double is finite. Assumes nothing.
use mathlib.Core.Path.{◌≡◌, refl, sym, ap, ◌∙◌, subst}
use mathlib.Core.Bool.{Bool, true}
use Prim.Native.Nat.{ℕ, ◌+◌, ◌*◌, ◌^◌, ◌<◌, suc}
use native.Mathlib.Nat.{mul-pos, zero-mul}
use lib.IntN.{ℤ, pos}
use lib.Pow.{pow_pos}
use lib.Ieee.{Float, nan, inf, fin, binary64, prec, low, emax, up, round, mul, of_bits}
use lib.Ieee.Fits.{down_pos}
use lib.Ieee.Exact.{HasValue, round_exact}
use Rattle.doubles.specs.F64.{◌⊗◌, +0, is_finite}

finite_value : (x : Float) (s : Bool) (a c : ℕ) → HasValue x s a c → is_finite x ≡ true
finite_value nan s a c h = absurd h
finite_value (inf t) s a c h = absurd h
finite_value (fin t m e) s a c h = refl

zero_rounded : (s : Bool) (a c : ℕ) → 0 < c → a ≡ 0 → is_finite (round binary64 s a c) ≡ true
zero_rounded s a c C e =
    let f = binary64 in
    finite_value (round f s a c) s a c
    (round_exact f s a c 0 0 C (pow_pos (prec f)) (subst (λ (z : ℕ). z < 2 ^ (low f + suc (emax f))) (sym (zero-mul (2 ^ 0))) (pow_pos (low f + suc (emax f)))) (ap (λ (z : ℕ). z * 2 ^ low f) e ∙ zero-mul (2 ^ low f) ∙ sym (zero-mul c)))

pub zero_times : (s : Bool) (m : ℕ) (d : ℤ) → is_finite (+0 ⊗ fin s m d) ≡ true
unfolding mul of_bits
zero_times s m d = zero_rounded _ _ _ (mul-pos (down_pos (pos 0)) (down_pos d)) (ap (λ (z : ℕ). z * (m * up d)) (zero-mul (up (pos 0))) ∙ zero-mul (m * up d))
