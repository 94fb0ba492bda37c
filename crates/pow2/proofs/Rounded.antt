-- 2 ^ k rounded to a double: the product of two powers, the power itself where a double has it, the infinity above. Assumes nothing.
use mathlib.Core.Path.{◌≡◌, refl, sym, ap, ◌∙◌, subst}
use mathlib.Core.Bool.{Bool, true, false, cond}
use Prim.Native.Nat.{ℕ, zero, suc, ◌+◌, ◌-◌, ◌*◌, ◌^◌, ◌≤◌, ◌<◌}
use native.Mathlib.Nat.{le_refl, le_trans, lt_irrefl, mul-one, one-mul, zero-mul, mul-pos, mul-le-mul_right, mul-le-mul}
use native.Mathlib.Omega.{arith}
use lib.Dec.{T, ltb, leb, lt→ltb, le→leb, lit≤}
use lib.Pow.{pow_pos, pow-add, pow-lt, pow_mono}
use lib.IntN.{ℤ, pos, negsuc, neg_ℤ, nat_abs, sub_ℕ, ◌+ℤ◌}
use lib.Signed.{mag}
use lib.Ieee.{Float, nan, inf, fin, binary64, up, down, round, mul, le, ne, of_bits, fits}
use lib.Ieee.Fits.{up_pos, down_pos, and_i}
use lib.Ieee.Order.{round_mono}
use lib.Ieee.Scale.{round_same}
use borrow.Author.Tests.{ltb-true, ltb-false, ne_eqb}
use Rattle.std.specs.Prelude.{Some, None}
use Rattle.doubles.proofs.Unique.{round_self}
use Rattle.lists.proofs.Tests.{and_false}
use Rattle.pow2.specs.Pow2.{pow2_f64, usable, factors, scale_of}

-- ---- 2 ^ a times 2 ^ b is 2 ^ (a + b), as fractions
sub_powers : (a b : ℕ) → 2 ^ a * down (sub_ℕ a b) ≡ up (sub_ℕ a b) * 2 ^ b
sub_powers a b = go (ltb a b) refl
  where
    go : (t : Bool) → ltb a b ≡ t → 2 ^ a * down (cond t (negsuc (b - suc a)) (pos (a - b))) ≡ up (cond t (negsuc (b - suc a)) (pos (a - b))) * 2 ^ b
    go true e =
        let l = ltb-true a b e in
        let s : a + suc (b - suc a) ≡ b = omega arith in
        sym (pow-add 2 a (suc (b - suc a))) ∙ ap (λ (z : ℕ). 2 ^ z) s ∙ sym (one-mul (2 ^ b))
    go false e =
        let l = ltb-false a b e in
        let s : (a - b) + b ≡ a = omega arith in
        mul-one (2 ^ a) ∙ ap (λ (z : ℕ). 2 ^ z) (sym s) ∙ pow-add 2 (a - b) b

powers_add : (a b : ℤ) → 1 * up a * (1 * up b) * down (a +ℤ b) ≡ up (a +ℤ b) * (down a * down b)
powers_add (pos a) (pos b) = simp (one-mul, mul-one) (sym (pow-add 2 a b))
powers_add (pos a) (negsuc b) = simp (one-mul, mul-one) (sub_powers a (suc b))
powers_add (negsuc a) (pos b) = simp (one-mul, mul-one) (sub_powers b (suc a))
powers_add (negsuc a) (negsuc b) =
    let s : suc (suc (a + b)) ≡ suc a + suc b = omega arith in
    simp one-mul (ap (λ (z : ℕ). 2 ^ z) s ∙ pow-add 2 (suc a) (suc b))

pub pow2_product : (a b : ℤ) → mul binary64 (fin false 1 a) (fin false 1 b) ≡ pow2_f64 (a +ℤ b)
unfolding mul pow2_f64
pow2_product a b =
    round_same binary64 false (1 * up a * (1 * up b)) (down a * down b) (up (a +ℤ b)) (down (a +ℤ b)) (mul-pos (down_pos a) (down_pos b)) (down_pos (a +ℤ b)) (powers_add a b)

-- ---- from 2 ^ -1024 up and below 2 ^ 1024 the power is a double
pub power_fits : (e : ℤ) → mag e < 1024 → T (fits binary64 (fin false 1 e))
unfolding fits
power_fits (pos n) h = rw (one-mul (2 ^ n)) (lt→ltb (2 ^ n) (2 ^ 1024) (pow-lt h))
power_fits (negsuc n) h =
    and_i (leb (2 ^ suc n) (2 ^ 1074)) (ltb 1 (2 ^ 1024 * 2 ^ suc n)) (le→leb (2 ^ suc n) (2 ^ 1074) (pow_mono {i = suc n} {j = 1074} (omega arith)))
    (lt→ltb 1 (2 ^ 1024 * 2 ^ suc n) (le_trans (lit≤ tt) (mul-le-mul (le_refl (2 ^ 1024)) (pow_pos (suc n)))))

pub pow2_exact : (e : ℤ) → mag e < 1024 → pow2_f64 e ≡ fin false 1 e
unfolding pow2_f64
pow2_exact e h = round_self (fin false 1 e) false (up e) (down e) (down_pos e) (power_fits e h) (refl, ap (λ (z : ℕ). z * down e) (one-mul (up e)))

-- ---- from 2 ^ 1024 on it is the infinity
over : round binary64 false (2 ^ 1024) 1 ≡ inf false
unfolding round
over = refl

top_alone : (y : Float) → T (le (inf false) y) → y ≡ inf false
unfolding le
top_alone nan h = absurd h
top_alone (inf true) h = absurd h
top_alone (inf false) h = refl
top_alone (fin s m e) h = absurd h

pub pow2_over : (n : ℕ) → 1024 ≤ n → pow2_f64 (pos n) ≡ inf false
unfolding pow2_f64
pow2_over n h =
    top_alone (round binary64 false (2 ^ n) 1)
    (subst (λ (y : Float). T (le y (round binary64 false (2 ^ n) 1))) over (round_mono binary64 (2 ^ 1024) 1 (2 ^ n) 1 (pow_pos 0) (pow_pos 0) (mul-le-mul_right 1 (pow_mono h))))

-- ---- which factors are finite and not 0
usable_power : (e : ℤ) → usable (fin false 1 e) ≡ true
unfolding usable ne of_bits
usable_power e =
    rw (ne_eqb (1 * up e * 1) (0 * 1 * down e) (λ (p : 1 * up e * 1 ≡ 0 * 1 * down e).
    lt_irrefl 0 (subst (λ (z : ℕ). 0 < z) (sym (one-mul (up e)) ∙ sym (mul-one (1 * up e)) ∙ p ∙ zero-mul (down e)) (up_pos e))))

usable_over : usable (inf false) ≡ false
unfolding usable
usable_over = refl

pub factors_inside : (e : ℤ) → nat_abs e < 1024 → factors e ≡ Some (scale_of e)
unfolding factors
factors_inside e h =
    let d = pow2_exact (neg_ℤ e) (down_in e h) in
    let u = pow2_exact e (up_in e h) in
    rw (d, u, usable_power (neg_ℤ e), usable_power e)
  where
    up_in : (e : ℤ) → nat_abs e < 1024 → mag e < 1024
    up_in (pos n) h = h
    up_in (negsuc n) h = omega arith

    down_in : (e : ℤ) → nat_abs e < 1024 → mag (neg_ℤ e) < 1024
    down_in (pos zero) h = h
    down_in (pos (suc n)) h = omega arith
    down_in (negsuc n) h = h

pub factors_outside : (e : ℤ) → 1024 ≤ nat_abs e → factors e ≡ None
unfolding factors
factors_outside (pos n) h = rw (pow2_over n h, usable_over, and_false (usable (pow2_f64 (neg_ℤ (pos n)))))
factors_outside (negsuc n) h = rw (pow2_over (suc n) h, usable_over)
