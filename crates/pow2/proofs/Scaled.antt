-- The sup-norm of values times a power of two is the sup-norm times it; and eta and 1 / eta are powers of two whatever the magnitude is, so that two of them differ by a power of two.
-- Assumes nothing.
use Rattle.std.specs.Prelude.{if◌then◌else◌}
use mathlib.Core.Path.{◌≡◌, refl, sym, ap, ◌∙◌}
use mathlib.Core.List.{List}
use Prim.Native.Nat.{ℕ, zero, suc, ◌+◌, ◌-◌, ◌*◌, ◌^◌, ◌≤◌, ◌<◌}
use native.Mathlib.Nat.{mul_comm, mul-one, one-mul}
use native.Mathlib.Omega.{arith}
use mathlib.Core.Bool.{Bool, true, false, ◌&&◌}
use lib.IntN.{ℤ, pos, negsuc, neg_ℤ}
use lib.Signed.{mag}
use lib.Pow.{pow-add}
use lib.ListN.{length}
use lib.Ieee.{Float, fin, of_bits}
use lib.Ieee.Exact.{HasValue}
use Rattle.lists.specs.Loop.{iter}
use Rattle.doubles.specs.F64.{◌⋖◌, +0, 1f, at, abs, is_finite, max_num}
use Rattle.doubles.proofs.Signed.{Diff}
use Rattle.doubles.proofs.Scaled.{Scaled, zero_scaled}
use Rattle.doubles.proofs.ScaledOrder.{abs_scaled, max_scaled}
use Rattle.pow2.specs.declared.Scaling.{Scaling}
use Rattle.pow2.specs.Pow2.{clamp, ceil_log2, eta_of, eta_scaling, sup}
use Rattle.pow2.proofs.Integers.{clamp_mag}
use Rattle.pow2.proofs.Rounded.{power_fits}

-- ---- the sup-norm
fold_scaled : (u v : ℕ) (x x' : List Float) (n : ℕ) → ((i : ℕ) → i < n → Scaled u v (at x i) (at x' i)) → Scaled u v (iter (λ i m. max_num m (abs (at x i))) n +0) (iter (λ i m. max_num m (abs (at x' i))) n +0)
unfolding iter
fold_scaled u v x x' zero h = zero_scaled u v
fold_scaled u v x x' (suc n) h = max_scaled u v _ _ (abs (at x n)) (abs (at x' n)) (fold_scaled u v x x' n (λ i l. h i (omega arith))) (abs_scaled u v (at x n) (at x' n) (h n (omega arith)))

pub sup_scaled : (u v : ℕ) (x x' : List Float) (n : ℕ) → length x ≡ n → length x' ≡ n → ((i : ℕ) → i < n → Scaled u v (at x i) (at x' i)) → Scaled u v (sup x) (sup x')
unfolding sup
sup_scaled u v x x' n l l' h = rw (l, l') (fold_scaled u v x x' n h)

-- ---- 2 ^ z is 2 ^ N units of 2 ^ -1074, where z = N - 1074
power_value : (z : ℤ) (N : ℕ) → Diff z N 1074 → HasValue (fin false 1 z) false (2 ^ N) (2 ^ 1074)
power_value (pos k) N d = (refl, ap (λ (y : ℕ). y * 2 ^ 1074) (one-mul (2 ^ k)) ∙ sym (pow-add 2 k 1074) ∙ ap (λ (y : ℕ). 2 ^ y) d ∙ sym (mul-one (2 ^ N)))
power_value (negsuc k) N d = (refl, one-mul (2 ^ 1074) ∙ ap (λ (y : ℕ). 2 ^ y) (sym d) ∙ pow-add 2 (suc k) N ∙ mul_comm (2 ^ suc k) (2 ^ N))

powers_scaled : (u v : ℕ) (z z' : ℤ) (N N' : ℕ) → mag z < 1024 → mag z' < 1024 → Diff z N 1074 → Diff z' N' 1074 → N' + v ≡ N + u → Scaled u v (fin false 1 z) (fin false 1 z')
powers_scaled u v z z' N N' h h' d d' e =
    record {
      sign = false;
      a = 2 ^ N;
      a' = 2 ^ N';
      value = power_value z N d;
      value' = power_value z' N' d';
      scaled = sym (pow-add 2 N' v) ∙ ap (λ (y : ℕ). 2 ^ y) e ∙ pow-add 2 N u;
      fit = power_fits z h;
      fit' = power_fits z' h';
    }

-- ---- eta and 1 / eta are 2 ^ -z and 2 ^ z: N and M are their exponents and 1074
record Power (x : Scaling) : Type 0 where
  z : ℤ
  N : ℕ
  M : ℕ
  small : mag z ≤ 1000
  small_neg : mag (neg_ℤ z) ≤ 1001
  is : x ≡ eta_of z
  inv_units : Diff z N 1074
  eta_units : Diff (neg_ℤ z) M 1074
  both : M + N ≡ 2148

power : (x : Scaling) (z : ℤ) → mag z ≤ 1000 → x ≡ eta_of z → Power x
power x (pos zero) h e = record { z = pos 0; N = 1074; M = 1074; small = h; small_neg = omega arith; is = e; inv_units = refl; eta_units = refl; both = refl }
power x (pos (suc k)) h e = record { z = pos (suc k); N = suc k + 1074; M = 1073 - k; small = h; small_neg = omega arith; is = e; inv_units = refl; eta_units = omega arith; both = omega arith }
power x (negsuc k) h e = record { z = negsuc k; N = 1073 - k; M = suc k + 1074; small = h; small_neg = omega arith; is = e; inv_units = omega arith; eta_units = refl; both = omega arith }

one_is : ◌≡◌ {A = Scaling} (record { eta = 1f; inv = 1f }) (eta_of (pos 0))
unfolding of_bits
one_is = refl

scaling_power : (m : Float) → Power (eta_scaling m)
unfolding eta_scaling
scaling_power m = go (+0 ⋖ m && is_finite m)
  where
    go : (b : Bool) → Power (if b then eta_of (clamp (ceil_log2 m) (negsuc 999) (pos 1000)) else record { eta = 1f; inv = 1f })
    go true = power _ (clamp (ceil_log2 m) (negsuc 999) (pos 1000)) (clamp_mag 999 (ceil_log2 m)) refl
    go false = power _ (pos 0) (omega arith) one_is

-- ---- two scalings: 1 / eta of the second is that of the first times 2 ^ s / 2 ^ t, and eta the other way round
pub record Scalings (x x' : Scaling) : Type 0 where
  pub s : ℕ
  pub t : ℕ
  pub eta : Scaled t s x.eta x'.eta
  pub inv : Scaled s t x.inv x'.inv

pub scalings : (m m' : Float) → Scalings (eta_scaling m) (eta_scaling m')
scalings m m' =
    let P = scaling_power m in
    let Q = scaling_power m' in
    let p = P.both in
    let q = Q.both in
    let a = P.small in
    let b = Q.small in
    let c = P.small_neg in
    let d = Q.small_neg in
    rw (P.is, Q.is)
    (record {
      s = Q.N;
      t = P.N;
      eta = powers_scaled P.N Q.N (neg_ℤ P.z) (neg_ℤ Q.z) P.M Q.M (omega arith) (omega arith) P.eta_units Q.eta_units (omega arith);
      inv = powers_scaled Q.N P.N P.z Q.z P.N Q.N (omega arith) (omega arith) P.inv_units Q.inv_units (omega arith);
    })
