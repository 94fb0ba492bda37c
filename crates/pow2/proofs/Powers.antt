-- Powers of two as doubles: their bit patterns, and that they fit. 4503599627370496 is 2 ^ 52. Assumes nothing.
use mathlib.Core.Path.{◌≡◌, ap, ◌∙◌}
use mathlib.Core.Bool.{Bool, false, not}
use Prim.Native.Nat.{ℕ, suc, ◌+◌, ◌-◌, ◌*◌, ◌/◌, ◌%◌, ◌<◌}
use native.Mathlib.Omega.{arith}
use lib.Dec.{T}
use lib.IntN.{ℤ, pos, negsuc, nat_abs, ◌+ℤ◌}
use lib.Signed.{mag}
use lib.Ieee.{fin, binary64, minus, odd, of_fields, of_bits, nan_bits, is_nan}
use lib.Ieee.Bits.{nan_bits_is}
use borrow.Author.Tests.{ne_eqb, le-ltb, le-leb, lt-leb}
use mir.Syntax.{w32}
use mir.Val.{to_z, of_z}
use Rattle.doubles.proofs.Patterns.{positive_fields}
use Rattle.pow2.proofs.Integers.{held, mag_sum}

-- ---- a pattern with no digits is a power of two
fields_power : (x : ℕ) → x < 2046 → of_fields binary64 false (suc x) 0 ≡ fin false 1 (minus (x + 52) 1074)
unfolding of_fields odd
fields_power x h = rw (ne_eqb (suc x) 2047 (λ (e : suc x ≡ 2047). omega arith))

pub power_bits : (x : ℕ) → x < 2046 → of_bits binary64 (suc x * 4503599627370496) ≡ fin false 1 (minus (x + 52) 1074)
power_bits x h =
    let f : suc x * 4503599627370496 / 4503599627370496 ≡ suc x = omega arith in
    let d : suc x * 4503599627370496 % 4503599627370496 ≡ 0 = omega arith in
    positive_fields (suc x * 4503599627370496) (omega arith) ∙ rw (f, d) (fields_power x h)

-- ---- the exponent's field of 2 ^ e
pub record Biased (e : ℤ) : Type 0 where
  pub x : ℕ
  pub is : pos 1023 +ℤ e ≡ pos (suc x)
  pub under : x < 2046
  pub back : minus (x + 52) 1074 ≡ e

pub biased : (e : ℤ) → mag e < 1022 → Biased e
biased (pos n) h =
    record {
      x = 1022 + n;
      is = ap pos (omega arith);
      under = omega arith;
      back = rw (le-leb 1074 (1022 + n + 52) (omega arith)) (ap pos (omega arith));
    }
biased (negsuc n) h =
    record {
      x = 1021 - n;
      is = rw (le-ltb 1023 (suc n) (omega arith)) (ap pos (omega arith));
      under = omega arith;
      back = rw (lt-leb 1074 (1021 - n + 52) (omega arith)) (ap negsuc (omega arith));
    }

-- the code's `1023 + e`, and the pattern that it makes of it
pub biased_read : (e : ℤ) (h : mag e < 1022) → to_z w32 (of_z w32 (pos 1023 +ℤ to_z w32 (of_z w32 e))) ≡ pos (suc (biased e h).x)
biased_read e h =
    ap (λ (z : ℤ). to_z w32 (of_z w32 (pos 1023 +ℤ z))) (held e (omega arith))
    ∙ held (pos 1023 +ℤ e) (omega (arith, mag_sum (pos 1023) e))
    ∙ (biased e h).is

pub power_pattern : (e : ℤ) → mag e < 1022 → of_bits binary64 (nat_abs (to_z w32 (of_z w32 (pos 1023 +ℤ to_z w32 (of_z w32 e)))) * 4503599627370496 % 18446744073709551616) ≡ fin false 1 e
power_pattern e h =
    let b = biased e h in
    let s : suc b.x * 4503599627370496 % 18446744073709551616 ≡ suc b.x * 4503599627370496 = omega (arith, b.under) in
    rw (biased_read e h, s) (power_bits b.x b.under ∙ ap (fin false 1) b.back)

pub finite_pattern : (b : ℕ) {s : Bool} {m : ℕ} {e : ℤ} → of_bits binary64 b ≡ fin s m e → T (not (nan_bits binary64 b))
unfolding is_nan
finite_pattern b p = rw (nan_bits_is binary64 b, p) tt
