-- Powers of two that scale exactly: `ceil_log2`, `exact_pow2` and `eta_scaling` of phi_action_helpers.rs, and pow2.rs. Definitions only.
use Rattle.std.specs.Prelude.{Bool, false, ◌&&◌, List, ℕ, ◌/◌, ◌%◌, ◌^◌, ℤ, pos, negsuc, neg_ℤ, ◌+ℤ◌, ◌-ℤ◌, eqb, length, if◌then◌else◌, Option, Some, None}
use Rattle.std.specs.Int.Signed.{lt_z}
use lib.Ieee.{Float, fin, binary64, up, down, round, size, eq, ne, to_bits}
use Rattle.lists.specs.Loop.{iter}
use Rattle.doubles.specs.F64.{◌⋖◌, +0, 1f, at, abs, is_finite, max_num}
use Rattle.doubles.specs.Value.{val}
use Rattle.pow2.specs.declared.Scaling.{Scaling}
use Rattle.pow2.specs.declared.Scale.{Scale}

-- Rust's `i32::clamp`
unfoldable pub clamp : ℤ → ℤ → ℤ → ℤ
clamp e lo hi = if lt_z e lo then lo else (if lt_z hi e then hi else e)

-- the exponent's field of a bit pattern: `(bits >> 52) & 0x7ff`
abbrev pub field : ℕ → ℕ
field b = b / 2 ^ 52 % 2048

-- `ceil_log2`: for a normal x above 0 the least e with x ≤ 2 ^ e; -1000 for zero and subnormals; the sign is not looked at; 1024 of an infinity, 1025 of NaN
unfoldable pub ceil_log2 : Float → ℤ
ceil_log2 x =
    let b = to_bits binary64 x in
    let exp = pos (field b) -ℤ pos 1023 in
    if eqb (field b) 0 then negsuc 999 else (if eqb (b % 2 ^ 52) 0 then exp else (exp +ℤ pos 1))

-- `exact_pow2`: 2 ^ e
abbrev pub exact_pow2 : ℤ → Float
exact_pow2 e = fin false 1 e

-- 2 ^ -e and 2 ^ e
abbrev pub eta_of : ℤ → Scaling
eta_of e = record { eta = exact_pow2 (neg_ℤ e); inv = exact_pow2 e }

-- `eta_scaling`: eta = 2 ^ -e and 1 / eta, with e = `ceil_log2` clamped to -1000 .. 1000; 1 and 1 where the magnitude is 0, negative or not finite
unfoldable pub eta_scaling : Float → Scaling
eta_scaling x = if +0 ⋖ x && is_finite x then eta_of (clamp (ceil_log2 x) (negsuc 999) (pos 1000)) else record { eta = 1f; inv = 1f }

-- the sup-norm: Rust's fold of `f64::max` over the absolute values from +0; a NaN is dropped
unfoldable pub sup : List Float → Float
sup x = iter (λ i m. max_num m (abs (at x i))) (length x) +0

-- `pow2_f64`: 2 ^ k, rounded: +infinity from 2 ^ 1024 on, and 0 below 2 ^ -1074
unfoldable pub pow2_f64 : ℤ → Float
pow2_f64 k = round binary64 false (up k) (down k)

-- finite and not 0
unfoldable pub usable : Float → Bool
usable x = is_finite x && ne x +0

-- `factors`: 2 ^ -e and 2 ^ e, where both are finite and not 0
unfoldable pub factors : ℤ → Option Scale
factors e =
    if usable (pow2_f64 (neg_ℤ e)) && usable (pow2_f64 e) then Some (record { down = pow2_f64 (neg_ℤ e); up = pow2_f64 e }) else None

-- ⌊log₂ x⌋ of an x above 0, 1024 of an infinity: x is `val` units of 2 ^ -1074, and a number of k binary digits is 2 ^ (k - 1) or more
unfoldable pub exponent : Float → ℤ
exponent x = pos (size (val (to_bits binary64 x))) -ℤ pos 1075

-- 2 ^ -e and 2 ^ e
abbrev pub scale_of : ℤ → Scale
scale_of e = record { down = exact_pow2 (neg_ℤ e); up = exact_pow2 e }

-- `pow2_scale`: 2 ^ -e and 2 ^ e, e the exponent of the largest magnitude, moved toward 0 to where both are finite and not 0; none for an all-zero slice
unfoldable pub pow2_scale : List Float → Option Scale
pow2_scale rhs = if eq (sup rhs) +0 then None else Some (scale_of (clamp (exponent (sup rhs)) (negsuc 1022) (pos 1023)))

-- to compute: a line `unfolding open_pow2` opens every definition of this file and of those below it
unfoldable pub open_pow2 : Unit {0}
unfolding lib.Ieee.ne clamp ceil_log2 eta_scaling sup pow2_f64 usable factors exponent pow2_scale Rattle.doubles.specs.F64.open_f64 Rattle.lists.specs.Loop.open_loop
open_pow2 = tt
