-- The library's methods of doubles are the functions of specs/F64 and specs/Whole. Assumes nothing.
use Rattle.std.proofs.Common.{◌≡◌, ℕ, ◌+◌, ◌-◌, ◌/◌, ◌<◌, true, false, refl, ap, arith}
use Rattle.std.specs.Float.{float_with_sign, float_is_finite, round_with, ratio_ceil}
use Rattle.std.specs.Float as library
use lib.Ieee.{Float, nan, inf, fin, binary64, round}
use lib.Ieee.Fits.{down_pos}
use Rattle.doubles.specs.F64.{abs, is_finite}
use Rattle.doubles.specs.Whole.{whole_above, ceil, floor}

pub abs_is : (x : Float) → float_with_sign false x ≡ abs x
unfolding float_with_sign
abs_is nan = refl
abs_is (inf s) = refl
abs_is (fin s m e) = refl

pub is_finite_is : (x : Float) → float_is_finite x ≡ is_finite x
unfolding float_is_finite
is_finite_is nan = refl
is_finite_is (inf s) = refl
is_finite_is (fin s m e) = refl

above_is : (n d : ℕ) → 0 < d → ratio_ceil n d ≡ whole_above n d
above_is n d h = ap (λ (z : ℕ). z / d) (swap n d h)
  where
    swap : (n d : ℕ) → 0 < d → n + d - 1 ≡ n + (d - 1)
    swap n d h = omega arith

pub ceil_is : (x : Float) → library.ceil binary64 x ≡ ceil x
unfolding round_with ceil
ceil_is nan = refl
ceil_is (inf s) = refl
ceil_is (fin false m e) = ap (λ (z : ℕ). round binary64 false z 1) (above_is _ _ (down_pos e))
ceil_is (fin true m e) = refl

pub floor_is : (x : Float) → library.floor binary64 x ≡ floor x
unfolding round_with floor
floor_is nan = refl
floor_is (inf s) = refl
floor_is (fin false m e) = refl
floor_is (fin true m e) = ap (λ (z : ℕ). round binary64 true z 1) (above_is _ _ (down_pos e))
