-- Doubles in units of 2 ^ -1074, and operations next to where a digit is lost, by computation. Assumes nothing.
use mathlib.Core.Bool.{false}
use mathlib.Core.Logic.{inr}
use mathlib.Core.Path.{◌≡◌, refl}
use Prim.Native.Nat.{◌-◌, ◌*◌, ◌^◌}
use lib.Dec.{lit<, lit≤}
use lib.IntN.{pos, neg_ℤ, negsuc, ◌*ℤ◌}
use lib.Ieee.{fin, inf, down, up}
use Rattle.doubles.specs.F64.{◌⊕◌, ◌⊗◌, bits, +0, 1f, 1/2f}
use Rattle.doubles.specs.Units.{units, open_units}
use Rattle.doubles.specs.Clean.{Clean⊗, CleanTimes}
use Rattle.doubles.proofs.Units.{tiny_between}

one : units 1f ≡ pos (2 ^ 1074)
unfolding open_units
one = refl

half : units 1/2f ≡ pos (2 ^ 1073)
unfolding open_units
half = refl

-- 2 ^ -1074 and its negation, the smallest doubles; 2 ^ -1022, the smallest normal one
smallest : units (bits 1) ≡ pos 1
unfolding open_units
smallest = refl

smallest_negative : units (bits 0x8000_0000_0000_0001) ≡ negsuc 0
unfolding open_units
smallest_negative = refl

smallest_normal : units (bits 0x0010_0000_0000_0000) ≡ pos (2 ^ 52)
unfolding open_units
smallest_normal = refl

-- -(2 - 2 ^ -52) * 2 ^ 1023
largest_negative : units (bits 0xffef_ffff_ffff_ffff) ≡ neg_ℤ (pos ((2 ^ 53 - 1) * 2 ^ 2045))
unfolding open_units
largest_negative = refl

-- both zeros are 0 units, so that what is said of a zero's sign is said of the double
plus_zero : units +0 ≡ pos 0
unfolding open_units
plus_zero = refl

minus_zero : units (bits 0x8000_0000_0000_0000) ≡ pos 0
unfolding open_units
minus_zero = refl

-- ---- products next to 2 ^ -1022 (document 02, N9)
-- 2 ^ -511 * 2 ^ -511 is 2 ^ -1022: clean
least_product : Clean⊗ (bits 0x2000_0000_0000_0000) (bits 0x2000_0000_0000_0000)
unfolding open_units
least_product = record { finite = refl; not_tiny = inr (lit≤ tt) }

-- (2 ^ -22 - 2 ^ -75) * 2 ^ -1000 is 2 ^ -1022 - 2 ^ -1075 and rounds to 2 ^ -1022; of twice the second factor the product is exact, and not twice that
just_below : bits 0x3e8f_ffff_ffff_ffff ⊗ bits 0x0170_0000_0000_0000 ≡ bits 0x0010_0000_0000_0000
unfolding open_units
just_below = refl

twice_just_below : bits 0x3e8f_ffff_ffff_ffff ⊗ bits 0x0180_0000_0000_0000 ≡ bits 0x001f_ffff_ffff_ffff
unfolding open_units
twice_just_below = refl

just_below_not_clean : Clean⊗ (bits 0x3e8f_ffff_ffff_ffff) (bits 0x0170_0000_0000_0000) → ⊥
unfolding open_units
just_below_not_clean c = tiny_between (2 ^ 1126) (units (bits 0x3e8f_ffff_ffff_ffff) *ℤ units (bits 0x0170_0000_0000_0000)) (lit< tt) (lit< tt) c.not_tiny

-- (1 + 2 ^ -52) * 2 ^ -1023, half as large as is asked, loses its last digit, and of twice the second factor it does not
lost_digit : bits 0x3ff0_0000_0000_0001 ⊗ bits 0x0008_0000_0000_0000 ≡ bits 0x0008_0000_0000_0000
unfolding open_units
lost_digit = refl

kept_digit : bits 0x3ff0_0000_0000_0001 ⊗ bits 0x0010_0000_0000_0000 ≡ bits 0x0010_0000_0000_0001
unfolding open_units
kept_digit = refl

-- ---- 2 ^ 1023 + 2 ^ 1023 is infinite, and of half the terms the sum is 2 ^ 1023; twice 2 ^ 1023, and half of it
too_large : bits 0x7fe0_0000_0000_0000 ⊕ bits 0x7fe0_0000_0000_0000 ≡ inf false
unfolding open_units
too_large = refl

half_as_large : bits 0x7fd0_0000_0000_0000 ⊕ bits 0x7fd0_0000_0000_0000 ≡ bits 0x7fe0_0000_0000_0000
unfolding open_units
half_as_large = refl

twice_too_large : bits 0x7fe0_0000_0000_0000 ⊗ bits 0x4000_0000_0000_0000 ≡ inf false
unfolding open_units
twice_too_large = refl

-- ---- x times 2 ^ j: 2 ^ -1022 is clean, (1 + 2 ^ -52) * 2 ^ -1023 is not and loses its last digit; 2 ^ -1074 times 2 ^ 2000, which is no double, is 2 ^ 926
least_multiple : CleanTimes (negsuc 1021) 1f
unfolding open_units
least_multiple = record { finite = refl; not_tiny = inr (lit≤ tt) }

tiny_multiple : bits 0x3ff0_0000_0000_0001 ⊗ fin false 1 (negsuc 1022) ≡ bits 0x0008_0000_0000_0000
unfolding open_units
tiny_multiple = refl

tiny_multiple_not_clean : CleanTimes (negsuc 1022) (bits 0x3ff0_0000_0000_0001) → ⊥
unfolding open_units
tiny_multiple_not_clean c = tiny_between (2 ^ 52 * down (negsuc 1022)) (units (bits 0x3ff0_0000_0000_0001) *ℤ pos (up (negsuc 1022))) (lit< tt) (lit< tt) c.not_tiny

far_multiple : CleanTimes (pos 2000) (bits 1)
unfolding open_units
far_multiple = record { finite = refl; not_tiny = inr (lit≤ tt) }

far_multiple_is : bits 1 ⊗ fin false 1 (pos 2000) ≡ bits 0x79d0_0000_0000_0000
unfolding open_units
far_multiple_is = refl
