-- Closed examples, computed. Assumes nothing.
use mathlib.Core.Path.{◌≡◌, refl}
use lib.Ieee.{binary64, of_bits}
use Rattle.sqrt.specs.Sqrt.{sqrt, open_sqrt}

four : sqrt (of_bits binary64 0x4010_0000_0000_0000) ≡ of_bits binary64 0x4000_0000_0000_0000
unfolding open_sqrt
four = refl

two : sqrt (of_bits binary64 0x4000_0000_0000_0000) ≡ of_bits binary64 0x3ff6_a09e_667f_3bcd
unfolding open_sqrt
two = refl

least : sqrt (of_bits binary64 1) ≡ of_bits binary64 0x1e60_0000_0000_0000
unfolding open_sqrt
least = refl

most : sqrt (of_bits binary64 0x7fef_ffff_ffff_ffff) ≡ of_bits binary64 0x5fef_ffff_ffff_ffff
unfolding open_sqrt
most = refl
