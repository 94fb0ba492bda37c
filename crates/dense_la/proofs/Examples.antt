-- The definition computed; the right sides are what the Rust gives. Assumes nothing.
use mathlib.Core.Path.{◌≡◌, refl}
use mathlib.Core.Bool.{true}
use lib.Ieee.{nan, inf}
use Rattle.doubles.specs.F64.{bits, +0, 1f, 1/2f}
use Rattle.dense_la.specs.DenseExp.{dense_exp, open_dense_exp}

zero : dense_exp +0 ≡ 1f
unfolding open_dense_exp
zero = refl

-- at 1/2 nothing is halved
half : dense_exp 1/2f ≡ bits 0x3ffa_6129_8e1e_069a
unfolding open_dense_exp
half = refl

minus_one : dense_exp (bits 0xbff0_0000_0000_0000) ≡ bits 0x3fd7_8b56_362c_ef35
unfolding open_dense_exp
minus_one = refl

one_and_a_half : dense_exp (bits 0x3ff8_0000_0000_0000) ≡ bits 0x4011_ed3f_e64f_c544
unfolding open_dense_exp
one_and_a_half = refl

-- 11 squarings
minus_800 : dense_exp (bits 0xc089_0000_0000_0000) ≡ +0
unfolding open_dense_exp
minus_800 = refl

not_a_number : dense_exp nan ≡ nan
unfolding open_dense_exp
not_a_number = refl

-- the scale falls to +0 in 1075 halvings
minus_infinity : dense_exp (inf true) ≡ nan
unfolding open_dense_exp
minus_infinity = refl
