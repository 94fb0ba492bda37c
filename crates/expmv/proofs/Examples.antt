-- The definition computed; the right sides are what the Rust gives. Assumes nothing.
use mathlib.Core.Path.{◌≡◌, refl}
use mathlib.Core.Bool.{false}
use lib.Ieee.{nan, inf}
use Rattle.doubles.specs.F64.{bits, nat, +0}
use Rattle.std.specs.Prelude.{Some, None}
use Rattle.expmv.specs.Select.{M_MAX, row, select_s_m, open_select}

ten : select_s_m M_MAX (bits 0x4024_0000_0000_0000) ≡ Some (row 3 30)
unfolding open_select
ten = refl

eight : select_s_m M_MAX (bits 0x4020_0000_0000_0000) ≡ Some (row 3 30)
unfolding open_select
eight = refl

zero : select_s_m M_MAX +0 ≡ Some (row 1 1)
unfolding open_select
zero = refl

-- -0 is not negative
minus_zero : select_s_m M_MAX (bits 0x8000_0000_0000_0000) ≡ Some (row 1 1)
unfolding open_select
minus_zero = refl

not_a_number : select_s_m M_MAX nan ≡ None
unfolding open_select
not_a_number = refl

infinity : select_s_m M_MAX (inf false) ≡ None
unfolding open_select
infinity = refl

minus_one : select_s_m M_MAX (bits 0xbff0_0000_0000_0000) ≡ None
unfolding open_select
minus_one = refl

-- 1e300: no row has its s in 32 bits
huge : select_s_m M_MAX (bits 0x7e37_e43c_8800_759c) ≡ None
unfolding open_select
huge = refl

-- 1.5e10: only the last row is admissible
last_row : select_s_m M_MAX (bits 0x420b_f08e_b000_0000) ≡ Some (row 4237288136 30)
unfolding open_select
last_row = refl

-- the largest argument that has a row, and the next double
largest : select_s_m M_MAX (bits 0x420c_51eb_8502_6666) ≡ Some (row 4294967295 30)
unfolding open_select
largest = refl

too_large : select_s_m M_MAX (bits 0x420c_51eb_8502_6667) ≡ None
unfolding open_select
too_large = refl

-- 14.25: 6 * 25 and 5 * 30 cost the same
equal_costs : select_s_m M_MAX (bits 0x402c_8000_0000_0000) ≡ Some (row 6 25)
unfolding open_select
equal_costs = refl

-- 74.34: the quotient by 3.54 rounds to 21, though 21 * 3.54 is below it as the doubles are
rounded_quotient : select_s_m M_MAX (bits 0x4052_95c2_8f5c_28f6) ≡ Some (row 21 30)
unfolding open_select
rounded_quotient = refl

-- 10 with degrees up to 18
lower_degree : select_s_m 18 (bits 0x4024_0000_0000_0000) ≡ Some (row 10 18)
unfolding open_select
lower_degree = refl

-- up to degree 2: the second row
up_to_2 : select_s_m 2 (nat 4) ≡ Some (row 154978691 2)
unfolding open_select
up_to_2 = refl

-- up to degree 1 no row
up_to_1 : select_s_m 1 (nat 4) ≡ None
unfolding open_select
up_to_1 = refl
