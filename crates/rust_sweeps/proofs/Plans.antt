-- The row of a plan at an argument just above a multiple of theta. Assumes nothing.
use Rattle.std.specs.Prelude.{Some}
use mathlib.Core.Path.{◌≡◌, refl}
use Rattle.doubles.specs.F64.{bits}
use Rattle.expmv.specs.Select.{M_MAX, row, select_s_m, open_select}

-- the double above 9 x 3.54: the quotient rounds to 9, though 9 x 3.54 is below it as the doubles are (docs/CLAIMS.md, 'Slips of the soak': s in exact arithmetic)
rounded_down : select_s_m M_MAX (bits 0x403f_dc28_f5c2_8f5d) ≡ Some (row 9 30)
unfolding open_select
rounded_down = refl
