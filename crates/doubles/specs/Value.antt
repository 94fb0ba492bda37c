-- The number that a double's bit pattern stands for, in units of 2 ^ -1074: every finite double is a whole number of them. Definitions only.
use Rattle.std.specs.Prelude.{ℕ, zero, suc, ◌+◌, ◌*◌, ◌/◌, ◌%◌, ◌^◌}

-- Of an exponent's field and digits (IEEE 754, 3.4). A field of 0 has no leading digit; 4503599627370496 is 2 ^ 52.
abbrev pub field_units : ℕ → ℕ → ℕ
field_units zero t = t
field_units (suc x) t = (4503599627370496 + t) * 2 ^ x

-- Of a finite pattern with the sign clear
abbrev pub val : ℕ → ℕ
val b = field_units (b / 4503599627370496) (b % 4503599627370496)
