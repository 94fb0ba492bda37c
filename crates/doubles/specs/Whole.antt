-- Rust's `f64::ceil` and `f64::floor`, exact: they keep a zero's sign and give -0 between -1 and 0. Definitions only.
use Rattle.std.specs.Prelude.{true, false, ℕ, ◌+◌, ◌-◌, ◌*◌, ◌/◌, Float}
use Rattle.std.specs.Float.{nan, inf, fin, binary64}
use Rattle.std.specs.Float.Ieee.{up, down, round}

-- the whole numbers next to a / b
abbrev pub whole_below : ℕ → ℕ → ℕ
whole_below a b = a / b

abbrev pub whole_above : ℕ → ℕ → ℕ
whole_above a b = (a + (b - 1)) / b

-- ±m * 2 ^ e is ±(m * up e) / down e. `round` writes a whole number with its sign as a double.
unfoldable pub ceil : Float → Float
ceil nan = nan
ceil (inf s) = inf s
ceil (fin false m e) = round binary64 false (whole_above (m * up e) (down e)) 1
ceil (fin true m e) = round binary64 true (whole_below (m * up e) (down e)) 1

unfoldable pub floor : Float → Float
floor nan = nan
floor (inf s) = inf s
floor (fin false m e) = round binary64 false (whole_below (m * up e) (down e)) 1
floor (fin true m e) = round binary64 true (whole_above (m * up e) (down e)) 1

-- to compute: a line `unfolding open_whole` opens every definition of this file
unfoldable pub open_whole : Unit {0}
unfolding ceil floor
open_whole = tt
