-- A finite double as a whole number of units of 2 ^ -1074 (document 02, N13: 'over whole numbers, as multiples of one small power of two'). Definitions only.
use Rattle.std.specs.Prelude.{Bool, true, false, List, ◌⊎◌, ◌≡◌, ℕ, ◌*◌, ◌/◌, ◌^◌, ◌≤◌, ℤ, pos, neg_ℤ, nat_abs, T, Float}
use Rattle.std.specs.Float.{nan, inf, fin, binary64}
use Rattle.std.specs.Float.Ieee.{up, down, fits}
use Rattle.doubles.specs.F64.{at}

-- a with the sign s: -a where s is set
abbrev pub signed : Bool → ℕ → ℤ
signed false a = pos a
signed true a = neg_ℤ (pos a)

-- a finite double times 2 ^ 1074, which is a whole number. A NaN or an infinity has none; 0 stands for it
unfoldable pub units : Float → ℤ
units nan = pos 0
units (inf s) = pos 0
units (fin s m e) = signed s (m * up e * 2 ^ 1074 / down e)

-- every element is a double: what is known of each slice of f64
abbrev pub Doubles : List Float → Type 0
Doubles x = (k : ℕ) → T (fits binary64 (at x k))

-- an exact result z is 0 or at least 2 ^ -1022 in size, where 2 ^ -1022 is k of the units that z counts
abbrev pub NotTiny : ℕ → ℤ → Type 0
NotTiny k z = (nat_abs z ≡ 0) ⊎ (k ≤ nat_abs z)

-- to compute: a line `unfolding open_units` opens every definition of this file and of those below it
unfoldable pub open_units : Unit {0}
unfolding units Rattle.doubles.specs.F64.open_f64
open_units = tt
