-- A double's power with a whole exponent, and its root of a whole order. Definitions only.
use Rattle.std.specs.Prelude.{ℕ, zero, suc, ◌-◌, Bool, true, false, ◌&&◌, nat_lt, Float}
use Rattle.std.specs.Float.{nan, inf, fin}
use Rattle.lists.specs.Greatest.{greatest}
use Rattle.doubles.specs.F64.{INF_BITS, ◌⊗◌, ◌⩽◌, bits, +0}

-- y and k more factors y, multiplied left to right with rounding
unfoldable pub times : Float → ℕ → Float
times y zero = y
times y (suc k) = times y k ⊗ y

-- document 01, power with exponent q: q factors y
abbrev pub power : Float → ℕ → Float
power y q = times y (q - 1)

-- b is the pattern of a finite double that is not negative, and q factors of it give at most t
abbrev pub within : Float → ℕ → ℕ → Bool
within t q b = nat_lt b INF_BITS && power (bits b) q ⩽ t

-- Document 01, the root of order q: of a finite t above 0 the greatest finite double whose q factors give at most t, found among the
-- patterns, whose order is that of the doubles from +0 up. Of a zero of either sign it is +0, of +infinity that, else NaN.
unfoldable pub root : Float → ℕ → Float
root nan q = nan
root (inf true) q = nan
root (inf false) q = inf false
root (fin s zero e) q = +0
root (fin true (suc m) e) q = nan
root (fin false (suc m) e) q = bits (greatest (within (fin false (suc m) e) q) 63 0)

-- to compute: a line `unfolding open_power` opens every definition of this file and of those below it
unfoldable pub open_power : Unit {0}
unfolding times root Rattle.lists.specs.Greatest.greatest Rattle.doubles.specs.F64.open_f64
open_power = tt
