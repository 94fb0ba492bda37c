-- The square root of a double: the nearest double to the exact root, ties to even. Definitions only.
use Rattle.std.specs.Prelude.{ℕ, zero, suc, ◌+◌, ◌*◌, ◌/◌, ◌^◌, true, false, cond, leb, eqb, Float}
use Rattle.std.specs.Float.{nan, inf, fin, binary64}
use Rattle.std.specs.Float.Ieee.{up, down, size, round}
use Rattle.lists.specs.Greatest.{greatest}

-- the greatest s with s * s ≤ n
unfoldable pub isqrt : ℕ → ℕ
isqrt n = greatest (λ (s : ℕ). leb (s * s) n) (size n) 0

-- The double nearest to √n / 2 ^ 1074. The exact root is s or lies between s and s + 1, and no double and no point half way between
-- two doubles lies strictly between those, for an n from 2 ^ 108 on: so s, or s and a half, rounds as the root does.
unfoldable pub nearest_root : ℕ → Float
nearest_root n = let s = isqrt n in round binary64 false (2 * s + cond (eqb (s * s) n) 0 1) (2 ^ 1075)

-- x is n / 2 ^ 1074, so its root is √(n * 2 ^ 1074) / 2 ^ 1074
unfoldable pub sqrt : Float → Float
sqrt nan = nan
sqrt (inf true) = nan
sqrt (inf false) = inf false
sqrt (fin s zero e) = fin s zero e
sqrt (fin true (suc m) e) = nan
sqrt (fin false (suc m) e) = nearest_root (suc m * up e * 2 ^ 1074 / down e * 2 ^ 1074)

-- to compute: a line `unfolding open_sqrt` opens every definition of this file and of those below it
unfoldable pub open_sqrt : Unit {0}
unfolding isqrt nearest_root sqrt Rattle.lists.specs.Greatest.greatest Rattle.doubles.specs.F64.open_f64
open_sqrt = tt
