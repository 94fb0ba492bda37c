-- A double above zero, rounded up to two decimal digits (phi_krylov_arnoldi.rs, `round2`, as document 01 has it). Definitions only.
use Rattle.std.specs.Prelude.{ℕ, ◌-◌, Bool, ◌&&◌, ltb, Float, if◌then◌else◌}
use Rattle.std.specs.Float.{nan}
use Rattle.lists.specs.Greatest.{greatest}
use Rattle.doubles.specs.F64.{◌⊗◌, ◌⊘◌, ◌⋖◌, ◌⩽◌, +∞}
use Rattle.doubles.specs.Whole.{ceil}
use Rattle.round2.specs.Ten.{ten}

-- the table has an entry at i, and it is at most x
abbrev pub reaches : Float → ℕ → Bool
reaches x i = ltb i 632 && ten i ⩽ x

-- the place of the largest entry that is at most x
unfoldable pub decade : Float → ℕ
decade x = greatest (reaches x) 10 0

-- up to a multiple of the entry before place i
unfoldable pub up_to : Float → ℕ → Float
up_to x i = ceil (x ⊘ ten (i - 1)) ⊗ ten (i - 1)

-- x is at least the entry for -322, and no infinity: a NaN and what is not above 0 fail too
abbrev pub usable : Float → Bool
usable x = ten 1 ⩽ x && x ⋖ +∞

unfoldable pub round2 : Float → Float
round2 x = if usable x then up_to x (decade x) else nan

-- to compute: a line `unfolding open_rounded` opens every definition of the crate and of those below it
unfoldable pub open_rounded : Unit {0}
unfolding decade up_to round2 Rattle.round2.specs.Ten.ten Rattle.lists.specs.Greatest.greatest Rattle.doubles.specs.Whole.open_whole Rattle.doubles.specs.F64.open_f64
open_rounded = tt
