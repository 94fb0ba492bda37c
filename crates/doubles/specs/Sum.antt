-- Sums of doubles from the left. Definitions only.
use Rattle.std.specs.Prelude.{ℕ, Float}
use Rattle.lists.specs.Loop.{iter}
use Rattle.doubles.specs.F64.{◌⊕◌, +0}

-- f 0 + f 1 + .. + f (n - 1), from +0, each sum rounded
unfoldable pub sum : ℕ → (ℕ → Float) → Float
sum n f = iter (λ k s. s ⊕ f k) n +0

-- to compute: a line `unfolding open_sum` opens every definition of this file and of those below it
unfoldable pub open_sum : Unit {0}
unfolding sum Rattle.lists.specs.Loop.open_loop Rattle.doubles.specs.F64.open_f64
open_sum = tt
