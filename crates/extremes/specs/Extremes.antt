-- The largest and the smallest among the last W numbers (document 02, N12). Definitions only.
use Rattle.std.specs.Prelude.{List, ℕ, ◌+◌, ◌-◌, Float, if◌then◌else◌}
use Rattle.std.specs.Float.Ieee.{eq}
use Rattle.lists.specs.Loop.{iter, open_loop}
use Rattle.doubles.specs.F64.{+0, at, max_num, min_num, open_f64}

-- an extreme of 0 is given as +0
unfoldable pub unsigned_zero : Float → Float
unsigned_zero x = if eq x +0 then +0 else x

-- the place at which the window that ends with place i begins: W places, fewer at the start
unfoldable pub window_start : ℕ → ℕ → ℕ
window_start W i = i + 1 - W

-- what op keeps of the numbers from there up to and with place i, one by one
unfoldable pub extreme : (Float → Float → Float) → ℕ → List Float → ℕ → Float
extreme op W x i =
    let from = window_start W i in
    unsigned_zero (iter (λ k m. op m (at x (from + (k + 1)))) (i - from) (at x from))

unfoldable pub largest : ℕ → List Float → ℕ → Float
largest W x i = extreme max_num W x i

unfoldable pub smallest : ℕ → List Float → ℕ → Float
smallest W x i = extreme min_num W x i

-- to compute
unfoldable pub open_extremes : Unit {0}
unfolding unsigned_zero window_start extreme largest smallest open_loop open_f64
open_extremes = tt
