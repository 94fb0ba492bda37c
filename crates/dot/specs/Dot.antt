-- The inner product of two vectors of doubles (phi_krylov.rs, `dot`). Definitions only.
use Rattle.std.specs.Prelude.{List, ℕ, ◌+◌, ◌*◌, ◌/◌, ◌%◌, length, Float}
use Rattle.doubles.specs.F64.{◌⊕◌, ◌⊗◌, at}
use Rattle.doubles.specs.Sum.{sum, open_sum}
use Rattle.dot.specs.declared.Lanes.{Lanes}

-- m products, every fourth from index l: the Rust's acc[l]
unfoldable pub lane : ℕ → List Float → List Float → ℕ → Float
lane l x y m = sum m (λ j. at x (4 * j + l) ⊗ at y (4 * j + l))

-- the four of them
unfoldable pub lanes : List Float → List Float → ℕ → Lanes
lanes x y m = record { acc0 = lane 0 x y m; acc1 = lane 1 x y m; acc2 = lane 2 x y m; acc3 = lane 3 x y m }

-- n products from index b, from +0: the Rust's tail (document 01: a sum starts at +0)
unfoldable pub tail : ℕ → List Float → List Float → ℕ → Float
tail b x y n = sum n (λ j. at x (b + j) ⊗ at y (b + j))

-- the inner product: four interleaved partial sums over the whole blocks of four, joined in pairs, then what is left over
unfoldable pub dot : List Float → List Float → Float
dot x y =
    let m = length x / 4 in
    let acc = lanes x y m in
    acc.acc0 ⊕ acc.acc1 ⊕ (acc.acc2 ⊕ acc.acc3) ⊕ tail (4 * m) x y (length x % 4)

-- to compute: a line `unfolding open_dot` opens every definition of this file and of those below it
unfoldable pub open_dot : Unit {0}
unfolding lane lanes tail dot open_sum
open_dot = tt
