-- The Rust's `dense_exp` (dense_la.rs) with k = 1 and h = 1: scaling, 18 terms of the series, squarings. Definitions only.
use Rattle.std.specs.Prelude.{Bool, true, false, ℕ, zero, suc, ◌+◌, Float, if◌then◌else◌}
use Rattle.lists.specs.Loop.{iter}
use Rattle.doubles.specs.F64.{◌⊕◌, ◌⊗◌, ◌⊘◌, ◌⋖◌, nat, +0, 1f, 1/2f, abs}

-- `matmul` of 1 × 1 matrices: the product is added to an entry that starts at +0
abbrev pub matmul : Float → Float → Float
matmul a b = +0 ⊕ a ⊗ b

-- `norm`: the one column's sum of |c h|, from +0; then the larger of +0 and that sum (+0 where the sum is NaN)
unfoldable pub norm : Float → Float
norm c = let sum = +0 ⊕ abs (c ⊗ 1f) in if +0 ⋖ sum then sum else +0

-- the first test of the `while`: norm * scale > 0.5
abbrev pub above : Float → Float → Bool
above norm scale = 1/2f ⋖ norm ⊗ scale

-- the turns of the `while` from `scale` on, at most k; the Bool is the first test
unfoldable pub halvings : ℕ → Bool → Float → Float → ℕ
halvings zero b norm scale = 0
halvings (suc k) false norm scale = 0
halvings (suc k) true norm scale = suc (halvings k (above norm (scale ⊗ 1/2f)) norm (scale ⊗ 1/2f))

-- `squarings` after the `while`
unfoldable pub squarings : Float → ℕ
squarings norm = halvings 1100 (above norm 1f) norm 1f

-- `scale` after k turns of the `while`
unfoldable pub scale : ℕ → Float
scale k = iter (λ _ s. s ⊗ 1/2f) k 1f

-- `term` and `result` in the loop over d
pub record Series : Type 0 where
  pub term : Float
  pub result : Float

-- the turn of `for d in 1..=18` with d = k + 1
unfoldable pub series_step : Float → ℕ → Series → Series
series_step a k s =
    let t = matmul s.term a ⊗ (1f ⊘ nat (k + 1)) in
    record { term = t; result = s.result ⊕ t }

-- `term` and `result` after n turns of it, from the identity
unfoldable pub series : Float → ℕ → Series
series a n = iter (series_step a) n (record { term = 1f; result = 1f })

-- `result` after n turns of `for _ in 0..squarings`
unfoldable pub squared : ℕ → Float → Float
squared n result = iter (λ _ y. matmul y y) n result

-- `dense_exp` of a 1 × 1 matrix with h = 1: e ^ c
unfoldable pub dense_exp : Float → Float
dense_exp c =
    let n = squarings (norm c) in
    squared n (series (c ⊗ 1f ⊗ scale n) 18).result

-- to compute: a line `unfolding open_dense_exp` opens every definition of this file and of those below it
unfoldable pub open_dense_exp : Unit {0}
unfolding norm halvings squarings scale series_step series squared dense_exp Rattle.doubles.specs.F64.open_f64 Rattle.lists.specs.Loop.open_loop
open_dense_exp = tt
