-- A loop that sums, turn by turn. Assumes nothing.
use mathlib.Core.Path.{◌≡◌, refl, sym, ◌∙◌}
use Prim.Native.Nat.{ℕ, zero, suc, ◌+◌, ◌-◌, ◌≤◌, ◌<◌}
use native.Mathlib.Omega.{arith}
use mathlib.Core.List.{List}
use lib.Ieee.{Float, nan}
use lib.ListN.{length}
use Rattle.std.specs.List.{fold, slice_range}
use Rattle.lists.specs.Loop.{iter}
use Rattle.lists.proofs.Loop.{iter_none, iter_next}
use Rattle.lists.proofs.Positions.{fold_range}
use Rattle.doubles.specs.F64.{◌⊕◌, +0, at}
use Rattle.doubles.specs.Sum.{sum}

pub sum_none : (f : ℕ → Float) → sum 0 f ≡ +0
unfolding sum
sum_none f = iter_none (λ k s. s ⊕ f k) +0

pub sum_next : (n : ℕ) (f : ℕ → Float) → sum (n + 1) f ≡ sum n f ⊕ f n
unfolding sum
sum_next n f = iter_next (λ k s. s ⊕ f k) n +0

-- a turn of a loop that sums
pub sum_turn : (n : ℕ) (f : ℕ → Float) (s v : Float) → s ≡ sum n f → v ≡ f n → s ⊕ v ≡ sum (n + 1) f
sum_turn n f s v e d = (λ i. e i ⊕ d i) ∙ sym (sum_next n f)

-- sums of equal terms
pub sum_ext : (n : ℕ) (f g : ℕ → Float) → ((k : ℕ) → k < n → f k ≡ g k) → sum n f ≡ sum n g
unfolding sum iter
sum_ext zero f g h = refl
sum_ext (suc n) f g h = λ i. sum_ext n f g (λ k l. h k (omega arith)) i ⊕ h n (omega arith) i

-- a fold over `xs[from..to]`
pub sum_range : (g : Float → Float) (xs : List Float) (from to : ℕ) → from ≤ to → to ≤ length xs → fold (λ s x. s ⊕ g x) +0 (slice_range xs from to) ≡ sum (to - from) (λ k. g (at xs (from + k)))
unfolding sum
sum_range g xs from to h l = fold_range (λ (s x : Float). s ⊕ g x) +0 xs from to nan h l
