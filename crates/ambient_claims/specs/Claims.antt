-- What the slices of a soak under a changing ambient level hold (document 02, N12). Definitions only.
use Rattle.std.specs.Prelude.{◌≡◌, true, false, ◌⊎◌, List, ℕ, ◌+◌, ◌≤◌, ◌<◌, T, length, Float}
use Rattle.std.specs.Float.Ieee.{eq, is_nan}
use Rattle.doubles.specs.F64.{◌⩽◌, +0, at}
use Rattle.ambient_turns.specs.Ambient.{Results}

-- place j is in the window of W places, fewer at the start, that ends with place i
abbrev pub InWindow : ℕ → ℕ → ℕ → Type 0
InWindow W i j = (j ≤ i) × (i < j + W)

-- e is a number of the window, or +0 for a zero of either sign
pub record Hit (W : ℕ) (t : List Float) (i : ℕ) (e : Float) : Type 0 where
  pub place : ℕ
  pub inside : InWindow W i place
  pub one : (e ≡ at t place) ⊎ ((eq (at t place) +0 ≡ true) × (e ≡ +0))

-- place i of the slices: the temperature is no NaN; the largest and the smallest are numbers of its window, none of which lies beyond them, and +0 if 0
pub record Windowed (W : ℕ) (r : Results) (i : ℕ) : Type 0 where
  pub number : is_nan (at r.temperatures i) ≡ false
  pub largest : Hit W r.temperatures i (at r.largest i)
  pub smallest : Hit W r.temperatures i (at r.smallest i)
  pub above : (j : ℕ) → InWindow W i j → T (at r.temperatures j ⩽ at r.largest i)
  pub below : (j : ℕ) → InWindow W i j → T (at r.smallest i ⩽ at r.temperatures j)
  pub largest_unsigned : eq (at r.largest i) +0 ≡ true → at r.largest i ≡ +0
  pub smallest_unsigned : eq (at r.smallest i) +0 ≡ true → at r.smallest i ≡ +0

-- the slices b are the slices a but for their first n places
pub record But (n : ℕ) (a b : Results) : Type 0 where
  pub temperatures_long : length b.temperatures ≡ length a.temperatures
  pub largest_long : length b.largest ≡ length a.largest
  pub smallest_long : length b.smallest ≡ length a.smallest
  pub temperatures : (k : ℕ) → n ≤ k → at b.temperatures k ≡ at a.temperatures k
  pub largest : (k : ℕ) → n ≤ k → at b.largest k ≡ at a.largest k
  pub smallest : (k : ℕ) → n ≤ k → at b.smallest k ≡ at a.smallest k
