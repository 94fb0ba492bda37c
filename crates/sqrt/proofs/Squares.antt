-- Squares of whole numbers. Assumes nothing.
use Prim.Native.Nat.{ℕ, ◌*◌, ◌≤◌, ◌<◌}
use native.Mathlib.Nat.{lt_of_not-le, not-le_of_lt, mul-le-mul}

pub square_mono : (a b : ℕ) → a ≤ b → a * a ≤ b * b
square_mono a b h = mul-le-mul h h

pub square_lt : (a b : ℕ) → a * a < b * b → a < b
square_lt a b h = lt_of_not-le (λ (g : b ≤ a). not-le_of_lt h (square_mono b a g))
