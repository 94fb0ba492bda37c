-- The whole part of a square root. Assumes nothing.
use mathlib.Core.Path.{sym}
use Prim.Native.Nat.{ℕ, ◌+◌, ◌*◌, ◌^◌, ◌≤◌, ◌<◌, zero-le}
use native.Mathlib.Nat.{le_refl, le_trans, lt_of_le_of_lt, lt_of_not-le, mul-le-mul, mul-one, le_of_eq}
use native.Mathlib.Numerals.{lt-add-one}
use native.Mathlib.Omega.{arith}
use mathlib.Core.Bool.{Bool}
use lib.Dec.{leb, leb→le, le→leb}
use lib.Ieee.{size}
use lib.Ieee.Digits.{size-lt}
use Rattle.lists.specs.Greatest.{greatest}
use Rattle.lists.proofs.Greatest.{Greatest, greatest_is}
use Rattle.sqrt.specs.Sqrt.{isqrt}
use Rattle.sqrt.proofs.Squares.{square_mono}

self_le : (n : ℕ) → 0 < n → n ≤ n * n
self_le n h = le_trans (le_of_eq (sym (mul-one n))) (mul-le-mul (le_refl n) h)

pub isqrt_is : (n : ℕ) → (isqrt n * isqrt n ≤ n) × (n < (isqrt n + 1) * (isqrt n + 1))
unfolding isqrt
isqrt_is n =
    let p : ℕ → Bool = λ (s : ℕ). leb (s * s) n in
    let g = greatest p (size n) 0 in
    let r : Greatest p 0 (2 ^ size n) g =
    greatest_is p (λ a b h t. le→leb (a * a) n (le_trans (square_mono a b h) (leb→le (b * b) n t))) (size n) (le→leb 0 n zero-le) in (
      leb→le (g * g) n r.passes,
      lt_of_not-le (λ (h : (g + 1) * (g + 1) ≤ n). r.last (g + 1) (lt-add-one g) (small g n h) (le→leb ((g + 1) * (g + 1)) n h)),
    )
  where
    pos : (g : ℕ) → 0 < g + 1
    pos g = omega arith

    small : (g n : ℕ) → (g + 1) * (g + 1) ≤ n → g + 1 < 2 ^ size n
    small g n h = lt_of_le_of_lt (le_trans (self_le (g + 1) (pos g)) h) (size-lt n)
