-- The double nearest to √n / 2 ^ 1074, from the whole part of the root and whether it is exact. Assumes nothing.
use mathlib.Core.Path.{◌≡◌, refl, sym, subst}
use mathlib.Core.Logic.{◌⊎◌, inl, inr}
use Prim.Native.Nat.{ℕ, ◌+◌, ◌*◌, ◌^◌, ◌≤◌, ◌<◌}
use native.Mathlib.Nat.{le_of_lt, lt_of_le_of_lt, lt_irrefl, eq-or-lt_of_le}
use native.Mathlib.Omega.{arith}
use mathlib.Core.Bool.{Bool, true, false, cond}
use lib.Dec.{T, eqb, eqb→eq}
use lib.Ieee.{binary64, round}
use Rattle.lists.proofs.Bounds.{le_of_lt_next}
use Rattle.sqrt.specs.Sqrt.{isqrt, nearest_root}
use Rattle.sqrt.proofs.Whole.{isqrt_is}
use Rattle.sqrt.proofs.Squares.{square_lt}

-- ---- the root, doubled, with a last digit that says whether anything is left
unfoldable pub sticky : ℕ → ℕ
unfolding isqrt
sticky n = 2 * isqrt n + cond (eqb (isqrt n * isqrt n) n) 0 1

last_le : (b : Bool) → cond b 0 1 ≤ 1
last_le true = omega arith
last_le false = omega arith

pub sticky_high : (n c : ℕ) → n < c * c → sticky n < 2 * c
unfolding sticky
sticky_high n c h = go (isqrt n) (cond (eqb (isqrt n * isqrt n) n) 0 1) c (last_le (eqb (isqrt n * isqrt n) n)) (square_lt (isqrt n) c (lt_of_le_of_lt (isqrt_is n).0 h))
  where
    go : (s t c : ℕ) → t ≤ 1 → s < c → 2 * s + t < 2 * c
    go s t c h k = omega arith

pub sticky_low : (n b : ℕ) → b * b < n → 2 * b < sticky n
unfolding sticky
sticky_low n b h = go (eq-or-lt_of_le (le_of_lt_next b (isqrt n) (square_lt b (isqrt n + 1) (lt_of_le_of_lt (le_of_lt h) (isqrt_is n).1))))
  where
    more : (b s t : ℕ) → b < s → 2 * b < 2 * s + t
    more b s t h = omega arith

    exact : (b s : ℕ) → b ≡ s → 2 * b < 2 * s + 1
    exact b s h = omega arith

    not_exact : (t : Bool) → (T t → isqrt n * isqrt n ≡ n) → isqrt n * isqrt n < n → ◌≡◌ {A = ℕ} (cond t 0 1) 1
    not_exact true e l = absurd (lt_irrefl n (subst (λ (z : ℕ). z < n) (e tt) l))
    not_exact false e l = refl

    go : (b ≡ isqrt n) ⊎ (b < isqrt n) → 2 * b < 2 * isqrt n + cond (eqb (isqrt n * isqrt n) n) 0 1
    go (inl e) = subst (λ (t : ℕ). 2 * b < 2 * isqrt n + t) (sym (not_exact (eqb (isqrt n * isqrt n) n) (eqb→eq (isqrt n * isqrt n) n) (subst (λ (z : ℕ). z * z < n) e h))) (exact b (isqrt n) e)
    go (inr l) = more b (isqrt n) (cond (eqb (isqrt n * isqrt n) n) 0 1) l

pub nearest_root_is : (n : ℕ) → nearest_root n ≡ round binary64 false (sticky n) (2 ^ 1075)
unfolding nearest_root sticky
nearest_root_is n = refl
