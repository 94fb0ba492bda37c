-- The field with which the sweeps start, as the stores leave it. Assumes nothing.
use mathlib.Core.Path.{◌≡◌, refl, ap, ◌∙◌}
use mathlib.Core.List.{List, [], ◌∷◌, ◌++◌}
use Prim.Native.Nat.{ℕ, zero, suc, ◌+◌, ◌-◌, ◌≤◌, ◌<◌}
use native.Mathlib.Omega.{arith}
use native.Mathlib.Numerals.{add-one}
use native.Mathlib.Nat.{zero-add, add-zero, zero-mul}
use lib.ListN.{length, replicate, set, length-replicate}
use lib.Seq.{take_all}
use lib.Ieee.{Float}
use Rattle.lists.specs.Window.{window, splice}
use Rattle.lists.proofs.Window.{length_window, splice_nil, splice_more, set_splice_in, set_behind}
use Rattle.doubles.specs.F64.{+0}
use Rattle.combination.specs.Combination.{vector, combination_start, init_aug_vector}

module _ (n : ℕ) (w w₀ : List Float) (inv : Float) (h : n ≤ length w) where
  pub no_chain : (d : ℕ) → d ≤ 0 → splice n (replicate d +0) (splice 0 (window 0 n w) w₀) ≡ splice 0 (combination_start n w d inv) w₀
  unfolding combination_start vector
  no_chain zero l = splice_nil n _ ∙ rw (zero-mul n) refl
  no_chain (suc d) l = absurd (omega arith)

  pub chained : (d i : ℕ) → 0 < d → i ≡ n + d - 1 → set (splice n (replicate d +0) (splice 0 (window 0 n w) w₀)) i inv ≡ splice 0 (combination_start n w d inv) w₀
  unfolding combination_start vector
  chained zero i l e = absurd (omega arith)
  chained (suc k) i l e =
      let lz = length-replicate (suc k) +0 in
      let at : i ≡ n + k = omega arith in
      let last : set (replicate (suc k) +0) k inv ≡ replicate k +0 ++ (inv ∷ []) = rw (add-one k, add-zero k) at (set_behind k 1 0 +0 inv) in
      let w₁ = splice 0 (window 0 n w) w₀ in
      ap (λ (j : ℕ). set (splice n (replicate (suc k) +0) w₁) j inv) at
      ∙ set_splice_in n (replicate (suc k) +0) w₁ k inv (omega arith)
      ∙ ap (λ (vs : List Float). splice n vs w₁) last
      ∙ rw (zero-add n) at (splice_more 0 n (window 0 n w) (replicate k +0 ++ (inv ∷ [])) w₀ (length_window 0 n w (omega arith)))
      ∙ rw (zero-mul n) refl

module _ (n : ℕ) (v w₀ : List Float) (inv : Float) where
  pub at_rest : (k : ℕ) → k ≡ 0 → length v ≡ n → splice n (replicate 3 +0) (splice 0 (window 0 n v) w₀) ≡ splice 0 (init_aug_vector n v inv k) w₀
  unfolding init_aug_vector window
  at_rest zero e h = ap (λ (vs : List Float). splice n (replicate 3 +0) (splice 0 vs w₀)) (take_all n v (omega arith)) ∙ rw (zero-add n) at (splice_more 0 n v (replicate 3 +0) w₀ h)
  at_rest (suc k) e h = absurd (omega arith)

  pub driven : (k i : ℕ) → 0 < k → k ≤ 3 → i ≡ n + k - 1 → set (splice 0 (replicate (n + 3) +0) w₀) i inv ≡ splice 0 (init_aug_vector n v inv k) w₀
  unfolding init_aug_vector
  driven zero i l f e = absurd (omega arith)
  driven (suc k) i l f e =
      let lz = length-replicate (n + 3) +0 in
      let at : i ≡ 0 + (n + k) = omega arith in
      ap (λ (j : ℕ). set (splice 0 (replicate (n + 3) +0) w₀) j inv) at ∙ set_splice_in 0 (replicate (n + 3) +0) w₀ (n + k) inv (omega arith) ∙ rw (set_behind n 3 k +0 inv) refl
