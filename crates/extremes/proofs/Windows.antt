-- Windows of numbers: which numbers an extreme looks at. Assumes nothing.
use mathlib.Core.Path.{◌≡◌, sym, ap, ◌∙◌}
use mathlib.Core.List.{List}
use Prim.Native.Nat.{ℕ, zero, suc, ◌+◌, ◌-◌, ◌≤◌, ◌<◌}
use native.Mathlib.Omega.{arith}
use lib.ListN.{length}
use lib.Ieee.{Float, nan}
use Rattle.lists.specs.Loop.{iter, tabulate}
use Rattle.lists.specs.Window.{window}
use Rattle.lists.proofs.Loop.{tabulate_ext}
use Rattle.lists.proofs.Window.{length_window, get_d_window}
use Rattle.doubles.specs.F64.{at}
use Rattle.extremes.specs.Extremes.{unsigned_zero, window_start, extreme}

pub start_within : (W i : ℕ) → 1 ≤ W → window_start W i ≤ i
unfolding window_start
start_within W i h = omega arith

-- an extreme looks at no number behind its place
module _ (op : Float → Float → Float) where
  folded_same : (f g : ℕ → Float) (n : ℕ) → ((k : ℕ) → k ≤ n → f k ≡ g k) → iter (λ k m. op m (f (k + 1))) n (f 0) ≡ iter (λ k m. op m (g (k + 1))) n (g 0)
  unfolding iter
  folded_same f g zero h = h 0 (omega arith)
  folded_same f g (suc n) h = λ i. op (folded_same f g n (λ k l. h k (omega arith)) i) (h (n + 1) (omega arith) i)

  pub extreme_same : (W i : ℕ) (x y : List Float) → 1 ≤ W → ((j : ℕ) → j ≤ i → at x j ≡ at y j) → extreme op W x i ≡ extreme op W y i
  unfolding extreme
  extreme_same W i x y h e =
      let s = window_start W i in
      let l = start_within W i h in
      ap unsigned_zero
      ((λ j. iter (λ k m. op m (at x (s + (k + 1)))) (i - s) (at x (first s j)))
      ∙ folded_same (λ k. at x (s + k)) (λ k. at y (s + k)) (i - s) (λ k b. e (s + k) (omega (arith, l, b)))
      ∙ (λ j. iter (λ k m. op m (at y (s + (k + 1)))) (i - s) (at y (last s j))))
    where
      first : (s : ℕ) → s ≡ s + 0
      first s = omega arith

      last : (s : ℕ) → s + 0 ≡ s
      last s = omega arith

  -- the extremes of the first n numbers of a list
  pub extremes_of_front : (W n : ℕ) (x : List Float) → 1 ≤ W → n ≤ length x → tabulate n (extreme op W x) ≡ tabulate (length (window 0 n x)) (extreme op W (window 0 n x))
  extremes_of_front W n x h l =
      tabulate_ext n _ _ (λ i b. extreme_same W i x (window 0 n x) h (λ j c. front n x j (omega arith)))
      ∙ ap (λ (k : ℕ). tabulate k (extreme op W (window 0 n x))) (long n x l)
    where
      front : (n : ℕ) (x : List Float) (j : ℕ) → j < n → at x j ≡ at (window 0 n x) j
      front n x j c = let e : j ≡ 0 + j = omega arith in ap (at x) e ∙ sym (get_d_window 0 n x j nan c)

      long : (n : ℕ) (x : List Float) → n ≤ length x → n ≡ length (window 0 n x)
      long n x l = omega (arith, length_window 0 n x (omega arith))
