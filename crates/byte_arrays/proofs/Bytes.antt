-- The bytes of a slice that was cut, joined again: what was not cut is as it is written, and what is left as it was stays. Assumes nothing.
use mathlib.Core.List.{List, ◌++◌, append-nil}
use mathlib.Core.Path.{◌≡◌, sym, ◌∙◌, ap}
use Prim.Native.Nat.{ℕ, ◌<◌}
use lib.ListN.{length, get_or, take, drop, take-append-drop}
use Rattle.le_bytes.specs.Bytes.{numbers_of, doubles_of, words_of, numbers_over, words_over, written_over}
use Rattle.le_bytes.proofs.Unchanged.{unchanged}
use Rattle.le_bytes.proofs.Fronts.{bytes_of, numbers_unchanged, words_unchanged}
use Rattle.byte_arrays.proofs.Parts.{whole, nothing_left}

pub back : (f : List ℕ → List ℕ) (b : List ℕ) {r : ℕ} → r ≡ length b → f (take r b) ++ drop r b ≡ f b
back f b e = (λ i. f (whole {b = b} e i) ++ nothing_left b e i) ∙ append-nil (f b)

module _ (b : List ℕ) (r : ℕ) (byte : (i : ℕ) → get_or b i 0 < 256) where
  pub left : written_over (doubles_of (take r b)) (take r b) ++ drop r b ≡ written_over (doubles_of b) b
  left = ap (λ (x : List ℕ). x ++ drop r b) (unchanged (take r b) (bytes_of r b byte)) ∙ take-append-drop r b ∙ sym (unchanged b byte)

  pub left_numbers : numbers_over (numbers_of (take r b)) (take r b) ++ drop r b ≡ numbers_over (numbers_of b) b
  left_numbers = ap (λ (x : List ℕ). x ++ drop r b) (numbers_unchanged (take r b) (bytes_of r b byte)) ∙ take-append-drop r b ∙ sym (numbers_unchanged b byte)

  pub left_words : words_over (words_of (take r b)) (take r b) ++ drop r b ≡ words_over (words_of b) b
  left_words = ap (λ (x : List ℕ). x ++ drop r b) (words_unchanged (take r b) (bytes_of r b byte)) ∙ take-append-drop r b ∙ sym (words_unchanged b byte)
