-- How many numbers and doubles a slice of bytes stands for. Assumes nothing.
use mathlib.Core.List.{List}
use mathlib.Core.Path.{◌≡◌}
use native.Mathlib.Omega.{arith}
use Prim.Native.Nat.{ℕ, ◌*◌, ◌/◌, ◌≤◌}
use lib.ListN.{length}
use Rattle.lists.proofs.Loop.{length_tabulate}
use Rattle.le_bytes.specs.Bytes.{half, word, double_at, numbers_of, doubles_of, words_of}

pub count_numbers : (b : List ℕ) → length (numbers_of b) ≡ length b / 4
unfolding numbers_of
count_numbers b = length_tabulate (length b / 4) (λ k. half b (4 * k))

pub count_doubles : (b : List ℕ) → length (doubles_of b) ≡ length b / 8
unfolding doubles_of
count_doubles b = length_tabulate (length b / 8) (λ k. double_at b (8 * k))

pub count_words : (b : List ℕ) → length (words_of b) ≡ length b / 8
unfolding words_of
count_words b = length_tabulate (length b / 8) (λ k. word b (8 * k))

-- as many doubles as there are whole ones take no more bytes
pub within_bytes : {m n : ℕ} → m ≡ n / 8 → 8 * m ≤ n
within_bytes e = omega (arith, e)

-- and as many numbers
pub within_fours : {m n : ℕ} → m ≡ n / 4 → 4 * m ≤ n
within_fours e = omega (arith, e)
