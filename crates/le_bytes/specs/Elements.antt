-- The lists that a slice of bytes stands for, element by element: the law of each instance of `LittleEndian`. Assumes nothing.
use Rattle.std.specs.Prelude.{◌≡◌, refl, List, ℕ, ◌*◌, ◌/◌, length}
use Rattle.lists.specs.Loop.{tabulate}
use Rattle.le_bytes.specs.Bytes.{half, word, double_at, numbers_of, doubles_of, words_of}

pub numbers_each : (b : List ℕ) → numbers_of b ≡ tabulate (length b / 4) (λ k. half b (4 * k))
unfolding numbers_of
numbers_each b = refl

pub words_each : (b : List ℕ) → words_of b ≡ tabulate (length b / 8) (λ k. word b (8 * k))
unfolding words_of
words_each b = refl

pub doubles_each : (b : List ℕ) → doubles_of b ≡ tabulate (length b / 8) (λ k. double_at b (8 * k))
unfolding doubles_of
doubles_each b = refl
