-- Numbers and doubles as bytes, lowest first (document 01, 'Oracle'). Definitions only.
-- A slice of bytes stands for the list of its whole elements: bytes behind the last whole element are not read and not written.
-- Every NaN pattern stands for the one NaN. A NaN is written as 0x7ff8_0000_0000_0000, but not over a NaN: so the bytes of a double that a call
-- leaves as it was are left as they were, whatever they are.
use Rattle.std.specs.Prelude.{◌&&◌, cond, List, ℕ, ◌+◌, ◌*◌, ◌/◌, ◌%◌, ◌^◌, length, get_or, Float}
use Rattle.std.specs.Float.{binary64}
use Rattle.std.specs.Float.Ieee.{is_nan, of_bits, to_bits}
use Rattle.lists.specs.Loop.{tabulate}
use Rattle.lists.specs.Window.{splice}
use Rattle.doubles.specs.F64.{at}

-- the number whose four bytes start at k
unfoldable pub half : List ℕ → ℕ → ℕ
half b k = get_or b k 0 + 256 * get_or b (k + 1) 0 + 65536 * get_or b (k + 2) 0 + 16777216 * get_or b (k + 3) 0

-- the number whose eight bytes start at k
unfoldable pub word : List ℕ → ℕ → ℕ
word b k = half b k + 4294967296 * half b (k + 4)

-- the double whose eight bytes start at k
unfoldable pub double_at : List ℕ → ℕ → Float
double_at b k = of_bits binary64 (word b k)

-- the whole elements: numbers of four bytes, doubles, numbers of eight bytes
unfoldable pub numbers_of : List ℕ → List ℕ
numbers_of b = tabulate (length b / 4) (λ k. half b (4 * k))

unfoldable pub doubles_of : List ℕ → List Float
doubles_of b = tabulate (length b / 8) (λ k. double_at b (8 * k))

unfoldable pub words_of : List ℕ → List ℕ
words_of b = tabulate (length b / 8) (λ k. word b (8 * k))

-- the numbers xs, of four bytes or of eight, written over the front of b
unfoldable pub numbers_over : List ℕ → List ℕ → List ℕ
numbers_over xs b = splice 0 (tabulate (4 * length xs) (λ i. get_or xs (i / 4) 0 / 2 ^ (8 * (i % 4)) % 256)) b

unfoldable pub words_over : List ℕ → List ℕ → List ℕ
words_over xs b = splice 0 (tabulate (8 * length xs) (λ i. get_or xs (i / 8) 0 / 2 ^ (8 * (i % 8)) % 256)) b

-- byte j of the double x, written over the eight bytes from p of b
unfoldable pub byte_over : Float → List ℕ → ℕ → ℕ → ℕ
byte_over x b p j = cond (is_nan x && is_nan (double_at b p)) (get_or b (p + j) 0) (to_bits binary64 x / 2 ^ (8 * j) % 256)

-- the doubles xs, written over the front of b
unfoldable pub written_over : List Float → List ℕ → List ℕ
written_over xs b = splice 0 (tabulate (8 * length xs) (λ i. byte_over (at xs (i / 8)) b (8 * (i / 8)) (i % 8))) b
