-- Lists written over bytes, element by element: the laws of the instances of `Packed`. Assumes nothing.
use Rattle.std.specs.Prelude.{◌≡◌, refl, List, ℕ, ◌+◌, ◌*◌, ◌/◌, ◌%◌, ◌^◌, ◌≤◌, length, get_or, Float}
use Rattle.std.specs.Float.Ieee.{nan}
use native.Mathlib.Omega.{arith}
use Rattle.lists.specs.Loop.{tabulate}
use Rattle.lists.specs.Window.{splice}
use Rattle.le_bytes.specs.Bytes.{half, word, double_at, numbers_over, words_over, byte_over, written_over}

-- byte j of the number x, whatever is written over
abbrev pub number_byte : ℕ → List ℕ → ℕ → ℕ → ℕ
number_byte x b p j = x / 2 ^ (8 * j) % 256

pub number_from_here : (x : ℕ) (b c : List ℕ) (p j : ℕ) → ((i : ℕ) → p ≤ i → get_or c i 0 ≡ get_or b i 0) → number_byte x c p j ≡ number_byte x b p j
number_from_here x b c p j same = refl

pub numbers_put : (xs b : List ℕ) → numbers_over xs b ≡ splice 0 (tabulate (4 * length xs) (λ i. number_byte (get_or xs (i / 4) 0) b (4 * (i / 4)) (i % 4))) b
unfolding numbers_over
numbers_put xs b = refl

pub words_put : (xs b : List ℕ) → words_over xs b ≡ splice 0 (tabulate (8 * length xs) (λ i. number_byte (get_or xs (i / 8) 0) b (8 * (i / 8)) (i % 8))) b
unfolding words_over
words_put xs b = refl

same_word : (b c : List ℕ) (p : ℕ) → ((i : ℕ) → p ≤ i → get_or c i 0 ≡ get_or b i 0) → word c p ≡ word b p
unfolding word half
same_word b c p same =
    rw (same p (omega arith), same (p + 1) (omega arith), same (p + 2) (omega arith), same (p + 3) (omega arith), same (p + 4) (omega arith), same (p + 4 + 1) (omega arith), same (p + 4 + 2) (omega arith), same (p + 4 + 3) (omega arith)) refl

pub double_from_here : (x : Float) (b c : List ℕ) (p j : ℕ) → ((i : ℕ) → p ≤ i → get_or c i 0 ≡ get_or b i 0) → byte_over x c p j ≡ byte_over x b p j
unfolding byte_over double_at
double_from_here x b c p j same = rw (same_word b c p same, same (p + j) (omega arith)) refl

pub doubles_put : (xs : List Float) (b : List ℕ) → written_over xs b ≡ splice 0 (tabulate (8 * length xs) (λ i. byte_over (get_or xs (i / 8) nan) b (8 * (i / 8)) (i % 8))) b
unfolding written_over
doubles_put xs b = refl
