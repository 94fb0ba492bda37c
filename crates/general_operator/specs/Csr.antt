-- A sparse matrix by rows: sums and products of its rows (general_operator.rs). Definitions only.
use Rattle.std.specs.Prelude.{List, ◌≡◌, ℕ, ◌+◌, ◌-◌, ◌≤◌, ◌<◌, length, get_or, Float}
use Rattle.std.specs.Float.Ieee.{neg}
use Rattle.lists.specs.Loop.{iter, tabulate}
use Rattle.doubles.specs.F64.{◌⊗◌, +0, at, abs, max_num}
use Rattle.doubles.specs.Sum.{sum}

-- n rows; the entries of row i are those from start i up to start (i + 1), each with its column
pub record Csr : Type 0 where
  pub n : ℕ
  pub starts : List ℕ
  pub columns : List ℕ
  pub entries : List Float

abbrev pub csr : ℕ → List ℕ → List ℕ → List Float → Csr
csr n starts columns entries = record { n = n; starts = starts; columns = columns; entries = entries }

abbrev pub start : Csr → ℕ → ℕ
start q i = get_or q.starts i 0

-- the sum of the sizes of the entries from `from` up to `to`
unfoldable pub size_sum : List Float → ℕ → ℕ → Float
size_sum entries from to = sum (to - from) (λ k. abs (at entries (from + k)))

unfoldable pub row_sum : Csr → ℕ → Float
row_sum q i = size_sum q.entries (start q i) (start q (i + 1))

-- `row_sum_norm`: the largest row sum, from +0
unfoldable pub row_sum_norm : Csr → Float
row_sum_norm q = iter (λ i m. max_num m (row_sum q i)) q.n +0

-- minus the products of a row's entries with what x has at their columns, summed in stored order from +0
unfoldable pub row_product : List ℕ → List Float → List Float → ℕ → ℕ → Float
row_product columns entries x from to = neg (sum (to - from) (λ k. at entries (from + k) ⊗ at x (get_or columns (from + k) 0)))

-- `apply_generator`: G x for G = -Q
unfoldable pub apply_generator : Csr → List Float → List Float
apply_generator q x = tabulate q.n (λ i. row_product q.columns q.entries x (start q i) (start q (i + 1)))

-- what a matrix is known to have that passes the checks 1 to 6
pub record Valid (q : Csr) : Type 0 where
  pub some : 0 < q.n
  pub few : q.n ≤ 1000000
  pub light : length q.entries ≤ 16777216
  pub rows : length q.starts ≡ q.n + 1
  pub rising : (i : ℕ) → i < q.n → start q i ≤ start q (i + 1)
  pub last : start q q.n ≡ length q.entries
  pub paired : length q.columns ≡ length q.entries
  pub below : (k : ℕ) → k < length q.columns → get_or q.columns k 0 < q.n

-- to compute: a line `unfolding open_csr` opens every definition of this file and of those below it
unfoldable pub open_csr : Unit {0}
unfolding size_sum row_sum row_sum_norm row_product apply_generator Rattle.doubles.specs.Sum.open_sum
open_csr = tt
