-- How far a row's heat flow can be off (document 02, N13), over whole numbers. Definitions only.
use Rattle.std.specs.Prelude.{true, List, ◌≡◌, ℕ, ◌+◌, ◌-◌, ◌*◌, ◌^◌, ◌≤◌, ◌<◌, ℤ, pos, nat_abs, ◌+ℤ◌, ◌*ℤ◌, get_or, Float}
use Rattle.lists.specs.Loop.{iter}
use Rattle.doubles.specs.F64.{◌⊗◌, at, is_finite}
use Rattle.doubles.specs.Sum.{sum}
use Rattle.doubles.specs.Units.{units, NotTiny, open_units}
use Rattle.general_operator.specs.Csr.{Csr, start, open_csr}

-- N13's k: how many entries row i stores
abbrev pub stored : Csr → ℕ → ℕ
stored q i = start q (i + 1) - start q i

-- N13, the exact product of entry k with what x has at its column: each is a whole number of 2 ^ -1074, so the product is one of 2 ^ -2148
unfoldable pub exact_product : List ℕ → List Float → List Float → ℕ → ℤ
exact_product columns entries x k = units (at entries k) *ℤ units (at x (get_or columns k 0))

-- N13, the exact sum of n products: f 0 + f 1 + .. + f (n - 1)
unfoldable pub total : ℕ → (ℕ → ℤ) → ℤ
total n f = iter (λ k s. s +ℤ f k) n (pos 0)

-- N13, the exact sum of their sizes: |f 0| + |f 1| + .. + |f (n - 1)|
unfoldable pub total_size : ℕ → (ℕ → ℤ) → ℕ
total_size n f = iter (λ k s. s + nat_abs (f k)) n 0

-- N13, 'every exact product in the row is 0 or at least 2 ^ -1022 in size', of the n entries from `from` on: 2 ^ -1022 is 2 ^ 1126 units of 2 ^ -2148
abbrev pub NoneTiny : List ℕ → List Float → List Float → ℕ → ℕ → Type 0
NoneTiny columns entries x from n = (k : ℕ) → k < n → NotTiny (2 ^ 1126) (exact_product columns entries x (from + k))

-- N13, 'a finite field' and 'nothing becomes infinite', at entry k of row i: the entry, the value at its column, their product, and the sum up to it
pub record FiniteAt (q : Csr) (x : List Float) (i k : ℕ) : Type 0 where
  pub entry : is_finite (at q.entries (start q i + k)) ≡ true
  pub value : is_finite (at x (get_or q.columns (start q i + k) 0)) ≡ true
  pub product : is_finite (at q.entries (start q i + k) ⊗ at x (get_or q.columns (start q i + k) 0)) ≡ true
  pub so_far : is_finite (sum (k + 1) (λ j. at q.entries (start q i + j) ⊗ at x (get_or q.columns (start q i + j) 0))) ≡ true

-- N13, 'the computed flow differs from minus the exact sum of the products by at most k * 2 ^ -52 times the exact sum of their sizes': both sides in units of 2 ^ -2148 and times 2 ^ 52
abbrev pub Off : ℕ → Float → (ℕ → ℤ) → Type 0
Off n flow f = 2 ^ 52 * nat_abs (units flow *ℤ pos (2 ^ 1074) +ℤ total n f) ≤ n * total_size n f

-- to compute: a line `unfolding open_row_error` opens every definition of this file and of those below it
unfoldable pub open_row_error : Unit {0}
unfolding exact_product total total_size open_units open_csr
open_row_error = tt
