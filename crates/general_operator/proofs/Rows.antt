-- Where the rows of a valid matrix lie. Assumes nothing.
use mathlib.Core.Path.{◌≡◌, subst}
use Prim.Native.Nat.{ℕ, zero, suc, ◌+◌, ◌-◌, ◌≤◌, ◌<◌}
use native.Mathlib.Nat.{add-zero, add-suc, le_refl, le_trans, add-sub_of_le}
use native.Mathlib.Numerals.{add-one}
use native.Mathlib.Omega.{arith}
use lib.ListN.{length}
use Rattle.lists.proofs.Loop.{length_tabulate}
use Rattle.general_operator.specs.Csr.{Csr, start, Valid, apply_generator, size_sum, row_sum}
use lib.Dec.{T}
use lib.Ieee.{Float, binary64, fits, is_nan}
use mathlib.Core.Bool.{not}
use Rattle.doubles.specs.F64.{at, nonneg}
use Rattle.doubles.proofs.Sizes.{abs_nonneg, sum_nonneg, sum_fits}
use mathlib.Core.List.{List}

module _ {q : Csr} (v : Valid q) where
  rises_by : (i d : ℕ) → i + d ≤ q.n → start q i ≤ start q (i + d)
  rises_by i zero h = rw add-zero (le_refl (start q i))
  rises_by i (suc d) h = rw (add-suc, ← (add-one (i + d))) (le_trans (rises_by i d (omega arith)) (v.rising (i + d) (omega arith)))

  pub rises : (i j : ℕ) → i ≤ j → j ≤ q.n → start q i ≤ start q j
  rises i j h l = subst (λ (k : ℕ). start q i ≤ start q k) (add-sub_of_le h) (rises_by i (j - i) (omega arith))

  -- where a row starts there is an entry, or the end
  pub start_le : (i : ℕ) → i ≤ q.n → start q i ≤ length q.entries
  start_le i h = subst (λ (k : ℕ). start q i ≤ k) v.last (rises i q.n h (le_refl q.n))

  -- a row lies within the entries
  pub row_within : (i : ℕ) → i < q.n → (start q i ≤ start q (i + 1)) × (start q (i + 1) ≤ length q.entries)
  row_within i h = (v.rising i h, start_le (i + 1) (omega arith))

pub length_apply : (q : Csr) (x : List Float) → length (apply_generator q x) ≡ q.n
unfolding apply_generator
length_apply q x = length_tabulate q.n _

-- a row whose entries are no NaN sums to what is not negative
pub row_sum_nonneg : (q : Csr) (i : ℕ) → ((k : ℕ) → start q i ≤ k → k < start q (i + 1) → T (not (is_nan (at q.entries k)))) → T (nonneg (row_sum q i))
unfolding row_sum size_sum
row_sum_nonneg q i h = sum_nonneg (start q (i + 1) - start q i) _ (λ k l. abs_nonneg _ (h (start q i + k) (omega arith) (omega arith)))

pub row_sum_fits : (q : Csr) (i : ℕ) → T (fits binary64 (row_sum q i))
unfolding row_sum size_sum
row_sum_fits q i = sum_fits _ _
