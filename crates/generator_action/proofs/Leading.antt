-- The largest row sum, row by row, and the first row that has it. Assumes nothing.
use mathlib.Core.Path.{◌≡◌, refl, sym, ap, subst, ◌∙◌}
use mathlib.Core.Bool.{Bool, true, false, cond}
use Prim.Native.Nat.{ℕ, ◌+◌, ◌-◌, ◌≤◌, ◌<◌}
use native.Mathlib.Omega.{arith}
use lib.Dec.{T}
use lib.Ieee.{Float, eq, ne}
use borrow.Author.Count.{below_more}
use borrow.Author.Tests.{not-false}
use mathlib.Core.Logic.{inl, inr, ⊎_elim}
use Rattle.general_operator.proofs.Rows.{row_sum_fits}
pub use Rattle.general_operator.proofs.Rows.{row_sum_nonneg}
use Rattle.lists.specs.Loop.{iter}
use Rattle.lists.proofs.Bounds.{lt_or_le}
use Rattle.lists.proofs.Loop.{iter_none, iter_turn}
use Rattle.lists.proofs.Find.{found_at}
use Rattle.doubles.specs.F64.{◌⋖◌, ◌⩽◌, +0, max_num, nonneg}
use Rattle.doubles.proofs.Order.{nonneg_number}
use Rattle.doubles.proofs.Sizes.{zero_nonneg, equals_itself, not_above_zero}
use Rattle.doubles.proofs.Total.{⩽_refl, ⩽_trans, ⩽_or_⋖, ⋖_⩽, ⋖_apart, ⩽_⋖_trans}
use Rattle.doubles.proofs.Extremes.{where_told, where_not}
use Rattle.general_operator.specs.Csr.{Csr, row_sum, row_sum_norm}
use Rattle.generator_action.specs.Answer.{largest_row}

-- of the rows below i the largest sum is `norm`, and `row` is the first that has it
pub record Leading (q : Csr) (i : ℕ) (norm : Float) (row : ℕ) : Type 0 where
  pub is : norm ≡ iter (λ j m. max_num m (row_sum q j)) i +0
  pub sign : T (nonneg norm)
  pub low : row ≤ i - 1
  pub has : 0 < i → row_sum q row ≡ norm
  pub most : (j : ℕ) → j < i → T (row_sum q j ⩽ norm)
  pub first : (j : ℕ) → j < row → T (row_sum q j ⋖ norm)

pub leading_start : (q : Csr) → Leading q 0 +0 0
leading_start q = record { is = sym (iter_none _ +0); sign = zero_nonneg; low = omega arith; has = λ h. absurd (omega arith); most = λ j h. absurd (omega arith); first = λ j h. absurd (omega arith) }

-- ---- a turn: the sum of row i is above the largest so far, or not
module _ {q : Csr} {i : ℕ} {norm : Float} {row : ℕ} (l : Leading q i norm row) (p : T (nonneg (row_sum q i))) where
  above : (norm ⋖ row_sum q i) ≡ true → Leading q (i + 1) (row_sum q i) i
  unfolding max_num
  above e =
      let g : T (norm ⋖ row_sum q i) = subst T (sym e) tt in
      record {
        is = iter_turn _ i +0 norm (row_sum q i) l.is (where_told norm (row_sum q i) _ e);
        sign = p;
        low = omega arith;
        has = λ h. refl;
        most = below_more (λ (j : ℕ). T (row_sum q j ⩽ row_sum q i)) i (λ j h. ⩽_trans (row_sum q j) norm (row_sum q i) (l.most j h) (⋖_⩽ norm (row_sum q i) g)) (⩽_refl (row_sum q i) (nonneg_number _ p));
        first = λ j h. ⩽_⋖_trans (row_sum q j) norm (row_sum q i) (l.most j h) g;
      }

  -- before the first row the largest is +0
  first_row : i ≤ 0 → (norm ⋖ row_sum q i) ≡ false → row_sum q row ≡ norm
  unfolding iter
  first_row z e =
      let at_0 : i ≡ 0 = omega arith in
      let none : norm ≡ +0 = l.is ∙ rw at_0 in
      let same : row ≡ i = omega (arith, l.low) in
      ap (row_sum q) same ∙ not_above_zero (row_sum q i) (row_sum_fits q i) p (rw none at e) ∙ sym none

  not_above : (norm ⋖ row_sum q i) ≡ false → Leading q (i + 1) norm row
  unfolding max_num
  not_above e =
      record {
        is = iter_turn _ i +0 norm norm l.is (where_not norm (row_sum q i) _ (equals_itself norm (nonneg_number norm l.sign)) e);
        sign = l.sign;
        low = omega (arith, l.low);
        has = λ h. ⊎_elim (λ (g : 0 < i). l.has g) (λ (g : i ≤ 0). first_row g e) (lt_or_le 0 i);
        most = below_more (λ (j : ℕ). T (row_sum q j ⩽ norm)) i l.most (elim (⩽_or_⋖ (row_sum q i) norm (nonneg_number _ p) (nonneg_number norm l.sign)) [ inl g ↦ g | inr g ↦ absurd (subst T e g) ]);
        first = l.first;
      }

  by : (b : Bool) → (norm ⋖ row_sum q i) ≡ b → Leading q (i + 1) (cond b (row_sum q i) norm) (cond b i row)
  by true e = above e
  by false e = not_above e

  pub leading_turn : (s norm₁ : Float) (row₁ : ℕ) → s ≡ row_sum q i → (norm₁ ≡ cond (norm ⋖ s) s norm) × (row₁ ≡ cond (norm ⋖ s) i row) → Leading q (i + 1) norm₁ row₁
  leading_turn s norm₁ row₁ e d = rw (d.0, d.1, e) (by (norm ⋖ row_sum q i) refl)

-- after the last row
module _ {q : Csr} {norm : Float} {row : ℕ} (l : Leading q q.n norm row) (some : 0 < q.n) where
  pub norm_is : norm ≡ row_sum_norm q
  unfolding row_sum_norm
  norm_is = l.is

  equal : eq (row_sum q row) norm ≡ true
  unfolding ne
  equal = rw (l.has some) (not-false (eq norm norm) (equals_itself norm (nonneg_number norm l.sign)))

  apart : (j : ℕ) → j < row → eq (row_sum q j) norm ≡ false
  apart j h = go (eq (row_sum q j) norm) (⋖_apart (row_sum q j) norm (l.first j h))
    where
      go : (b : Bool) → (T b → ⊥) → b ≡ false
      go true f = absurd (f tt)
      go false f = refl

  pub row_is : row ≡ largest_row q
  unfolding largest_row
  row_is = rw (← norm_is) (found_at {p = λ j. eq (row_sum q j) norm} (record { none = apart }) q.n (omega (arith, l.low)) equal)

pub leading_end : {q : Csr} {i : ℕ} {norm : Float} {row : ℕ} → Leading q i norm row → i ≡ q.n → 0 < q.n → (norm ≡ row_sum_norm q) × (row ≡ largest_row q)
leading_end {q} {i} {norm} {row} l e h = let m = subst (λ (j : ℕ). Leading q j norm row) e l in (norm_is m h, row_is m h)
