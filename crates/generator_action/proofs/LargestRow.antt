-- The row that the answer to a matrix names (document 02, N1): it is a row, its sum is the norm, no sum is above the norm and every earlier one below it,
-- and where all sums are 0 it is row 0. Assumes nothing.
use mathlib.Core.Path.{◌≡◌, refl, sym, subst, ◌∙◌}
use mathlib.Core.Bool.{cond}
use mathlib.Core.Logic.{inl, inr}
use Prim.Native.Nat.{ℕ, zero, suc, ◌+◌, ◌≤◌, ◌<◌}
use native.Mathlib.Nat.{le_refl}
use native.Mathlib.Omega.{arith}
use lib.Dec.{T}
use lib.Ieee.{Float}
use Rattle.lists.proofs.Bounds.{lt_or_le}
use Rattle.doubles.specs.F64.{◌⋖◌, ◌⩽◌, +0, nonneg}
use Rattle.doubles.proofs.Order.{nonneg_number}
use Rattle.doubles.proofs.Sizes.{zero_nonneg}
use Rattle.doubles.proofs.Total.{⩽_refl, ⋖_not}
use Rattle.checks.specs.First.{first}
use Rattle.checks.proofs.First.{sound_append}
use Rattle.general_operator.specs.Csr.{Csr, row_sum, row_sum_norm}
use Rattle.general_operator.specs.Checks.{matrix_checks}
use Rattle.general_operator.proofs.Sound.{sound_valid}
use Rattle.generator_action.specs.Mass.{Mass, quotients, generator_checks}
use Rattle.generator_action.specs.Answer.{largest_row}
use Rattle.generator_action.proofs.Quotients.{quotients_valid}
use Rattle.generator_action.proofs.Norm.{sums_nonneg}
use Rattle.generator_action.proofs.Leading.{Leading, leading_start, leading_turn, leading_end}
use Rattle.checks.specs.Reasons.{Sound}

pub record FirstLargest (q : Csr) : Type 0 where
  pub below : largest_row q < q.n
  pub most : (j : ℕ) → j < q.n → T (row_sum q j ⩽ row_sum_norm q)
  pub has : row_sum q (largest_row q) ≡ row_sum_norm q
  pub earlier : (j : ℕ) → j < largest_row q → T (row_sum q j ⋖ row_sum_norm q)

module _ (q : Csr) (p : (i : ℕ) → i < q.n → T (nonneg (row_sum q i))) (some : 0 < q.n) where
  -- some sum leads after each row
  record Led (i : ℕ) : Type 0 where
    norm : Float
    row : ℕ
    leads : Leading q i norm row

  led_next : {i : ℕ} → i < q.n → Led i → Led (i + 1)
  led_next {i} h l =
      record {
        norm = cond (l.norm ⋖ row_sum q i) (row_sum q i) l.norm;
        row = cond (l.norm ⋖ row_sum q i) i l.row;
        leads = leading_turn l.leads (p i h) (row_sum q i) _ _ refl (refl, refl);
      }

  led : (i : ℕ) → i ≤ q.n → Led i
  led zero h = record { norm = +0; row = 0; leads = leading_start q }
  led (suc i) h = subst Led (omega arith) (led_next h (led i (omega arith)))

  pub first_largest : FirstLargest q
  first_largest =
      let l = led q.n (le_refl _) in
      let e = leading_end l.leads refl some in
      record {
        below = rw (← e.1) (omega (arith, l.leads.low));
        most = λ j h. rw (← e.0) (l.leads.most j h);
        has = rw (← e.1) (l.leads.has some ∙ e.0);
        earlier = λ j h. rw (← e.0) (l.leads.first j (rw (← e.1) at h));
      }

-- of every generator whose checks passed
pub largest_row_is : (a : Csr) (mass : Mass) → Sound ≡ first (generator_checks a mass) → FirstLargest (quotients a mass)
unfolding generator_checks
largest_row_is a mass e = first_largest (quotients a mass) (sums_nonneg a mass e) (quotients_valid (sound_valid a (sound_append (matrix_checks a) _ e).0) mass).some

-- all sums 0: row 0
pub all_zero : (q : Csr) → FirstLargest q → ((i : ℕ) → i < q.n → row_sum q i ≡ +0) → largest_row q ≡ 0
all_zero q l z = elim (lt_or_le 0 (largest_row q)) [ inl h ↦ absurd (no h) | inr h ↦ omega arith ]
  where
    no : 0 < largest_row q → ⊥
    no h =
        let e : row_sum_norm q ≡ +0 = sym l.has ∙ z (largest_row q) l.below in
        let g : T (+0 ⋖ +0) = rw (z 0 (omega (arith, l.below)), e) at (l.earlier 0 h) in
        ⋖_not +0 +0 g (⩽_refl +0 (nonneg_number +0 zero_nonneg))
