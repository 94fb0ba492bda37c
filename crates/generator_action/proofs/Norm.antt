-- The norm of a generator whose checks passed is finite and not negative: sums of sizes are never negative (document 02, N14). Assumes nothing.
use mathlib.Core.Path.{◌≡◌, refl}
use mathlib.Core.Bool.{true}
use mathlib.Core.Option.{none, some}
use Prim.Native.Nat.{ℕ, zero, suc, ◌<◌}
use native.Mathlib.Nat.{le_refl}
use native.Mathlib.Omega.{arith}
use lib.Dec.{T}
use Rattle.lists.specs.Loop.{iter}
use Rattle.doubles.specs.F64.{+0, is_finite, nonneg, max_num}
use Rattle.doubles.proofs.Extremes.{replaced_nonneg}
use Rattle.doubles.proofs.Sizes.{zero_nonneg}
use Rattle.checks.specs.First.{first}
use Rattle.checks.proofs.First.{sound_append}
use Rattle.general_operator.specs.Csr.{Csr, row_sum, row_sum_norm}
use Rattle.general_operator.specs.Checks.{matrix_checks}
use Rattle.general_operator.proofs.Sound.{sound_valid, sound_finite}
use Rattle.generator_action.specs.Mass.{Mass, normalise, quotients, mass_checks, bound_checks, generator_checks}
use Rattle.generator_action.specs.Answer.{largest_row, unless_refused, matrix_answer}
use Rattle.generator_action.proofs.Ways.{mass_sound, entries_nonneg, quotients_nonneg}
use Rattle.generator_action.proofs.Answered.{norm_told}
use Rattle.checks.specs.Reasons.{Sound}
use Rattle.generator_action.specs.Answer.{Norm}

largest_nonneg : (q : Csr) (i : ℕ) → ((k : ℕ) → k < i → T (nonneg (row_sum q k))) → T (nonneg (iter (λ j m. max_num m (row_sum q j)) i +0))
unfolding iter max_num
largest_nonneg q zero h = zero_nonneg
largest_nonneg q (suc i) h = replaced_nonneg _ (row_sum q i) _ (largest_nonneg q i (λ k l. h k (omega arith))) (h i (le_refl (suc i)))

pub norm_nonneg : (q : Csr) → ((i : ℕ) → i < q.n → T (nonneg (row_sum q i))) → T (nonneg (row_sum_norm q))
unfolding row_sum_norm
norm_nonneg q h = largest_nonneg q q.n h

pub sums_nonneg : (a : Csr) (mass : Mass) → Sound ≡ first (generator_checks a mass) → (i : ℕ) → i < (quotients a mass).n → T (nonneg (row_sum (quotients a mass) i))
unfolding generator_checks bound_checks quotients normalise
sums_nonneg a none e i l = let s = sound_append (matrix_checks a) _ e in entries_nonneg (sound_valid a s.0) (λ k h. sound_finite a s.0 k h) i l
sums_nonneg a (some mass) e i l =
    let s = sound_append (matrix_checks a) _ e in
    let m = sound_append (mass_checks a mass) _ s.1 in
    quotients_nonneg (sound_valid a s.0) (λ k h. sound_finite a s.0 k h) mass (mass_sound a mass m.0) i l

-- 10 or 11 leaves it finite
pub norm_in_range : (a : Csr) (mass : Mass) → Sound ≡ first (generator_checks a mass) → (is_finite (row_sum_norm (quotients a mass)) ≡ true) × T (nonneg (row_sum_norm (quotients a mass)))
unfolding matrix_answer unless_refused
norm_in_range a mass e = ((norm_told a mass {r = Norm (row_sum_norm (quotients a mass)) (largest_row (quotients a mass))} (rw (← e) refl) refl).finite, norm_nonneg (quotients a mass) (sums_nonneg a mass e))
