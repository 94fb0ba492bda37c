-- 23 never occurs in the start of a paused run or in its steps (document 02, N14): put back between 22 and 24, it changes no first refusal, of any state; and no check of
-- theirs has that number. Assumes nothing.
use mathlib.Core.Path.{◌≡◌, refl, sym, ap, ◌∙◌}
use mathlib.Core.List.{List, ◌∷◌, ◌++◌, append_assoc}
use Prim.Native.Nat.{ℕ, ◌+◌, ◌*◌}
use lib.ListN.{length}
use lib.Ieee.{Float, nan}
use Rattle.checks.specs.First.{Check, refuse, first, before}
use Rattle.checks.proofs.First.{sound_cons, never_holds}
use Rattle.checks.proofs.Numbers.{before_append}
use Rattle.general_operator.specs.Csr.{row_sum_norm}
use Rattle.combination.specs.Combination.{further}
use Rattle.combination.specs.Checks.{count_checks, time_checks, length_checks, finite_checks, magnitude_checks, memory_checks, vector_checks_by, vector_checks}
use Rattle.krylov_job.specs.KrylovCall.{bound, dimension, option_checks, bound_checks, run_checks, krylov_checks_by, krylov_checks}
use Rattle.krylov_job.specs.declared.KrylovPhiOptions.{KrylovPhiOptions}
use Rattle.paused_run.specs.Paused.{Job, rows, degree, need_of, scaling_of, field_checks, start_checks, Input, tol_in, options_in, over, other_checks, step_checks}
use Rattle.paused_run.specs.declared.PausedRun.{PausedRun}
use Rattle.demand_3.proofs.Never23.{InRange, check_23, never_23}
use Rattle.checks.specs.declared.Reason.TheVariants.{NormRange, RunEnded}

-- 21 and 22 with eta
abbrev magnitude_of : Job → Float → List Check
magnitude_of j eta = magnitude_checks (rows j) (further (rows j) j.w) j.tau (degree j) eta

-- 24, 26, and 26 of the field
abbrev behind_22 : Job → ℕ → ℕ → ℕ → List Check
behind_22 j m memory field = bound_checks (bound j.tau (row_sum_norm j.g.matrix)) ++ (memory_checks memory (need_of j m) ++ field_checks field (rows j + degree j))

-- ---- the start
module _ (o : KrylovPhiOptions) (j : Job) (h : InRange j.g) (output memory field : ℕ) where
  abbrev up_to_22 : List Check
  up_to_22 = vector_checks (rows j) (time_checks j.tau) j.count j.w output ++ (option_checks o (dimension (rows j) (degree j) o.m) ++ magnitude_of j (scaling_of j).eta)

  start_parts : start_checks o j output memory field ≡ (j.g.checks ++ (up_to_22 ++ (bound_checks (bound j.tau (row_sum_norm j.g.matrix)) ++ memory_checks memory (need_of j o.m)))) ++ field_checks field (rows j + degree j)
  unfolding start_checks krylov_checks krylov_checks_by run_checks vector_checks vector_checks_by count_checks time_checks length_checks finite_checks option_checks magnitude_checks
  start_parts = refl

  pub start_never_23 : first (j.g.checks ++ (up_to_22 ++ (check_23 j.g ∷ behind_22 j o.m memory field))) ≡ first (start_checks o j output memory field)
  unfolding vector_checks vector_checks_by count_checks time_checks length_checks finite_checks option_checks magnitude_checks bound_checks memory_checks
  start_never_23 = never_23 j.g h up_to_22 (behind_22 j o.m memory field) ∙ sym (ap first (start_parts ∙ append_assoc j.g.checks _ (field_checks field (rows j + degree j))))

  pub start_no_number : before NormRange (start_checks o j output memory field) ≡ start_checks o j output memory field
  unfolding before vector_checks vector_checks_by count_checks time_checks length_checks finite_checks option_checks magnitude_checks bound_checks memory_checks field_checks
  start_no_number =
      ap (before NormRange) (start_parts ∙ append_assoc j.g.checks _ (field_checks field (rows j + degree j)))
      ∙ before_append NormRange j.g.checks _ h.unnumbered
      ∙ sym (start_parts ∙ append_assoc j.g.checks _ (field_checks field (rows j + degree j)))

-- ---- a step on any state
module _ (s : PausedRun) (field : ℕ) (i : Input) (h : InRange i.job.g) where
  abbrev j : Job
  j = i.job

  abbrev of_lengths : List Check
  of_lengths = length_checks (length i.output) (rows j) (length j.w) (j.count * rows j) ++ other_checks s j

  abbrev step_up_to_22 : List Check
  step_up_to_22 =
      vector_checks_by (time_checks j.tau) of_lengths j.count j.w ++ (option_checks (options_in s (tol_in i.tolerance s)) (dimension (rows j) (degree j) s.m) ++ magnitude_of j s.eta)

  step_parts : step_checks s field i
      ≡ refuse RunEnded (over s) nan ∷ ((j.g.checks ++ (step_up_to_22 ++ (bound_checks (bound j.tau (row_sum_norm j.g.matrix)) ++ memory_checks (length i.memory) (need_of j s.m)))) ++ field_checks field (rows j + degree j))
  unfolding step_checks krylov_checks_by run_checks vector_checks_by count_checks time_checks length_checks other_checks finite_checks option_checks magnitude_checks
  step_parts = refl

  in_a_row : step_checks s field i ≡ (refuse RunEnded (over s) nan ∷ j.g.checks) ++ (step_up_to_22 ++ behind_22 j s.m (length i.memory) field)
  unfolding vector_checks_by count_checks time_checks length_checks other_checks finite_checks option_checks magnitude_checks bound_checks memory_checks
  in_a_row = step_parts ∙ ap (λ (l : List Check). refuse RunEnded (over s) nan ∷ l) (append_assoc j.g.checks _ (field_checks field (rows j + degree j)))

  pub step_never_23 : first (refuse RunEnded (over s) nan ∷ (j.g.checks ++ (step_up_to_22 ++ (check_23 j.g ∷ behind_22 j s.m (length i.memory) field)))) ≡ first (step_checks s field i)
  step_never_23 =
      never_holds (check_23 j.g) (refuse RunEnded (over s) nan ∷ j.g.checks) step_up_to_22 (behind_22 j s.m (length i.memory) field) (λ e. h.ranged (sound_cons _ _ _ _ e).1)
      ∙ ap first (sym in_a_row)

  pub step_no_number : before NormRange (step_checks s field i) ≡ step_checks s field i
  unfolding before vector_checks_by count_checks time_checks length_checks other_checks finite_checks option_checks magnitude_checks bound_checks memory_checks field_checks
  step_no_number =
      ap (before NormRange) in_a_row
      ∙ ap (λ (l : List Check). refuse RunEnded (over s) nan ∷ l) (before_append NormRange j.g.checks (step_up_to_22 ++ behind_22 j s.m (length i.memory) field) h.unnumbered)
      ∙ sym in_a_row
