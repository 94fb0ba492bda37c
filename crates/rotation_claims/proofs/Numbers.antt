-- Which numbers the checks of a start and of a step, and the answer of a substep, do not have. Assumes nothing.
use Rattle.std.specs.Prelude.{if◌then◌else◌}
use mathlib.Core.Path.{◌≡◌, refl, sym, ap, ◌∙◌}
use mathlib.Core.Logic.{inl, inr}
use mathlib.Core.Bool.{Bool, true, false}
use mathlib.Core.List.{List, [], ◌∷◌, ◌++◌, append_assoc}
use Prim.Native.Nat.{ℕ, ◌+◌, ◌*◌}
use lib.Dec.{ltb}
use lib.ListN.{length}
use lib.Ieee.{Float, nan}
use Rattle.lists.specs.Walk.{Turn, on, out}
use Rattle.checks.specs.First.{Check, refuse, first, Checked, before}
use Rattle.checks.proofs.First.{unless, first_cons}
use Rattle.checks.proofs.Numbers.{before_append, not_numbered}
use Rattle.combination.specs.Checks.{count_checks, time_checks, length_checks, finite_checks, magnitude_checks, memory_checks, vector_checks_by}
use Rattle.krylov_advance.specs.Run.{State, End, finished, refused}
use Rattle.krylov_job.specs.KrylovCall.{option_checks, bound_checks, run_checks, krylov_checks_by, krylov_checks}
use Rattle.krylov_job.specs.declared.KrylovPhiOptions.{KrylovPhiOptions}
use Rattle.paused_run.specs.Paused.{Job, rows, degree, field_checks, StepRefused, Input, tol_in, options_in, over, other_checks, step_checks, moved, verdict, substep_of, after_substep, step_unless, step}
use Rattle.paused_run.specs.declared.PausedRun.{PausedRun}
use Rattle.paused_claims.specs.Alike.{number_in}
use Rattle.paused_claims.proofs.Standing.{Refuses, substep_refuses}
use Rattle.checks.specs.Reasons.{number, Refused}
use Rattle.std.specs.Prelude.{Ok, Err}
use Rattle.checks.specs.declared.Reason.TheVariants.{NormRange, SubstepLimit, RunEnded, UnitFull}
use Rattle.checks.specs.declared.Reason.{Reason}

-- k is none of the numbers of a start's own checks
module _ (o : KrylovPhiOptions) (j : Job) (output memory : ℕ) where
  abbrev own : List Check
  own = krylov_checks j.g j.tau j.count j.w o output memory

  pub none_32 : before UnitFull j.g.checks ≡ j.g.checks → before UnitFull own ≡ own
  unfolding before krylov_checks krylov_checks_by vector_checks_by count_checks time_checks length_checks finite_checks option_checks run_checks magnitude_checks bound_checks memory_checks
  none_32 h = before_append UnitFull j.g.checks _ h

  pub none_23 : before NormRange j.g.checks ≡ j.g.checks → before NormRange own ≡ own
  unfolding before krylov_checks krylov_checks_by vector_checks_by count_checks time_checks length_checks finite_checks option_checks run_checks magnitude_checks bound_checks memory_checks
  none_23 h = before_append NormRange j.g.checks _ h

-- nor of a step's
pub step_none_23 : (s : PausedRun) (field : ℕ) (i : Input) → before NormRange i.job.g.checks ≡ i.job.g.checks → before NormRange (step_checks s field i) ≡ step_checks s field i
unfolding before step_checks krylov_checks_by vector_checks_by count_checks time_checks length_checks other_checks finite_checks option_checks run_checks magnitude_checks bound_checks memory_checks field_checks
step_none_23 s field i h =
    let j = i.job in
    ap (λ (l : List Check). refuse RunEnded (over s) nan ∷ l)
    (ap (before NormRange) (append_assoc j.g.checks _ (field_checks field (rows j + degree j))) ∙ before_append NormRange j.g.checks _ h ∙ sym (append_assoc j.g.checks _ (field_checks field (rows j + degree j))))

-- 31 is the first alone
abbrev behind : PausedRun → ℕ → Input → List Check
behind s field i =
    let j = i.job in
    krylov_checks_by j.g j.tau j.count j.w s.eta (length_checks (length i.output) (rows j) (length j.w) (j.count * rows j) ++ other_checks s j) (options_in s (tol_in i.tolerance s)) (length i.memory)
    ++ field_checks field (rows j + degree j)

behind_none : (s : PausedRun) (field : ℕ) (i : Input) → before RunEnded i.job.g.checks ≡ i.job.g.checks → before RunEnded (behind s field i) ≡ behind s field i
unfolding before krylov_checks_by vector_checks_by count_checks time_checks length_checks other_checks finite_checks option_checks run_checks magnitude_checks bound_checks memory_checks field_checks
behind_none s field i h =
    let j = i.job in
    ap (before RunEnded) (append_assoc j.g.checks _ (field_checks field (rows j + degree j))) ∙ before_append RunEnded j.g.checks _ h ∙ sym (append_assoc j.g.checks _ (field_checks field (rows j + degree j)))

pub only_over : (s : PausedRun) (field : ℕ) (i : Input) → before RunEnded i.job.g.checks ≡ i.job.g.checks → over s ≡ false → (j : Reason) (x : Float) → number j ≡ number RunEnded → Refused j x ≡ first (step_checks s field i) → ⊥
unfolding step_checks
only_over s field i h e j x n r = not_numbered RunEnded (behind s field i) (behind_none s field i h) n (r ∙ first_cons RunEnded (over s) nan (behind s field i) ∙ ap (λ (b : Bool). unless b RunEnded nan (first (behind s field i))) e)

-- ---- nor has a substep's answer one of them: it is 27, 28 or 29
pub verdict_number : (s : PausedRun) (tol : Float) (t : State) (o : Turn State End) → Refuses t o → (k : ℕ) → (k ≡ 0 → ⊥) → (k ≡ 27 → ⊥) → (k ≡ 28 → ⊥) → (k ≡ 29 → ⊥) → number_in (verdict s tol o) ≡ k → ⊥
unfolding verdict
verdict_number s tol t (on n) h k n0 n27 n28 n29 e = go (ltb n.report.substeps s.limit) e
  where
    go : (b : Bool) → number_in (if b then Ok (moved s tol n n.report false) else StepRefused SubstepLimit n.report.est_error (moved s tol n n.report true)) ≡ k → ⊥
    go true e = n0 (sym e)
    go false e = n27 (sym e)
verdict_number s tol t (out (finished n)) h k n0 n27 n28 n29 e = n0 (sym e)
verdict_number s tol t (out (refused r x n)) h k n0 n27 n28 n29 e = elim h.1 [
  | inl a ↦ n28 (sym e ∙ ap number a)
  | inr a ↦ n29 (sym e ∙ ap number a)
]

-- by a step's checks
step_by : (s : PausedRun) (y : List Float) (i : Input) (c : Checked) (k : ℕ) → first (step_checks s (length y) i) ≡ c → ((j : Reason) (x : Float) → number j ≡ k → Refused j x ≡ first (step_checks s (length y) i) → ⊥)
    → (k ≡ 0 → ⊥) → (k ≡ 27 → ⊥) → (k ≡ 28 → ⊥) → (k ≡ 29 → ⊥) → number_in (step_unless c s y i).answer ≡ k → ⊥
unfolding step_unless after_substep
step_by s y i (Err r) k ec h n0 n27 n28 n29 e = h r.reason r.value e (sym ec)
step_by s y i (Ok _) k ec h n0 n27 n28 n29 e = verdict_number s (tol_in i.tolerance s) _ (substep_of s y i) (substep_refuses _ _) k n0 n27 n28 n29 e

pub step_number : (s : PausedRun) (y : List Float) (i : Input) (k : ℕ) → ((j : Reason) (x : Float) → number j ≡ k → Refused j x ≡ first (step_checks s (length y) i) → ⊥)
    → (k ≡ 0 → ⊥) → (k ≡ 27 → ⊥) → (k ≡ 28 → ⊥) → (k ≡ 29 → ⊥) → number_in (step s y i).answer ≡ k → ⊥
unfolding step
step_number s y i k h n0 n27 n28 n29 e = step_by s y i (first (step_checks s (length y) i)) k refl h n0 n27 n28 n29 e
