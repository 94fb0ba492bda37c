-- Steps that give the same. Assumes nothing.
use Rattle.std.specs.Prelude.{if◌then◌else◌, Some, None}
use mathlib.Core.Path.{◌≡◌, refl, subst}
use mathlib.Core.Bool.{Bool, true, false}
use mathlib.Core.List.{List}
use lib.Dec.{ltb}
use lib.ListN.{length}
use lib.Ieee.{Float}
use Rattle.lists.specs.Walk.{Turn, on, out}
use Rattle.checks.specs.First.{first, Checked}
use Rattle.krylov_advance.specs.Run.{State, End, finished, refused}
use Rattle.paused_run.specs.Paused.{StepAnswer, StepRefused, Input, moved, over, other_checks, step_checks, resumed, verdict, substep_of, after_substep, step_unless, step}
use Rattle.paused_run.specs.declared.PausedRun.{PausedRun}
use Rattle.paused_claims.specs.History.{run_in}
use Rattle.paused_claims.specs.Alike.{SameStep, Blind, number_in, double_in, run_with_tol, bringing, SameButTol, NewTol}
use Rattle.checks.specs.Reasons.{Sound}
use Rattle.std.specs.Prelude.{Ok, Err}
use Rattle.checks.specs.declared.Reason.TheVariants.{SubstepLimit}

-- ---- what was lent does not matter
pub blind : (s : PausedRun) (y : List Float) → Blind s y
unfolding step step_unless after_substep
blind s y i k t j a b =
    subst (λ (c : Checked). SameStep (step_unless c s y i) (step s y k)) a
    (subst (λ (c : Checked). SameStep (step_unless Sound s y i) (step_unless c s y k)) b
    (record {
      answer = λ l. (step_unless Sound s y (record { tolerance = t l; job = j l; output = i.output; memory = i.memory })).answer;
      output = λ l. (step_unless Sound s y (record { tolerance = t l; job = j l; output = i.output; memory = i.memory })).output;
      field = λ l. (step_unless Sound s y (record { tolerance = t l; job = j l; output = i.output; memory = i.memory })).field;
    }))

-- ---- a new tol
module _ (s : PausedRun) (y : List Float) (i : Input) (tol : Float) where
  abbrev s₁ : PausedRun
  s₁ = run_with_tol tol s

  verdict_same : (st : Turn State End)
      → (number_in (verdict s tol st) ≡ number_in (verdict s₁ tol st)) × (double_in (verdict s tol st) ≡ double_in (verdict s₁ tol st)) × (run_with_tol tol (run_in (verdict s tol st)) ≡ run_in (verdict s₁ tol st))
  unfolding verdict
  verdict_same (on t) = go (ltb t.report.substeps s.limit)
    where
      pick : PausedRun → Bool → StepAnswer
      pick r b = if b then Ok (moved r tol t t.report false) else StepRefused SubstepLimit t.report.est_error (moved r tol t t.report true)

      go : (b : Bool) → (number_in (pick s b) ≡ number_in (pick s₁ b)) × (double_in (pick s b) ≡ double_in (pick s₁ b)) × (run_with_tol tol (run_in (pick s b)) ≡ run_in (pick s₁ b))
      go true = (refl, refl, refl)
      go false = (refl, refl, refl)
  verdict_same (out (finished t)) = (refl, refl, refl)
  verdict_same (out (refused k x t)) = (refl, refl, refl)

  same_by : (c : Checked) → SameButTol tol (step_unless c s y (bringing (Some tol) i)) (step_unless c s₁ y (bringing None i))
  unfolding step_unless after_substep resumed
  same_by (Err r) = record { number = refl; double = refl; run = refl; output = refl; memory = refl; field = refl }
  same_by (Ok _) =
      let v = verdict_same (substep_of s y (bringing (Some tol) i)) in
      record { number = v.0; double = v.1; run = v.2; output = refl; memory = refl; field = refl }

  same_checks : first (step_checks s (length y) (bringing (Some tol) i)) ≡ first (step_checks s₁ (length y) (bringing None i))
  unfolding step_checks over other_checks
  same_checks = refl

  same_step : SameButTol tol (step s y (bringing (Some tol) i)) (step s₁ y (bringing None i))
  unfolding step
  same_step = subst (λ (c : Checked). SameButTol tol (step s y (bringing (Some tol) i)) (step_unless c s₁ y (bringing None i))) same_checks (same_by (first (step_checks s (length y) (bringing (Some tol) i))))

pub new_tol : (s : PausedRun) (y : List Float) → NewTol s y
new_tol s y i tol = same_step s y i tol
