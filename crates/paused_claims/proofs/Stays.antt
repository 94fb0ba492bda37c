-- What stays of a paused run, whatever comes at its steps. Assumes nothing.
use Rattle.std.specs.Prelude.{if◌then◌else◌}
use mathlib.Core.Path.{◌≡◌, refl, sym, ap, ◌∙◌}
use mathlib.Core.Logic.{◌⊎◌, inl, inr}
use mathlib.Core.Bool.{Bool, true, false}
use mathlib.Core.List.{List}
use lib.Dec.{ltb}
use lib.ListN.{length}
use lib.Ieee.{Float}
use Rattle.lists.specs.Walk.{Turn, on, out}
use Rattle.checks.specs.First.{first, Checked, same}
use Rattle.krylov_advance.specs.Run.{State, End, finished, refused}
use Rattle.krylov_job.specs.declared.KrylovPhiOptions.{KrylovPhiOptions}
use Rattle.paused_run.specs.Paused.{Job, StepAnswer, StepRefused, Input, tol_in, setting_of, resumed, moved, step_checks, verdict, substep_of, after_substep, step_unless, step}
use Rattle.paused_run.specs.declared.PausedRun.{PausedRun}
use Rattle.paused_claims.specs.History.{Past, run_in, in_force, tol_kept, Left}
use Rattle.paused_claims.specs.History as history
use Rattle.paused_claims.specs.Stays.{Stays, StepStays, LeftStays}
use Rattle.paused_claims.proofs.Standing.{Refuses, substep_refuses, tol_is, Resting, Moving, left_stands}
use Rattle.checks.specs.Reasons.{Sound}
use Rattle.std.specs.Prelude.{Ok, Err}
use Rattle.checks.specs.declared.Reason.TheVariants.{SubstepLimit}
use Rattle.checks.specs.declared.Reason.{Reason}

module _ (s : PausedRun) where
  pub stays_here : Stays s s
  stays_here = record { eta = refl; factors = refl; norm = refl; m = refl; limit = refl; n = refl; count = refl }

  verdict_stays : (tol : Float) (st : Turn State End) → Stays s (run_in (verdict s tol st))
  unfolding verdict
  verdict_stays tol (on t) = go (ltb t.report.substeps s.limit)
    where
      go : (b : Bool) → Stays s (run_in (if b then Ok (moved s tol t t.report false) else StepRefused SubstepLimit t.report.est_error (moved s tol t t.report true)))
      go true = record { eta = refl; factors = refl; norm = refl; m = refl; limit = refl; n = refl; count = refl }
      go false = record { eta = refl; factors = refl; norm = refl; m = refl; limit = refl; n = refl; count = refl }
  verdict_stays tol (out (finished t)) = record { eta = refl; factors = refl; norm = refl; m = refl; limit = refl; n = refl; count = refl }
  verdict_stays tol (out (refused k x t)) = record { eta = refl; factors = refl; norm = refl; m = refl; limit = refl; n = refl; count = refl }

  verdict_tol : (tol : Float) (u : State) (st : Turn State End) → Refuses u st → (run_in (verdict s tol st)).tol ≡ tol_kept Sound (verdict s tol st) s.tol tol
  unfolding verdict
  verdict_tol tol u (on t) h = go (ltb t.report.substeps s.limit)
    where
      pick : Bool → StepAnswer
      pick b = if b then Ok (moved s tol t t.report false) else StepRefused SubstepLimit t.report.est_error (moved s tol t t.report true)

      go : (b : Bool) → (run_in (pick b)).tol ≡ tol_kept Sound (pick b) s.tol tol
      go true = refl
      go false = refl
  verdict_tol tol u (out (finished t)) h = refl
  verdict_tol tol u (out (refused k x t)) (e, n) =
      let z : same k SubstepLimit ≡ false = elim n [ inl a ↦ ap (λ (r : Reason). same r SubstepLimit) a | inr a ↦ ap (λ (r : Reason). same r SubstepLimit) a ] in
      ap (λ (b : Bool). if b then tol else s.tol) (sym z)

  module _ (y : List Float) (i : Input) where
    stays_by : (c : Checked) → Stays s (run_in (step_unless c s y i).answer)
    unfolding step_unless after_substep
    stays_by (Err r) = stays_here
    stays_by (Ok _) = verdict_stays (tol_in i.tolerance s) (substep_of s y i)

    tol_by : (c : Checked) → (run_in (step_unless c s y i).answer).tol ≡ tol_kept c (step_unless c s y i).answer s.tol (in_force i.tolerance s.tol)
    unfolding step_unless after_substep
    tol_by (Err r) = refl
    tol_by (Ok _) =
        verdict_tol (tol_in i.tolerance s) (resumed s y) (substep_of s y i) (substep_refuses (setting_of i.job s.eta s.norm (tol_in i.tolerance s) s.m) (resumed s y))
        ∙ ap (tol_kept Sound (verdict s (tol_in i.tolerance s) (substep_of s y i)) s.tol) (tol_is i.tolerance s)

    pub step_stays : StepStays s y i
    unfolding step
    step_stays = record { stays = stays_by (first (step_checks s (length y) i)); tol = tol_by (first (step_checks s (length y) i)) }

stays_on : {s t u : PausedRun} → Stays s t → Stays t u → Stays s u
stays_on a b =
    record {
      eta = b.eta ∙ a.eta;
      factors = b.factors ∙ a.factors;
      norm = b.norm ∙ a.norm;
      m = b.m ∙ a.m;
      limit = b.limit ∙ a.limit;
      n = b.n ∙ a.n;
      count = b.count ∙ a.count;
    }

began_stays : {o : KrylovPhiOptions} {j : Job} {p : Past} → Left o j p → Stays p.began p.run
began_stays (history.started output memory field {s} e) = stays_here s
began_stays (history.stepped {p} l i) = stays_on (began_stays l) (step_stays p.run p.field i).stays

tol_told : {o : KrylovPhiOptions} {j : Job} {p : Past} → Resting o j p ⊎ Moving o j p → p.run.tol ≡ p.tol
tol_told (inl h) = ap (λ (r : PausedRun). r.tol) h.run ∙ sym h.tol
tol_told (inr h) = ap (λ (r : PausedRun). r.tol) h.stood.run

pub left_stays : {o : KrylovPhiOptions} {j : Job} {p : Past} → Left o j p → LeftStays p
left_stays l = record { stays = began_stays l; tol = tol_told (left_stands l) }
