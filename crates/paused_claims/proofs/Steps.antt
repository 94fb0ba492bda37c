-- What a step that is not refused early does: one substep more (document 02, N5). Assumes nothing.
use Rattle.std.specs.Prelude.{if◌then◌else◌}
use mathlib.Core.Path.{◌≡◌, refl, sym, ap, ◌∙◌, subst}
use mathlib.Core.Logic.{inl, inr}
use mathlib.Core.Bool.{Bool, true, false, true≢false}
use mathlib.Core.List.{List, [], ◌∷◌, ◌++◌, append-nil}
use Prim.Native.Nat.{ℕ, zero, ◌+◌, ◌-◌}
use native.Mathlib.Omega.{arith}
use borrow.Author.Tests.{ltb-true, ltb-false}
use lib.Dec.{ltb}
use lib.ListN.{length, length-append}
use lib.Ieee.{Float}
use Rattle.lists.specs.Walk.{Turn, on, out}
use Rattle.lists.specs.Window.{window}
use Rattle.doubles.specs.F64.{◌⊖◌, ◌⊘◌, 1f}
use Rattle.vectors.specs.Vectors.{scale}
use Rattle.pow2.specs.declared.Scale.{Scale}
use Rattle.checks.specs.First.{Checked}
use Rattle.combination.specs.Call.{cleared}
use Rattle.gram_schmidt.specs.Basis.{Setting, Basis, arnoldi, norm2}
use Rattle.trial_steps.specs.Trials.{Trying, Tried, accepted, stuck, trials}
use Rattle.krylov_advance.specs.Run.{State, End, finished, refused, applied_of, columns_of, advance, unfinished, standing, settle, substep, relative_report, clamp_m}
use Rattle.krylov_advance.specs.declared.KrylovPhiReport.{KrylovPhiReport}
use Rattle.krylov_job.specs.KrylovCall.{dimension, krylov_need}
use Rattle.krylov_job.specs.declared.KrylovPhiOptions.{KrylovPhiOptions}
use Rattle.paused_run.specs.Paused.{Job, rows, degree, PausedCall, StepAnswer, StepRefused, Input, moved, stopped, over, verdict, after_substep, step_unless, step}
use Rattle.paused_run.specs.declared.PausedRun.{PausedRun}
use Rattle.demand_3.specs.Trace.{Accepted, accepted_in, made, runs, trace, total, Run, status_of, accepted_by, tried_by, time_of, field_of, estimate_of}
use Rattle.demand_3.specs.Krylov.{euclidean, Counted, Failed}
use Rattle.demand_3.proofs.Runs.{trace_append}
use Rattle.demand_3.proofs.Counts.{reached, basis_of, trials_of, run_recorded}
use Rattle.demand_3.proofs.Attempts.{Judged, run_judged, run_told}
use Rattle.demand_3.proofs.Moments.{run_counted, counted_relative, Stands, run_stands}
use Rattle.paused_claims.specs.History.{dimension_in, made_with, Past, call_on, run_in, in_force, tol_kept, one_more, next, Left, run_so_far, Steps}
use Rattle.paused_claims.specs.Start.{need_in}
use Rattle.paused_claims.specs.Steps.{proposed_of, OneMore, Fails, Outcome, Done, StepClaim}
use Rattle.paused_claims.proofs.Proposed.{run_proposed}
use Rattle.paused_claims.proofs.Standing.{report_by, passed, standing_as, first_norm, reached_field, each_one, answer_is, verdict_is, run_with, Stood, Made, substep_refuses, left_stands}
use Rattle.paused_claims.proofs.Standing as standing
use Rattle.paused_claims.proofs.Stays.{left_stays}
use Rattle.checks.specs.Reasons.{Sound}
use Rattle.checks.specs.declared.Reason.TheVariants.{SubstepLimit, LengthsRejected, NoInnerPlan}
use Rattle.checks.specs.declared.Reason.{Reason}
use Rattle.std.specs.Prelude.{Ok}

-- ---- one substep: accepted where it does not refuse; 28 tells its tol, 29 the argument of its last trial
abbrev Told : Setting → Turn Trying Tried → Turn State End → List Accepted → Type 0
Told q tr (on t) l = (a : Accepted) × (l ≡ a ∷ [])
Told q tr (out (finished t)) l = (a : Accepted) × (l ≡ a ∷ [])
Told q tr (out (refused k x t)) l = (l ≡ []) × (k ≡ LengthsRejected → x ≡ q.tol) × (k ≡ NoInnerPlan → tr ≡ out (stuck x))

standing_told : (q : Setting) (tr : Turn Trying Tried) (t : State) (b : Bool) (a : Accepted) → Told q tr (standing t b) (a ∷ [])
standing_told q tr t true a = (a, refl)
standing_told q tr t false a = (a, refl)

not_both : {A : Type 0} {k : Reason} → k ≡ LengthsRejected → k ≡ NoInnerPlan → A
not_both e g = let z : zero ≡ 1 = cc in absurd (omega (arith, z))

settle_told : (q : Setting) (s : State) (b : Basis) (tr : Turn Trying Tried) → Told q tr (settle q s b tr) (accepted_in q s b tr)
unfolding settle accepted_in
settle_told q s b (on t) = (refl, (λ _. refl), (λ e. not_both refl e))
settle_told q s b (out (stuck arg)) = (refl, (λ e. not_both e refl), (λ _. refl))
settle_told q s b (out (accepted r t f err)) = let n = advance q s (applied_of b) (columns_of b) r t f err in standing_told q (out (accepted r t f err)) n (unfinished n) _

substep_told : (q : Setting) (s : State) → Told q (trials_of q s) (substep q s) (made q s)
unfolding substep made
substep_told q s = settle_told q s (basis_of q s) (trials_of q s)

module _
    (o : KrylovPhiOptions)
    (j : Job)
    (f : Scale)
    (p : Past)
    (i : Input)
    (t : State)
    (m : Made o j f p.run p.field p.tol p.settings i t)
    (h : Stood o j f p.run p.field p.tol p.settings) where
  abbrev tol : Float
  tol = p.tol

  abbrev ps : List Setting
  ps = p.settings

  abbrev s : PausedRun
  s = p.run

  abbrev now : Float
  now = in_force i.tolerance tol

  abbrev q : Setting
  q = made_with o j now i.job

  abbrev before : Run
  before = run_with o j f ps

  abbrev u : Run
  u = run_with o j f (ps ++ (q ∷ []))

  abbrev limit : ℕ
  limit = o.max_substeps

  abbrev s₁ : PausedRun
  s₁ = standing_as o j f tol (on t)

  -- the substeps accepted
  more : accepted_by u ≡ accepted_by before ++ made q t
  unfolding trace runs
  more = trace_append ps (q ∷ []) _ ∙ ap (λ (st : Turn State End). accepted_by before ++ trace (q ∷ []) st) m.now.status ∙ ap (λ (l : List Accepted). accepted_by before ++ l) (append-nil (made q t))

  -- what the state before it records
  recorded : (reached (status_of before) ≡ t)
  recorded = ap reached m.now.status

  -- ---- the answer, by where the run stands after it
  module _ (st : Turn State End) (e : status_of u ≡ st) where
    estimate_at : (reached st).report.est_error ≡ estimate_of u
    estimate_at = ap (λ (z : Turn State End). (reached z).report.est_error) (sym e) ∙ (run_recorded u).estimate

    substeps_at : (reached st).report.substeps ≡ length (accepted_by u)
    substeps_at = ap (λ (z : Turn State End). (reached z).report.substeps) (sym e) ∙ (run_recorded u).substeps

    counted_at : Counted (dimension_in o j) limit u (reached st).report
    counted_at =
        subst (λ (z : Turn State End). Counted (dimension_in o j) limit u (reached z).report) e
        (run_counted u (dimension_in o j) limit (each_one (λ p. p.m ≡ dimension_in o j) ps q h.each_m refl) (let l = m.now.below in let k = length-append ps (q ∷ []) in omega (arith, l, k)))

  one_more_of : (a : Accepted) → made q t ≡ a ∷ [] → OneMore before u
  one_more_of a k = record { substep = a; more = more ∙ ap (λ (l : List Accepted). accepted_by before ++ l) k }

  -- 28 and 29
  eleven : {k : Reason} → Failed u k → accepted_by u ≡ accepted_by before → k ≡ LengthsRejected → length (tried_by u) ≡ length (tried_by before) + 11
  eleven g none k =
      let a = g.eleven k in
      let b = ap (λ (l : List Accepted). total (λ x. length x.tried) l) none in
      let c = run_told before in
      let d : (reached (status_of before)).report.rejected + (reached (status_of before)).report.substeps ≡ length (tried_by before) = going (status_of before) m.now.status (run_judged before) in
      omega (arith, a, b, c, d)
    where
      going : (st : Turn State End) → st ≡ on t → Judged (length (tried_by before)) st → (reached st).report.rejected + (reached st).report.substeps ≡ length (tried_by before)
      going (on z) e k = k
      going (out z) e k = let o : zero ≡ 1 = cc in absurd (omega (arith, o))

  last_trials : (x : Float) → trials_of q t ≡ out (stuck x)
      → trials q (euclidean (field_of before)) (proposed_of before) (1f ⊖ time_of before) (arnoldi q (field_of before) (euclidean (field_of before))) ≡ out (stuck x)
  unfolding norm2
  last_trials x k =
      let y = ap (λ (z : State). z.y) (sym recorded) ∙ (run_recorded before).field in
      let b = ap (λ (z : State). z.control.beta) (sym recorded) ∙ (run_recorded before).norm in
      let n = ap (λ (z : State). z.control.next) (sym recorded) ∙ run_proposed before in
      let c = ap (λ (z : State). z.control.time) (sym recorded) ∙ (run_recorded before).time in
      sym (λ l. trials q (b l) (n l) (1f ⊖ c l) (arnoldi q (y l) (b l))) ∙ k

  fails : (k : Reason) (x : Float) (w : State) → Told q (trials_of q t) (out (refused k x w)) (made q t) → Failed u k → Fails q before u s k x (stopped s₁)
  fails k x w told g =
      let none = more ∙ ap (λ (l : List Accepted). accepted_by before ++ l) told.0 ∙ append-nil (accepted_by before) in
      record {
        failed = g;
        none = none;
        of_28 = λ e. (told.1 e, eleven g none e);
        of_29 = λ e. last_trials x (told.2 e);
        marked = record {
          time = ap (λ (r : PausedRun). r.time) (sym m.run);
          next = ap (λ (r : PausedRun). r.next) (sym m.run);
          report = ap (λ (r : PausedRun). r.report) (sym m.run);
          tol = ap (λ (r : PausedRun). r.tol) (sym m.run);
          ended = refl;
        };
      }

  outcome : (st : Turn State End) → status_of u ≡ st → Told q (trials_of q t) st (made q t) → Stands u st → Outcome limit q before u s (verdict s₁ now st)
  unfolding verdict relative_report norm2
  outcome (on z) e (a, k) g = go (ltb z.report.substeps limit) refl
    where
      go : (b : Bool) → ltb z.report.substeps limit ≡ b
          → Outcome limit q before u s (if b then Ok (moved s₁ now z z.report false) else StepRefused SubstepLimit z.report.est_error (moved s₁ now z z.report true))
      go true r =
          let l = ltb-true z.report.substeps limit r in
          inl (record { one = one_more_of a k; goes_on = g; below = let c = substeps_at (on z) e in omega (arith, l, c); estimate = estimate_at (on z) e; ended = refl })
      go false r =
          let l = ltb-false z.report.substeps limit r in
          let c = substeps_at (on z) e in
          let d = (counted_at (on z) e).few_substeps in
          inl (record { number = refl; one = one_more_of a k; goes_on = g; all = omega (arith, l, c, d); told = estimate_at (on z) e; estimate = estimate_at (on z) e; ended = refl })
  outcome (out (finished z)) e (a, k) g = inr (record { one = one_more_of a k; finished = g; estimate = ap (λ (x : Float). x ⊘ first_norm o j f) (estimate_at (out (finished z)) e); ended = refl })
  outcome (out (refused k x z)) e told g = inr (fails k x z told g)

  -- ---- the call
  report_counted : (st : Turn State End) → status_of u ≡ st → Counted (dimension_in o j) limit u (report_by (first_norm o j f) st)
  report_counted (on z) e = counted_at (on z) e
  report_counted (out (finished z)) e = counted_relative u (first_norm o j f) (counted_at (out (finished z)) e)
  report_counted (out (refused k x z)) e = counted_at (out (refused k x z)) e

  abbrev c : PausedCall StepAnswer
  c = after_substep s₁ i (substep q t)

  abbrev last_state : State
  last_state = reached (substep q t)

  handed_back : run_in c.answer ≡ standing_as o j f (tol_kept Sound (verdict s₁ now (substep q t)) tol now) (substep q t)
  handed_back = ap run_in (answer_is o j f tol t i (substep q t)) ∙ verdict_is o j f tol now t (substep q t) (substep_refuses q t)

  field_is : c.field ≡ field_of u
  unfolding after_substep
  field_is = reached_field (substep q t) ∙ ap (λ (z : Turn State End). (reached z).y) (sym m.status) ∙ (run_recorded u).field

  output_is : c.output ≡ window 0 (rows j) (scale f.up (field_of u))
  unfolding after_substep
  output_is = λ k. window 0 (m.same_n k) (scale f.up (field_is k))

  memory_is : c.memory ≡ cleared (need_in o j i.job) i.memory
  unfolding after_substep dimension clamp_m
  memory_is = ap (λ (M : ℕ). cleared (krylov_need (rows i.job) (degree i.job) M i.job.g.stored) i.memory) (λ k. dimension (m.same_n k) (m.same_count k - 1) o.m)

  pub done : p.began.factors ≡ f → Done o j p i u c
  done b =
      record {
        counted = subst (λ (x : KrylovPhiReport). Counted (dimension_in o j) limit u x) (ap (λ (x : PausedRun). x.report) (sym handed_back)) (report_counted (substep q t) m.status);
        time = ap (λ (x : PausedRun). x.time) handed_back ∙ ap (λ (z : Turn State End). (reached z).control.time) (sym m.status) ∙ (run_recorded u).time;
        next = ap (λ (x : PausedRun). x.next) handed_back ∙ ap (λ (z : Turn State End). (reached z).control.next) (sym m.status) ∙ run_proposed u;
        field = field_is;
        output = output_is ∙ ap (λ (x : Scale). window 0 (rows j) (scale x.up (field_of u))) (sym b);
        cleared_memory = memory_is;
        outcome = subst (Outcome limit q before u s) (sym (answer_is o j f tol t i (substep q t))) (outcome (substep q t) m.status (substep_told q t) (subst (Stands u) m.status (run_stands u)));
      }

-- ---- on a run as it was left
pub sound_call : (p : Past) (i : Input) → Steps p i → call_on p i ≡ step_unless Sound p.run p.field i
unfolding step
sound_call p i e = ap (λ (c : Checked). step_unless c p.run p.field i) (sym e)

pub step_done : {o : KrylovPhiOptions} {j : Job} {p : Past} → Left o j p → (i : Input) → StepClaim o j p i
unfolding over
step_done {o} {j} {p} l i e = elim (left_stands l) [
  | inl h ↦ (let r : over p.run ≡ true = ap over h.run in absurd (true≢false (sym r ∙ (passed p.run (length p.field) i e).not_over)))
  | inr h ↦
      (let m = standing.made o j h.factors i h.stood e in
      let q = made_with o j (in_force i.tolerance p.tol) i.job in
      let b : p.began.factors ≡ h.factors = sym (left_stays l).stays.factors ∙ ap (λ (r : PausedRun). r.factors) h.stood.run in
      let u : run_so_far o j (next o j p i) ≡ run_with o j h.factors (p.settings ++ (q ∷ [])) = ap (λ (c : Checked). run_with o j h.factors (p.settings ++ one_more c q)) (sym e) in
      subst (λ (x : Run). Done o j p i x (call_on p i)) (sym u)
      (subst (λ (x : PausedCall StepAnswer). Done o j p i (run_with o j h.factors (p.settings ++ (q ∷ []))) x) (sym (sound_call p i e ∙ m.1.call))
      (done o j h.factors p i m.0 m.1 h.stood b)))
]
