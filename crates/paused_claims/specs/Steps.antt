-- What a step that is not refused early does, on a run as it was left: one substep more (document 02, N5: 'Any other is defined substep by substep, its counts bounded
-- alike'). Definitions only.
use Rattle.std.specs.Prelude.{◌≡◌, ◌⊎◌, true, false, List, [], ◌∷◌, ◌++◌, ℕ, ◌+◌, ◌<◌, length, T, Float, if◌then◌else◌}
use Rattle.std.specs.Float.Ieee.{eq}
use Rattle.lists.specs.Walk.{out}
use Rattle.lists.specs.Window.{window}
use Rattle.doubles.specs.F64.{◌⊕◌, ◌⊖◌, ◌⊘◌, ◌⋖◌, +0, 1f}
use Rattle.vectors.specs.Vectors.{scale}
use Rattle.retry.specs.Retry.{retry}
use Rattle.combination.specs.Call.{cleared}
use Rattle.gram_schmidt.specs.Basis.{Setting, arnoldi}
use Rattle.trial_steps.specs.Trials.{stuck, trials}
use Rattle.krylov_advance.specs.Run.{first_length}
use Rattle.krylov_job.specs.declared.KrylovPhiOptions.{KrylovPhiOptions}
use Rattle.paused_run.specs.Paused.{Job, PausedCall, StepAnswer, StepRefused, Input}
use Rattle.paused_run.specs.declared.PausedRun.{PausedRun}
use Rattle.demand_3.specs.Trace.{Accepted, Run, accepted_by, tried_by, time_of, field_of, estimate_of}
use Rattle.demand_3.specs.Krylov.{euclidean, Counted, GoesOn, Finished, Failed}
use Rattle.paused_claims.specs.History.{dimension_in, made_with, Past, call_on, Steps, run_in, in_force, next, run_so_far}
use Rattle.paused_claims.specs.Start.{need_in}
use Rattle.checks.specs.declared.Reason.TheVariants.{SubstepLimit, LengthsRejected, NoInnerPlan}
use Rattle.checks.specs.declared.Reason.{Reason}
use Rattle.std.specs.Prelude.{Ok, Err}

-- ---- 'proposed step': after an accepted substep by its error, or the time that is left
unfoldable pub proposed : Float → Accepted → Float
proposed time a = if +0 ⋖ a.err then retry a.setting.m a.setting.tol a.t a.err else 1f ⊖ time

unfoldable pub proposed_after : Float → Float → List Accepted → Float
proposed_after x time [] = x
proposed_after x time (a ∷ l) = proposed_after (proposed (time ⊕ a.t) a) (time ⊕ a.t) l

-- from the first length on, which the start proposed
abbrev pub proposed_of : Run → Float
proposed_of u = proposed_after (first_length u.first.m u.first.anorm u.first.tol (euclidean u.field)) +0 (accepted_by u)

-- ---- how it ends: u are the substeps so far with its own, before those before it, s is the run handed back
-- one substep is accepted
pub record OneMore (before u : Run) : Type 0 where
  pub substep : Accepted
  pub more : accepted_by u ≡ accepted_by before ++ (substep ∷ [])

-- the run goes on, below its limit
pub record StillGoes (limit : ℕ) (before u : Run) (s : PausedRun) : Type 0 where
  pub one : OneMore before u
  pub goes_on : GoesOn u
  pub below : length (accepted_by u) < limit
  pub estimate : s.report.est_error ≡ estimate_of u
  pub ended : s.ended ≡ false

-- it ended with a result: 'The estimate is divided by the first norm only when a substep ends the run with a result'
pub record Finishes (before u : Run) (s : PausedRun) : Type 0 where
  pub one : OneMore before u
  pub finished : Finished u
  pub estimate : s.report.est_error ≡ estimate_of u ⊘ euclidean u.field
  pub ended : s.ended ≡ true

-- '27 comes with the limit's last substep itself', and with the estimate
pub record Spends (limit : ℕ) (before u : Run) (k : Reason) (x : Float) (s : PausedRun) : Type 0 where
  pub number : k ≡ SubstepLimit
  pub one : OneMore before u
  pub goes_on : GoesOn u
  pub all : length (accepted_by u) ≡ limit
  pub told : x ≡ estimate_of u
  pub estimate : s.report.est_error ≡ estimate_of u
  pub ended : s.ended ≡ true

-- 'the last accepted state, marked as ended' (what stays of it besides: specs/Stays)
pub record Marked (r s : PausedRun) : Type 0 where
  pub time : s.time ≡ r.time
  pub next : s.next ≡ r.next
  pub report : s.report ≡ r.report
  pub tol : s.tol ≡ r.tol
  pub ended : s.ended ≡ true

-- 28 and 29, of a substep with the setting q: nothing is accepted. 28 comes with its eleventh length, and tells the tol asked of it; 29 tells the argument that has no inner plan
pub record Fails (q : Setting) (before u : Run) (r : PausedRun) (k : Reason) (x : Float) (s : PausedRun) : Type 0 where
  pub failed : Failed u k
  pub none : accepted_by u ≡ accepted_by before
  pub of_28 : k ≡ LengthsRejected → (x ≡ q.tol) × (length (tried_by u) ≡ length (tried_by before) + 11)
  pub of_29 : k ≡ NoInnerPlan → trials q (euclidean (field_of before)) (proposed_of before) (1f ⊖ time_of before) (arnoldi q (field_of before) (euclidean (field_of before))) ≡ out (stuck x)
  pub marked : Marked r s

abbrev pub Outcome : ℕ → Setting → Run → Run → PausedRun → StepAnswer → Type 0
Outcome limit q before u r (Ok s) = StillGoes limit before u s ⊎ Finishes before u s
Outcome limit q before u r (Err e) = Spends limit before u e.refusal.reason e.refusal.value e.run ⊎ Fails q before u r e.refusal.reason e.refusal.value e.run

-- ---- the call c of the step i on the run p
pub record Done (o : KrylovPhiOptions) (j : Job) (p : Past) (i : Input) (u : Run) (c : PausedCall StepAnswer) : Type 0 where
  -- the counts are those of what was made, and bounded by the start's limit and M
  pub counted : Counted (dimension_in o j) o.max_substeps u (run_in c.answer).report
  pub time : (run_in c.answer).time ≡ time_of u
  pub next : (run_in c.answer).next ≡ proposed_of u
  pub field : c.field ≡ field_of u
  -- 'output and working memory are left as after a whole run that stopped there'
  pub output : c.output ≡ window 0 j.g.matrix.n (scale p.began.factors.up (field_of u))
  pub cleared_memory : c.memory ≡ cleared (need_in o j i.job) i.memory
  pub outcome : Outcome o.max_substeps (made_with o j (in_force i.tolerance p.tol) i.job) (run_so_far o j p) u p.run c.answer

abbrev pub StepClaim : KrylovPhiOptions → Job → Past → Input → Type 0
StepClaim o j p i = Steps p i → Done o j p i (run_so_far o j (next o j p i)) (call_on p i)

-- ---- 27 exactly so: the limit's substeps are accepted, their rounded sum is below 1 and the norm of the field reached is not 0; x is the estimate
pub record AtLimit (limit : ℕ) (u : Run) (x : Float) : Type 0 where
  pub substeps : length (accepted_by u) ≡ limit
  pub below_one : T (time_of u ⋖ 1f)
  pub norm_left : eq (euclidean (field_of u)) +0 ≡ false
  pub told : x ≡ estimate_of u

pub record Exactly27 (o : KrylovPhiOptions) (j : Job) (p : Past) (i : Input) : Type 0 where
  pub only : Steps p i → {x : Float} {s : PausedRun} → (call_on p i).answer ≡ StepRefused SubstepLimit x s → AtLimit o.max_substeps (run_so_far o j (next o j p i)) x
  pub when : Steps p i → {x : Float} → AtLimit o.max_substeps (run_so_far o j (next o j p i)) x → (s : PausedRun) × ((call_on p i).answer ≡ StepRefused SubstepLimit x s)
