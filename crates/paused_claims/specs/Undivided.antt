-- A run whose matrix, tau, vectors and tol never change (document 02, N5: 'if they and tol never change, the run ends with the bits and report, or the refusal, of the
-- undivided one'). Whatever output and working memory its steps bring, and with steps refused early in between. Definitions only.
use Rattle.std.specs.Prelude.{◌≡◌, true, false, List, [], ◌∷◌, ℕ, suc, ◌≤◌, length, Float}
use Rattle.combination.specs.Call.{Call, ends}
use Rattle.krylov_job.specs.declared.KrylovPhiOptions.{KrylovPhiOptions}
use Rattle.krylov_job.specs.KrylovCall.{KrylovAnswer, phi_combination_krylov}
use Rattle.paused_run.specs.Paused.{Job, PausedCall, start, StepAnswer, Input}
use Rattle.paused_run.specs.declared.PausedRun.{PausedRun}
use Rattle.demand_3.specs.Krylov.{Each, Zeros}
use Rattle.paused_claims.specs.History.{Past, call_on, Steps, in_force, at_start, next}
use Rattle.paused_claims.specs.Start.{values_of, need_in}
use Rattle.checks.specs.Reasons.{Refused}
use Rattle.std.specs.Prelude.{Ok, Err}
use Rattle.checks.specs.declared.Reason.TheVariants.{SubstepLimit}

-- the start's job again, and no new tol or the start's
pub record Unchanged (o : KrylovPhiOptions) (j : Job) (i : Input) : Type 0 where
  pub job : i.job ≡ j
  pub tol : in_force i.tolerance o.tol ≡ o.tol

-- a run as it was left, each of whose steps was refused early or unchanged
pub data LeftSame (o : KrylovPhiOptions) (j : Job) : Past → Type 0 where
  started : (output memory field : List Float) {s : PausedRun} → (start o j output memory field).answer ≡ Ok s → LeftSame o j (at_start o s (start o j output memory field).field)
  stepped : {p : Past} → LeftSame o j p → (i : Input) → (Steps p i → Unchanged o j i) → LeftSame o j (next o j p i)

-- the whole call with this limit
abbrev pub undivided : KrylovPhiOptions → Job → ℕ → List Float → List Float → Call KrylovAnswer
undivided o j limit output memory = phi_combination_krylov j.g j.tau j.count j.w (record { tol = o.tol; m = o.m; max_substeps = limit }) output memory

-- after its k-th step that was not refused early: where the run goes on, output and working memory are those of the whole call with the limit k, which 27 refuses with the
-- estimate; where it ends, they and the report or the refusal are the whole call's
abbrev pub AsWhole : KrylovPhiOptions → Job → ℕ → List Float → List Float → PausedCall StepAnswer → StepAnswer → Type 0
AsWhole o j k output memory c (Ok s) =
    (s.ended ≡ false → undivided o j k output memory ≡ ends (Refused SubstepLimit s.report.est_error) c.output c.memory)
    × (s.ended ≡ true → undivided o j o.max_substeps output memory ≡ ends (Ok s.report) c.output c.memory)
AsWhole o j k output memory c (Err e) = undivided o j o.max_substeps output memory ≡ ends (Refused e.refusal.reason e.refusal.value) c.output c.memory

-- with the whole output, and enough working memory
pub record Served (o : KrylovPhiOptions) (j : Job) (i : Input) : Type 0 where
  pub unchanged : Unchanged o j i
  pub output : length i.output ≡ j.g.matrix.n
  pub memory : need_in o j j ≤ length i.memory

abbrev pub all_next : KrylovPhiOptions → Job → Past → List Input → Past
all_next o j p [] = p
all_next o j p (i ∷ l) = all_next o j (next o j p i) l

pub record UndividedClaim (o : KrylovPhiOptions) (j : Job) (p : Past) : Type 0 where
  -- p has had as many steps that were not refused early as it has settings
  pub as_whole : (i : Input) → Steps p i → Unchanged o j i → AsWhole o j (suc (length p.settings)) i.output i.memory (call_on p i) (call_on p i).answer
  -- which are at most max_substeps
  pub few : length p.settings ≤ o.max_substeps
  -- until it ends, a step that is served whole is not refused early
  pub goes_on : p.run.ended ≡ false → (i : Input) → Served o j i → Steps p i
  -- so it ends
  pub ends_by : (l : List Input) → Each (Served o j) l → o.max_substeps ≤ length l → (all_next o j p l).run.ended ≡ true

-- of an all-zero start the start's call itself
abbrev pub ZeroWhole : KrylovPhiOptions → Job → List Float → List Float → List Float → Type 0
ZeroWhole o j output memory field =
    let c = start o j output memory field in
    (s : PausedRun) → c.answer ≡ Ok s → Zeros (values_of j) → undivided o j o.max_substeps output memory ≡ ends (Ok s.report) c.output c.memory
