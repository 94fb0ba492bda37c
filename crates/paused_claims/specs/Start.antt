-- The start of a paused run (document 02, N5: 'The run becomes a state handed back by the start, which makes every check and no substep'). Definitions only.
use Rattle.std.specs.Prelude.{◌≡◌, ◌⊎◌, true, false, List, ℕ, ◌-◌, length, Some, Float}
use Rattle.std.specs.Float.{nan}
use Rattle.lists.specs.Window.{window}
use Rattle.doubles.specs.F64.{◌⊗◌, +0, 1f}
use Rattle.vectors.specs.Vectors.{scale}
use Rattle.pow2.specs.Pow2.{pow2_scale}
use Rattle.checks.specs.First.{Check, first}
use Rattle.general_operator.specs.Csr.{row_sum_norm}
use Rattle.combination.specs.Call.{cleared}
use Rattle.krylov_advance.specs.Run.{first_length}
use Rattle.krylov_job.specs.KrylovCall.{bound, krylov_need, krylov_checks}
use Rattle.krylov_job.specs.declared.KrylovPhiOptions.{KrylovPhiOptions}
use Rattle.paused_run.specs.Paused.{Job, PausedCall, leaves, StartAnswer}
use Rattle.paused_run.specs.declared.PausedRun.{PausedRun}
use Rattle.demand_3.specs.Krylov.{euclidean, Zeros}
use Rattle.demand_3.specs.Demand3.{start_of}
use Rattle.paused_claims.specs.History.{values_in, dimension_in, own_eta}
use Rattle.checks.specs.Reasons.{Sound, Refused}
use Rattle.std.specs.Prelude.{Ok}
use Rattle.checks.specs.declared.Reason.{Reason}
use Rattle.checks.specs.declared.Reason.TheVariants.{WorkLength}

-- the n + d values from which the whole call starts
abbrev pub values_of : Job → List Float
values_of j = start_of j.g j.tau j.count j.w

-- 'every check': those of the whole call
abbrev pub job_checks : KrylovPhiOptions → Job → List Float → List Float → List Check
job_checks o j output memory = krylov_checks j.g j.tau j.count j.w o (length output) (length memory)

-- what the whole call needs of the working memory
abbrev pub need_in : KrylovPhiOptions → Job → Job → ℕ
need_in o j i = krylov_need i.g.matrix.n (i.count - 1) (dimension_in o j) i.g.stored

-- a start is refused by k with x exactly so: the whole call is refused early so; or not, and the lent field is not n + d doubles ('another length: 26')
abbrev pub Refuses : KrylovPhiOptions → Job → List Float → List Float → List Float → Reason → Float → Type 0
Refuses o j output memory field k x =
    (Refused k x ≡ first (job_checks o j output memory)) ⊎ ((Sound ≡ first (job_checks o j output memory)) × (length field ≡ values_in j → ⊥) × (k ≡ WorkLength) × (x ≡ nan))

-- 'elapsed time, .. report, .. eta, .. beside tol, m, limit, n, count': at time 0, with no substep
pub record Unstepped (o : KrylovPhiOptions) (j : Job) (s : PausedRun) : Type 0 where
  pub time : s.time ≡ +0
  pub report : s.report ≡ record { matvecs = 0; substeps = 0; rejected = 0; est_error = +0; shortest = +0; last = +0 }
  pub eta : s.eta ≡ own_eta j
  pub tol : s.tol ≡ o.tol
  pub m : s.m ≡ o.m
  pub limit : s.limit ≡ o.max_substeps
  pub n : s.n ≡ j.g.matrix.n
  pub count : s.count ≡ j.count

-- 'all-zero start: factors 1, norm and step 0'; it has ended, and its values are handed out as they are
pub record Idle (o : KrylovPhiOptions) (j : Job) (s : PausedRun) (c : PausedCall StartAnswer) (memory : List Float) : Type 0 where
  pub unstepped : Unstepped o j s
  pub down : s.factors.down ≡ 1f
  pub up : s.factors.up ≡ 1f
  pub norm : s.norm ≡ +0
  pub next : s.next ≡ +0
  pub ended : s.ended ≡ true
  pub field : c.field ≡ values_of j
  pub output : c.output ≡ window 0 j.g.matrix.n (values_of j)
  pub cleared_memory : c.memory ≡ cleared (need_in o j j) memory

-- any other: the values scaled by a power of two, their norm, and the step that the whole call proposes first
pub record Ready (o : KrylovPhiOptions) (j : Job) (s : PausedRun) (c : PausedCall StartAnswer) (memory : List Float) : Type 0 where
  pub unstepped : Unstepped o j s
  pub factors : pow2_scale (values_of j) ≡ Some s.factors
  pub field : c.field ≡ scale s.factors.down (values_of j)
  pub norm : s.norm ≡ euclidean c.field
  pub next : s.next ≡ first_length (dimension_in o j) (bound j.tau (row_sum_norm j.g.matrix)) (o.tol ⊗ euclidean c.field) (euclidean c.field)
  pub ended : s.ended ≡ false
  -- 'output and working memory are left as after a whole run that stopped there'
  pub output : c.output ≡ window 0 j.g.matrix.n (scale s.factors.up c.field)
  pub cleared_memory : c.memory ≡ cleared (need_in o j j) memory

pub record StartClaim (o : KrylovPhiOptions) (j : Job) (output memory field : List Float) (c : PausedCall StartAnswer) : Type 0 where
  -- refused exactly so, and then nothing is changed
  pub only_refused : (k : Reason) (x : Float) → c.answer ≡ Refused k x → Refuses o j output memory field k x
  pub if_refused : (k : Reason) (x : Float) → Refuses o j output memory field k x → c ≡ leaves (Refused k x) output memory field
  -- else it hands back a run
  pub if_accepted : Sound ≡ first (job_checks o j output memory) → length field ≡ values_in j → (s : PausedRun) × (c.answer ≡ Ok s)
  pub only_accepted : {s : PausedRun} → c.answer ≡ Ok s → (Sound ≡ first (job_checks o j output memory)) × (length field ≡ values_in j)
  pub idle : {s : PausedRun} → c.answer ≡ Ok s → Zeros (values_of j) → Idle o j s c memory
  pub ready : {s : PausedRun} → c.answer ≡ Ok s → (Zeros (values_of j) → ⊥) → Ready o j s c memory
