-- A Krylov run as a state that is handed back by its start and after each substep (document 02, N5). Definitions only.
use Rattle.std.specs.Prelude.{Bool, true, false, not, ◌||◌, List, [], ◌∷◌, ◌++◌, ℕ, ◌+◌, ◌-◌, ◌*◌, ltb, leb, eqb, length, Float, if◌then◌else◌, Option, Some, None}
use Rattle.std.specs.Float.{nan}
use Rattle.lists.specs.Walk.{Turn, on, out}
use Rattle.lists.specs.Window.{window}
use Rattle.doubles.specs.F64.{◌⊗◌, +0, 1f, nat}
use Rattle.vectors.specs.Vectors.{scale}
use Rattle.pow2.specs.Pow2.{pow2_scale}
use Rattle.pow2.specs.declared.Scale.{Scale}
use Rattle.pow2.specs.declared.Scaling.{Scaling}
use Rattle.checks.specs.First.{Check, refuse, first}
use Rattle.checks.specs.First.{Checked}
use Rattle.general_operator.specs.Csr.{row_sum_norm}
use Rattle.generator_action.specs.Generator.{Generator}
use Rattle.combination.specs.Combination.{further, eta_of, combination_operator, combination_start}
use Rattle.combination.specs.Call.{cleared}
use Rattle.combination.specs.Checks.{length_checks}
use Rattle.gram_schmidt.specs.Basis.{Setting, norm2}
use Rattle.krylov_advance.specs.Run.{State, End, finished, refused, setting, substep, first_length, empty_report, relative_report}
use Rattle.krylov_advance.specs.declared.KrylovPhiReport.{KrylovPhiReport}
use Rattle.krylov_job.specs.KrylovCall.{bound, dimension, krylov_need, krylov_checks, krylov_checks_by, open_krylov_call}
use Rattle.krylov_job.specs.declared.KrylovPhiOptions.{KrylovPhiOptions}
use Rattle.paused_run.specs.declared.PausedRun.{PausedRun}
use Rattle.paused_run.specs.declared.StepRefusal.{StepRefusal}
use Rattle.checks.specs.Reasons.{refusal}
use Rattle.checks.specs.declared.Reason.{Reason}
use Rattle.checks.specs.declared.Reason.TheVariants.{VectorLength, WorkLength, SubstepLimit, RunEnded}
use Rattle.std.specs.Prelude.{Result, Ok, Err}
use Rattle.checks.specs.declared.Refusal.{Refusal}

-- a refusal, or the run that was started
abbrev pub StartAnswer : Type 0
StartAnswer = Result PausedRun Refusal

-- a refusal with the run that it leaves, or the run after a step
abbrev pub StepAnswer : Type 0
StepAnswer = Result PausedRun StepRefusal

abbrev pub StepRefused : Reason → Float → PausedRun → StepAnswer
StepRefused k x s = Err (record { refusal = refusal k x; run = s })

-- matrix, tau and vectors: what comes at the start, and again at each step
pub record Job : Type 0 where
  pub g : Generator
  pub tau : Float
  pub count : ℕ
  pub w : List Float

-- n, and d
abbrev pub rows : Job → ℕ
rows j = j.g.matrix.n

abbrev pub degree : Job → ℕ
degree j = j.count - 1

-- a call: the answer, and what the three lent slices hold at the end
pub record PausedCall (A : Type 0) : Type 0 where
  pub answer : A
  pub output : List Float
  pub memory : List Float
  pub field : List Float

abbrev pub leaves : {A : Type 0} → A → List Float → List Float → List Float → PausedCall A
leaves a output memory field = record { answer = a; output = output; memory = memory; field = field }

-- the lent field is not n + d long
unfoldable pub field_checks : ℕ → ℕ → List Check
field_checks field wanted = refuse WorkLength (not (eqb field wanted)) nan ∷ []

-- what a substep is made with: the job's operator with the run's eta, and tol times the run's first norm
unfoldable pub setting_of : Job → Float → Float → Float → ℕ → Setting
setting_of j eta norm tol m =
    let q = j.g.matrix in
    setting (combination_operator q (further q.n j.w) j.tau (degree j) eta) j.tau (bound j.tau (row_sum_norm q)) (tol ⊗ norm) (dimension q.n (degree j) m)

-- what it needs of the working memory
abbrev pub need_of : Job → ℕ → ℕ
need_of j m = krylov_need (rows j) (degree j) (dimension (rows j) (degree j) m) j.g.stored

-- ---- the start
-- every check of a Krylov call, and the field's length
unfoldable pub start_checks : KrylovPhiOptions → Job → ℕ → ℕ → ℕ → List Check
start_checks o j output memory field = krylov_checks j.g j.tau j.count j.w o output memory ++ field_checks field (rows j + degree j)

-- eta and 1 / eta of the job
abbrev pub scaling_of : Job → Scaling
scaling_of j = eta_of (rows j) (further (rows j) j.w) j.tau (degree j)

-- its n + d values
abbrev pub first_field : Job → List Float
first_field j = combination_start (rows j) j.w (degree j) (scaling_of j).inv

-- a run at time 0: factors, first norm and proposed step, and whether it has ended
abbrev pub fresh : KrylovPhiOptions → Job → Scale → Float → Float → Bool → PausedRun
fresh o j f norm next ended =
    record {
      time = +0;
      next = next;
      report = empty_report;
      eta = (scaling_of j).eta;
      factors = f;
      norm = norm;
      tol = o.tol;
      m = o.m;
      limit = o.max_substeps;
      n = rows j;
      count = j.count;
      ended = ended;
    }

-- all-zero start: factors 1, norm and step 0, and it has ended
abbrev pub idle_run : KrylovPhiOptions → Job → PausedRun
idle_run o j = fresh o j (record { down = 1f; up = 1f }) +0 +0 true

-- any other: the first length that a whole run proposes
abbrev pub first_run : KrylovPhiOptions → Job → Scale → Float → PausedRun
first_run o j f norm = fresh o j f norm (first_length (dimension (rows j) (degree j) o.m) (bound j.tau (row_sum_norm j.g.matrix)) (o.tol ⊗ norm) norm) false

-- no substep: the output holds the scaled start scaled back, the working memory is cleared, the field holds the scaled start
unfoldable pub begun : KrylovPhiOptions → Job → List Float → List Float → Option Scale → PausedCall StartAnswer
begun o j y memory None = leaves (Ok (idle_run o j)) (window 0 (rows j) y) memory y
begun o j y memory (Some f) =
    let y₀ = scale f.down y in
    leaves (Ok (first_run o j f (norm2 y₀))) (window 0 (rows j) (scale f.up y₀)) memory y₀

-- a refused start changes nothing
unfoldable pub start_unless : Checked → KrylovPhiOptions → Job → List Float → List Float → List Float → PausedCall StartAnswer
start_unless (Err r) o j output memory field = leaves (Err r) output memory field
start_unless (Ok _) o j output memory field = begun o j (first_field j) (cleared (need_of j o.m) memory) (pow2_scale (first_field j))

unfoldable pub start : KrylovPhiOptions → Job → List Float → List Float → List Float → PausedCall StartAnswer
start o j output memory field = start_unless (first (start_checks o j (length output) (length memory) (length field))) o j output memory field

-- ---- a step
-- what it brings beside the run and its field: a new tol or none, the job, and the lent output and working memory
pub record Input : Type 0 where
  pub tolerance : Option Float
  pub job : Job
  pub output : List Float
  pub memory : List Float

-- the tol in force
abbrev pub tol_in : Option Float → PausedRun → Float
tol_in None s = s.tol
tol_in (Some tol) s = tol

-- the run's options with it; m and the limit stay
abbrev pub options_in : PausedRun → Float → KrylovPhiOptions
options_in s tol = record { tol = tol; m = s.m; max_substeps = s.limit }

-- ended; or with counts that no unfinished run has, so that none overflows in a state that no call left
unfoldable pub over : PausedRun → Bool
over s = s.ended || (leb s.limit s.report.substeps || (ltb 129000000 s.report.matvecs || ltb 10000000 s.report.rejected))

-- another n or count than the start's
unfoldable pub other_checks : PausedRun → Job → List Check
other_checks s j = refuse VectorLength (not (eqb (rows j) s.n) || not (eqb j.count s.count)) (nat (length j.w)) ∷ []

-- 31 before any other; then a Krylov call's, with the run's eta in 22 and a second 16; then the field's length
unfoldable pub step_checks : PausedRun → ℕ → Input → List Check
step_checks s field i =
    let j = i.job in
    refuse RunEnded (over s) nan
    ∷ (krylov_checks_by j.g j.tau j.count j.w s.eta (length_checks (length i.output) (rows j) (length j.w) (j.count * rows j) ++ other_checks s j)
    (options_in s (tol_in i.tolerance s)) (length i.memory)
    ++ field_checks field (rows j + degree j))

-- the run goes on from its field, whose norm is formed again
unfoldable pub resumed : PausedRun → List Float → State
resumed s y = record { control = record { time = s.time; next = s.next; beta = norm2 y }; report = s.report; y = y }

-- the run after an accepted substep: time, step, report, tol; eta, factors, first norm, m, limit, n and count stay the start's
abbrev pub moved : PausedRun → Float → State → KrylovPhiReport → Bool → PausedRun
moved s tol t report ended =
    record {
      time = t.control.time;
      next = t.control.next;
      report = report;
      eta = s.eta;
      factors = s.factors;
      norm = s.norm;
      tol = tol;
      m = s.m;
      limit = s.limit;
      n = s.n;
      count = s.count;
      ended = ended;
    }

-- the last accepted state, marked as ended
abbrev pub stopped : PausedRun → PausedRun
stopped s =
    record {
      time = s.time;
      next = s.next;
      report = s.report;
      eta = s.eta;
      factors = s.factors;
      norm = s.norm;
      tol = s.tol;
      m = s.m;
      limit = s.limit;
      n = s.n;
      count = s.count;
      ended = true;
    }

-- the answer to a substep: 27 with the limit's last one, unless it ends the run with a result, which divides the estimate by the first norm; 28 and 29
unfoldable pub verdict : PausedRun → Float → Turn State End → StepAnswer
verdict s tol (on t) =
    if ltb t.report.substeps s.limit then Ok (moved s tol t t.report false)
    else StepRefused SubstepLimit t.report.est_error (moved s tol t t.report true)
verdict s tol (out (finished t)) = Ok (moved s tol t (relative_report t.report s.norm) true)
verdict s tol (out (refused k x t)) = StepRefused k x (stopped s)

-- the field after a substep: the last accepted one
abbrev pub field_after : Turn State End → List Float
field_after (on t) = t.y
field_after (out (finished t)) = t.y
field_after (out (refused k x t)) = t.y

-- the substep that a step makes
abbrev pub substep_of : PausedRun → List Float → Input → Turn State End
substep_of s y i = substep (setting_of i.job s.eta s.norm (tol_in i.tolerance s) s.m) (resumed s y)

-- output and working memory as after a whole run that stopped there
unfoldable pub after_substep : PausedRun → Input → Turn State End → PausedCall StepAnswer
after_substep s i o =
    leaves (verdict s (tol_in i.tolerance s) o) (window 0 (rows i.job) (scale s.factors.up (field_after o))) (cleared (need_of i.job s.m) i.memory) (field_after o)

-- an early refusal leaves the run unchanged
unfoldable pub step_unless : Checked → PausedRun → List Float → Input → PausedCall StepAnswer
step_unless (Err r) s y i = leaves (StepRefused r.reason r.value s) i.output i.memory y
step_unless (Ok _) s y i = after_substep s i (substep_of s y i)

unfoldable pub step : PausedRun → List Float → Input → PausedCall StepAnswer
step s y i = step_unless (first (step_checks s (length y) i)) s y i

-- to compute: a line `unfolding open_paused` opens every definition of this file and of those below it
unfoldable pub open_paused : Unit {0}
unfolding field_checks setting_of start_checks begun start_unless start over other_checks step_checks resumed verdict after_substep step_unless step open_krylov_call
open_paused = tt
