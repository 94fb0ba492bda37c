-- A paused run as ten doubles and eight numbers, and a start and a step as an exported function hands them back (document 02, N5). Definitions only.
use Rattle.std.specs.Prelude.{Bool, true, false, not, ◌&&◌, List, [], ◌∷◌, ◌++◌, ℕ, eqb, ltb, length, get_or, Float, if◌then◌else◌, Option, Some, None}
use Rattle.std.specs.Float.{nan}
use Rattle.doubles.specs.F64.{+0, 1f, at}
use Rattle.checks.specs.First.{Check, refuse, first}
use Rattle.krylov_advance.specs.Run.{empty_report}
use Rattle.krylov_job.specs.declared.KrylovPhiOptions.{KrylovPhiOptions}
use Rattle.paused_run.specs.Paused.{Job, Input, start_checks, start_unless, step}
use Rattle.paused_run.specs.declared.PausedRun.{PausedRun}
use Rattle.paused_run.specs.Paused.{StartAnswer}
use Rattle.paused_run.specs.Paused.{StepAnswer}
use Rattle.std.specs.Prelude.{Ok, Err}
use Rattle.checks.specs.Reasons.{number}
use Rattle.checks.specs.declared.Reason.TheVariants.{WorkLength}

-- ---- a run's doubles and numbers, in this order
abbrev pub numbers_of : PausedRun → List Float
numbers_of s =
    s.time
    ∷ s.next
    ∷ s.report.est_error
    ∷ s.report.shortest
    ∷ s.report.last
    ∷ s.eta
    ∷ s.factors.down
    ∷ s.factors.up
    ∷ s.norm
    ∷ s.tol
    ∷ []

abbrev pub flag : Bool → ℕ
flag true = 1
flag false = 0

abbrev pub counts_of : PausedRun → List ℕ
counts_of s = s.report.matvecs ∷ s.report.substeps ∷ s.report.rejected ∷ s.m ∷ s.limit ∷ s.n ∷ s.count ∷ flag s.ended ∷ []

-- slices of other lengths hold no state
unfoldable pub fits : List Float → List ℕ → Bool
fits numbers counts = eqb (length numbers) 10 && eqb (length counts) 8

-- the run that they hold
abbrev pub held : List Float → List ℕ → PausedRun
held numbers counts =
    record {
      time = at numbers 0;
      next = at numbers 1;
      report =
          record {
            matvecs = get_or counts 0 0;
            substeps = get_or counts 1 0;
            rejected = get_or counts 2 0;
            est_error = at numbers 2;
            shortest = at numbers 3;
            last = at numbers 4;
          };
      eta = at numbers 5;
      factors = record { down = at numbers 6; up = at numbers 7 };
      norm = at numbers 8;
      tol = at numbers 9;
      m = get_or counts 3 0;
      limit = get_or counts 4 0;
      n = get_or counts 5 0;
      count = get_or counts 6 0;
      ended = not (eqb (get_or counts 7 0) 0);
    }

-- a state that no call left counts as ended
abbrev pub no_run : PausedRun
no_run =
    record {
      time = +0;
      next = +0;
      report = empty_report;
      eta = 1f;
      factors = record { down = 1f; up = 1f };
      norm = +0;
      tol = +0;
      m = 0;
      limit = 0;
      n = 0;
      count = 0;
      ended = true;
    }

unfoldable pub run_of : List Float → List ℕ → PausedRun
run_of numbers counts = if fits numbers counts then held numbers counts else no_run

-- ---- what is handed back: 0 or the refusal's number, the double reported, and the state
pub record State : Type 0 where
  pub number : ℕ
  pub value : Float
  pub numbers : List Float
  pub counts : List ℕ

abbrev pub state : ℕ → Float → List Float → List ℕ → State
state k x numbers counts = record { number = k; value = x; numbers = numbers; counts = counts }

-- a run written to slices that fit it
unfoldable pub written : ℕ → Float → PausedRun → List Float → List ℕ → State
written k x s numbers counts = if fits numbers counts then state k x (numbers_of s) (counts_of s) else state k x numbers counts

-- a refused start writes no state; the estimate of a run that began is +0
unfoldable pub start_state : StartAnswer → List Float → List ℕ → State
start_state (Err r) numbers counts = state (number r.reason) r.value numbers counts
start_state (Ok s) numbers counts = written 0 s.report.est_error s numbers counts

-- 27 to 29 come with a substep, every other refusal before it: that writes no state
abbrev pub ran : ℕ → Bool
ran k = ltb 26 k && ltb k 30

unfoldable pub step_state : StepAnswer → List Float → List ℕ → State
step_state (Err r) numbers counts =
    let k = number r.refusal.reason in
    if ran k then written k r.refusal.value r.run numbers counts else state k r.refusal.value numbers counts
step_state (Ok s) numbers counts = written 0 s.report.est_error s numbers counts

-- with what the three lent slices of doubles hold
pub record Told : Type 0 where
  pub state : State
  pub output : List Float
  pub memory : List Float
  pub field : List Float

abbrev pub told : State → List Float → List Float → List Float → Told
told s output memory field = record { state = s; output = output; memory = memory; field = field }

-- 26 also where the state's slices do not fit it
unfoldable pub state_checks : List Float → List ℕ → List Check
state_checks numbers counts = refuse WorkLength (not (fits numbers counts)) nan ∷ []

unfoldable pub start_told : KrylovPhiOptions → Job → List Float → List Float → List Float → List Float → List ℕ → Told
start_told o j output memory field numbers counts =
    let c = start_unless (first (start_checks o j (length output) (length memory) (length field) ++ state_checks numbers counts)) o j output memory field in
    told (start_state c.answer numbers counts) c.output c.memory c.field

-- a new tol or none
abbrev pub tolerance : Bool → Float → Option Float
tolerance true tol = Some tol
tolerance false tol = None

unfoldable pub step_told : Input → List Float → List Float → List ℕ → Told
step_told i field numbers counts =
    let c = step (run_of numbers counts) field i in
    told (step_state c.answer numbers counts) c.output c.memory c.field
