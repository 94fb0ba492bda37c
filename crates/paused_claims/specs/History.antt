-- Paused runs as the last call left them, and what each substep so far was made with (document 02, N5: 'State and field come back at each step as the last one
-- left them: what is claimed here and in N6 is claimed of such runs'). Definitions only.
use Rattle.std.specs.Prelude.{◌≡◌, List, [], ◌∷◌, ◌++◌, ℕ, ◌+◌, ◌-◌, length, Float, if◌then◌else◌, Option, Some, None}
use Rattle.doubles.specs.F64.{◌⊗◌}
use Rattle.checks.specs.First.{first, Checked, same}
use Rattle.general_operator.specs.Csr.{row_sum_norm}
use Rattle.combination.specs.Combination.{further, eta_of, combination_operator}
use Rattle.gram_schmidt.specs.Basis.{Setting}
use Rattle.krylov_advance.specs.Run.{setting}
use Rattle.krylov_job.specs.KrylovCall.{bound}
use Rattle.krylov_job.specs.declared.KrylovPhiOptions.{KrylovPhiOptions}
use Rattle.paused_run.specs.Paused.{Job, PausedCall, start, StepAnswer, Input, step_checks, step}
use Rattle.paused_run.specs.declared.PausedRun.{PausedRun}
use Rattle.demand_3.specs.Trace.{Run}
use Rattle.demand_3.specs.Krylov.{euclidean}
use Rattle.demand_3.specs.Demand3.{krylov_run, clamped}
use Rattle.checks.specs.Reasons.{Sound}
use Rattle.checks.specs.declared.Reason.TheVariants.{SubstepLimit}
use Rattle.std.specs.Prelude.{Ok, Err}

-- ---- what the start alone gives
-- the run of the whole call with the start's options and job
abbrev pub whole : KrylovPhiOptions → Job → Run
whole o j = krylov_run j.g j.tau j.count j.w o

-- n + d, and M
abbrev pub values_in : Job → ℕ
values_in j = j.g.matrix.n + (j.count - 1)

abbrev pub dimension_in : KrylovPhiOptions → Job → ℕ
dimension_in o j = clamped o.m (values_in j)

-- the eta of a job's own vectors
abbrev pub own_eta : Job → Float
own_eta j = (eta_of j.g.matrix.n (further j.g.matrix.n j.w) j.tau (j.count - 1)).eta

-- what a substep is made with, of a run started with o and j: matrix, tau and vectors of the job i that the step brings, the tol in force times the first norm;
-- eta, first norm and M of the start
abbrev pub made_with : KrylovPhiOptions → Job → Float → Job → Setting
made_with o j tol i =
    let q = i.g.matrix in
    setting (combination_operator q (further q.n i.w) i.tau (i.count - 1) (own_eta j)) i.tau (bound i.tau (row_sum_norm q)) (tol ⊗ euclidean (whole o j).field) (dimension_in o j)

-- ---- what the calls leave
-- the run that the start handed back; the run and its field as they were left; what its steps brought and what they answered; the tol in force, and what its
-- substeps were made with
pub record Past : Type 0 where
  pub began : PausedRun
  pub run : PausedRun
  pub field : List Float
  pub inputs : List Input
  pub answers : List StepAnswer
  pub tol : Float
  pub settings : List Setting

-- a step on it, and its first check that holds
abbrev pub call_on : Past → Input → PausedCall StepAnswer
call_on p i = step p.run p.field i

abbrev pub checked : Past → Input → Checked
checked p i = first (step_checks p.run (length p.field) i)

-- it is not refused early
abbrev pub Steps : Past → Input → Type 0
Steps p i = Sound ≡ checked p i

-- the run that an answer hands back
abbrev pub run_in : StepAnswer → PausedRun
run_in (Err r) = r.run
run_in (Ok s) = s

-- the tol in force at a step: 'a new tol for itself and the later ones'
abbrev pub in_force : Option Float → Float → Float
in_force None tol = tol
in_force (Some x) tol = x

-- the tol after it: an early refusal, 28 and 29 leave the one before
abbrev pub tol_kept : Checked → StepAnswer → Float → Float → Float
tol_kept (Err r) a before now = before
tol_kept (Ok _) (Ok s) before now = now
tol_kept (Ok _) (Err r) before now = if same r.refusal.reason SubstepLimit then now else before

-- one more setting, unless it was refused early
abbrev pub one_more : Checked → Setting → List Setting
one_more (Err r) p = []
one_more (Ok _) p = p ∷ []

abbrev pub at_start : KrylovPhiOptions → PausedRun → List Float → Past
at_start o s y = record { began = s; run = s; field = y; inputs = []; answers = []; tol = o.tol; settings = [] }

abbrev pub next : KrylovPhiOptions → Job → Past → Input → Past
next o j p i =
    let c = call_on p i in
    let tol = in_force i.tolerance p.tol in
    record {
      began = p.began;
      run = run_in c.answer;
      field = c.field;
      inputs = p.inputs ++ (i ∷ []);
      answers = p.answers ++ (c.answer ∷ []);
      tol = tol_kept (checked p i) c.answer p.tol tol;
      settings = p.settings ++ one_more (checked p i) (made_with o j tol i.job);
    }

-- started with o and j, and any steps after that
pub data Left (o : KrylovPhiOptions) (j : Job) : Past → Type 0 where
  started : (output memory field : List Float) {s : PausedRun} → (start o j output memory field).answer ≡ Ok s → Left o j (at_start o s (start o j output memory field).field)
  stepped : {p : Past} → Left o j p → (i : Input) → Left o j (next o j p i)

-- its substeps so far, each with its own setting, from the start of the whole call
abbrev pub run_so_far : KrylovPhiOptions → Job → Past → Run
run_so_far o j p = record { first = (whole o j).first; settings = p.settings; field = (whole o j).field; prescale = (whole o j).prescale }
