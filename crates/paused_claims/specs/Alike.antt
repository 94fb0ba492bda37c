-- Steps that give the same: what a step's answer does not depend on, and a new tol (document 02, N5 and, of many runs, N6). Of any state. Definitions only.
use Rattle.std.specs.Prelude.{◌≡◌, List, ℕ, length, Option, Some, None, Float}
use Rattle.doubles.specs.F64.{+0}
use Rattle.checks.specs.First.{first}
use Rattle.paused_run.specs.Paused.{PausedCall, Input, StepAnswer, step_checks, step}
use Rattle.paused_run.specs.declared.PausedRun.{PausedRun}
use Rattle.paused_claims.specs.History.{run_in}
use Rattle.checks.specs.Reasons.{number as numbered, Sound}
use Rattle.std.specs.Prelude.{Ok, Err}

-- ---- what the lent output and working memory hold does not matter, nor how long they are beyond what is asked
pub record SameStep (c d : PausedCall StepAnswer) : Type 0 where
  pub answer : c.answer ≡ d.answer
  pub output : c.output ≡ d.output
  pub field : c.field ≡ d.field

abbrev pub Blind : PausedRun → List Float → Type 0
Blind s y = (i k : Input) → i.tolerance ≡ k.tolerance → i.job ≡ k.job → Sound ≡ first (step_checks s (length y) i) → Sound ≡ first (step_checks s (length y) k) → SameStep (step s y i) (step s y k)

-- ---- 'a new tol for itself and the later ones'
-- a refusal's number and double; 0 and +0 of none
abbrev pub number_in : StepAnswer → ℕ
number_in (Err r) = numbered r.refusal.reason
number_in (Ok s) = 0

abbrev pub double_in : StepAnswer → Float
double_in (Err r) = r.refusal.value
double_in (Ok s) = +0

abbrev pub run_with_tol : Float → PausedRun → PausedRun
run_with_tol tol s =
    record {
      time = s.time;
      next = s.next;
      report = s.report;
      eta = s.eta;
      factors = s.factors;
      norm = s.norm;
      tol = tol;
      m = s.m;
      limit = s.limit;
      n = s.n;
      count = s.count;
      ended = s.ended;
    }

abbrev pub bringing : Option Float → Input → Input
bringing t i = record { tolerance = t; job = i.job; output = i.output; memory = i.memory }

-- c is d, the runs handed back but for their tol
pub record SameButTol (tol : Float) (c d : PausedCall StepAnswer) : Type 0 where
  pub number : number_in c.answer ≡ number_in d.answer
  pub double : double_in c.answer ≡ double_in d.answer
  pub run : run_with_tol tol (run_in c.answer) ≡ run_in d.answer
  pub output : c.output ≡ d.output
  pub memory : c.memory ≡ d.memory
  pub field : c.field ≡ d.field

-- a step with a new tol is the step, with none, of the run that has it
abbrev pub NewTol : PausedRun → List Float → Type 0
NewTol s y = (i : Input) (tol : Float) → SameButTol tol (step s y (bringing (Some tol) i)) (step (run_with_tol tol s) y (bringing None i))
