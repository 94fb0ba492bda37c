-- What is claimed of paused runs, in one place (document 02, N5; N14 of their checks). Definitions only.
use Rattle.std.specs.Prelude.{List, Float}
use Rattle.krylov_job.specs.declared.KrylovPhiOptions.{KrylovPhiOptions}
use Rattle.paused_run.specs.Paused.{Job, Input, start}
use Rattle.paused_run.specs.declared.PausedRun.{PausedRun}
use Rattle.paused_claims.specs.History.{Past, Left}
use Rattle.paused_claims.specs.Start.{StartClaim}
use Rattle.paused_claims.specs.Stays.{StepStays, LeftStays}
use Rattle.paused_claims.specs.Early.{Plain, EarlyClaim}
use Rattle.paused_claims.specs.Steps.{StepClaim, Exactly27}
use Rattle.paused_claims.specs.Ended.{EndedClaim}
use Rattle.paused_claims.specs.Alike.{Blind, NewTol}
use Rattle.paused_claims.specs.Undivided.{LeftSame, UndividedClaim, ZeroWhole}

-- of a run started with o and j, as it was left
pub record RunClaim (o : KrylovPhiOptions) (j : Job) (p : Past) : Type 0 where
  pub stays : LeftStays p
  pub early : (i : Input) → Plain i.job.g → EarlyClaim o j p i
  pub step : (i : Input) → StepClaim o j p i
  pub at_limit : (i : Input) → Exactly27 o j p i
  pub ended : EndedClaim j p

pub record PausedClaim : Type 0 where
  -- every start
  pub starts : (o : KrylovPhiOptions) (j : Job) (output memory field : List Float) → StartClaim o j output memory field (start o j output memory field)
  pub zeros : (o : KrylovPhiOptions) (j : Job) (output memory field : List Float) → ZeroWhole o j output memory field
  -- every run as it was left, and those that are never changed
  pub runs : (o : KrylovPhiOptions) (j : Job) (p : Past) → Left o j p → RunClaim o j p
  pub unchanged : (o : KrylovPhiOptions) (j : Job) (p : Past) → LeftSame o j p → UndividedClaim o j p
  -- every step, on any state
  pub steps : (s : PausedRun) (y : List Float) (i : Input) → StepStays s y i
  pub blind : (s : PausedRun) (y : List Float) → Blind s y
  pub new_tol : (s : PausedRun) (y : List Float) → NewTol s y
