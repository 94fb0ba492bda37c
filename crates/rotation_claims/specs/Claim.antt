-- What is claimed of several barrels on one unit, in one place (document 02, N6; N14 of their answers). Definitions only.
use Rattle.std.specs.Prelude.{◌≡◌, List, Float}
use Rattle.checks.specs.First.{before}
use Rattle.paused_run.specs.Paused.{StepRefused, Input}
use Rattle.paused_run.specs.declared.PausedRun.{PausedRun}
use Rattle.rotation.specs.Unit.{turn}
use Rattle.rotation.specs.declared.Rotation.{Rotation}
use Rattle.rotation_claims.specs.History.{Act}
use Rattle.rotation_claims.specs.Isolation.{AloneClaim, LeftClaim, Only31Claim, ExchangedClaim}
use Rattle.rotation_claims.specs.Order.{QueueClaim, SixteenClaim, NextClaim, FifteenClaim, ToTheEnd, SomeTurn}
use Rattle.rotation_claims.specs.Admission.{Coming, join_to, AnyUnit, AnyTurn, AdmissionClaim, LeavesClaim, HoldsClaim}
use Rattle.checks.specs.Reasons.{Refused}
use Rattle.checks.specs.declared.Reason.TheVariants.{NormRange}

-- N14: no answer is 23, of any unit, over generators none of whose own checks has that number
pub record Never23 (u : Rotation) : Type 0 where
  pub joins : (c : Coming) → before NormRange c.j.g.checks ≡ c.j.g.checks → (x : Float) → (join_to u c).call.answer ≡ Refused NormRange x → ⊥
  pub turns : (i : Input) (y : List Float) → before NormRange i.job.g.checks ≡ i.job.g.checks → (x : Float) (s : PausedRun) → (turn u y i).call.answer ≡ StepRefused NormRange x s → ⊥

pub record RotationClaim : Type 0 where
  -- one barrel among any others
  pub alone : AloneClaim
  pub left : LeftClaim
  pub exchanged : ExchangedClaim
  pub only_31 : Only31Claim
  -- the order of the turns
  pub queue : QueueClaim
  pub sixteen : (h : List Act) → SixteenClaim h
  pub next : (h : List Act) → NextClaim h
  pub fifteen : FifteenClaim
  pub to_the_end : ToTheEnd
  pub some_turn : SomeTurn
  -- which runs take a place, and which leave it
  pub any_unit : (u : Rotation) (c : Coming) → AnyUnit u c
  pub any_turn : (u : Rotation) (i : Input) (y : List Float) → AnyTurn u i y
  pub admission : (h : List Act) (c : Coming) → AdmissionClaim h c
  pub leaves : (h : List Act) (i : Input) (y : List Float) → LeavesClaim h i y
  pub holds : (h : List Act) → HoldsClaim h
  pub never_23 : (u : Rotation) → Never23 u
