-- One barrel among any others (document 02, N6: 'Suppose the other runs are exchanged for any others and the same steps are given to one barrel: its field, report and run
-- refusals are as if it were alone'). Definitions only.
use Rattle.std.specs.Prelude.{◌≡◌, List, [], ◌∷◌, map, ℕ, ◌<◌, eqb, length, Float, if◌then◌else◌, Option}
use Rattle.checks.specs.First.{first, Checked}
use Rattle.krylov_job.specs.declared.KrylovPhiOptions.{KrylovPhiOptions}
use Rattle.paused_run.specs.Paused.{Job, Input, PausedCall, StartAnswer, start, StepAnswer, step_checks, step}
use Rattle.paused_run.specs.declared.PausedRun.{PausedRun}
use Rattle.demand_3.specs.Krylov.{Each}
use Rattle.paused_claims.specs.History.{run_in, Past, Left}
use Rattle.paused_claims.specs.Early.{Plain}
use Rattle.paused_claims.specs.Alike.{number_in}
use Rattle.rotation.specs.Unit.{UnitCall, join}
use Rattle.rotation_claims.specs.History.{Act, Event, joined, turned, events_from, left_by}
use Rattle.std.specs.Prelude.{Ok, Err}

-- ---- a barrel's own turns
-- what a turn brought, the field that was lent, and what it told
pub record OwnTurn : Type 0 where
  pub given : Input
  pub lent : List Float
  pub call : PausedCall StepAnswer

abbrev pub own_turn : Input → List Float → PausedCall StepAnswer → OwnTurn
own_turn i y c = record { given = i; lent = y; call = c }

-- place p's turns, up to the one that tells a run that has ended
unfoldable pub own_turns : ℕ → List Event → List OwnTurn
own_turns p [] = []
own_turns p (joined o j q c ∷ l) = own_turns p l
own_turns p (turned i y q c ∷ l) = if eqb q p then own_turn i y c ∷ (if (run_in c.answer).ended then [] else own_turns p l) else own_turns p l

-- N5's steps alone, each on the field that it is lent, which may be any
unfoldable pub steps_alone : PausedRun → List OwnTurn → List (PausedCall StepAnswer)
steps_alone s [] = []
steps_alone s (t ∷ l) = step s t.lent t.given ∷ steps_alone (run_in (step s t.lent t.given).answer) l

-- the first check that holds of it
abbrev pub checked_on : PausedRun → OwnTurn → Checked
checked_on s t = first (step_checks s (length t.lent) t.given)

-- its field, y at first, comes back at each turn as the last one that was not refused early left it; one that is refused early may be lent any
abbrev pub Back : Checked → List Float → OwnTurn → Type 0
Back (Err r) y t = Unit {0}
Back (Ok _) y t = t.lent ≡ y

abbrev pub left_in : Checked → List Float → OwnTurn → List Float
left_in (Err r) y t = y
left_in (Ok _) y t = t.call.field

unfoldable pub AsLeft : PausedRun → List Float → List OwnTurn → Type 0
AsLeft s y [] = Unit {0}
AsLeft s y (t ∷ l) = Back (checked_on s t) y t × AsLeft (run_in t.call.answer) (left_in (checked_on s t) y t) l

-- ---- from its arrival on: a job that comes after any acts `earlier`, with what it is lent, and any acts `later`
pub record Stay : Type 0 where
  pub earlier : List Act
  pub o : KrylovPhiOptions
  pub j : Job
  pub output : List Float
  pub memory : List Float
  pub field : List Float
  pub later : List Act

-- as N5's start alone answers
abbrev pub alone : Stay → PausedCall StartAnswer
alone v = start v.o v.j v.output v.memory v.field

abbrev pub arrival : Stay → UnitCall StartAnswer
arrival v = join (left_by v.earlier) v.o v.j v.output v.memory v.field

abbrev pub turns_in : Stay → List OwnTurn
turns_in v = own_turns (arrival v).place (events_from (arrival v).unit v.later)

-- it takes a place
pub record Placed (v : Stay) (s : PausedRun) : Type 0 where
  pub placed : (arrival v).place < 16
  pub began : (arrival v).call.answer ≡ Ok s

-- and its field comes back as it was left; the others' may be any
pub record Stays (v : Stay) (s : PausedRun) : Type 0 where
  pub takes : Placed v s
  pub as_left : AsLeft s (arrival v).call.field (turns_in v)

-- 'its field, report and run refusals are as if it were alone': answer, output, working memory and field of the start and of all its turns are what N5's start and steps
-- alone give to the same, whatever fields are lent
pub record Alone (v : Stay) (s : PausedRun) : Type 0 where
  pub at_start : (arrival v).call ≡ alone v
  pub at_turns : map (λ (t : OwnTurn). t.call) (turns_in v) ≡ steps_alone s (turns_in v)

abbrev pub AloneClaim : Type 0
AloneClaim = (v : Stay) (s : PausedRun) → Placed v s → Alone v s

-- the run and its field as its turns left them
unfoldable pub run_after : PausedRun → List OwnTurn → PausedRun
run_after s [] = s
run_after s (t ∷ l) = run_after (run_in t.call.answer) l

unfoldable pub field_after : PausedRun → List Float → List OwnTurn → List Float
field_after s y [] = y
field_after s y (t ∷ l) = field_after (run_in t.call.answer) (left_in (checked_on s t) y t) l

-- it is a run as N5 leaves it: all that is claimed of such runs is claimed of it
pub record IsLeft (v : Stay) (s : PausedRun) : Type 0 where
  pub past : Past
  pub left : Left v.o v.j past
  pub run : past.run ≡ run_after s (turns_in v)
  pub field : past.field ≡ field_after s (arrival v).call.field (turns_in v)

abbrev pub LeftClaim : Type 0
LeftClaim = (v : Stay) (s : PausedRun) → Stays v s → IsLeft v s

-- 'or 16 if no run waits; a turn is then refused with 31', and no other turn is, over generators none of whose own checks is numbered 31
abbrev pub Only31Claim : Type 0
Only31Claim =
    (v : Stay) (s : PausedRun) → Stays v s → Each (λ (t : OwnTurn). Plain t.given.job.g) (turns_in v) → Each (λ (t : OwnTurn). number_in t.call.answer ≡ 31 → ⊥) (turns_in v)

-- ---- two histories
-- a step that is given: a new tol or none, matrix, tau and vectors
pub record Given : Type 0 where
  pub tolerance : Option Float
  pub job : Job

-- what it tells: the report is in the answer's run, a run refusal in the answer
pub record Told (A : Type 0) : Type 0 where
  pub answer : A
  pub output : List Float
  pub field : List Float

abbrev pub told_of : {A : Type 0} → PausedCall A → Told A
told_of c = record { answer = c.answer; output = c.output; field = c.field }

-- not where it is refused early
abbrev pub unless_early : {A : Type 0} → Checked → A → List A → List A
unless_early (Err r) a l = l
unless_early (Ok _) a l = a ∷ l

-- the steps that are not refused early, on the run that each answer hands back
unfoldable pub given_from : PausedRun → List OwnTurn → List Given
given_from s [] = []
given_from s (t ∷ l) = unless_early (checked_on s t) (record { tolerance = t.given.tolerance; job = t.given.job }) (given_from (run_in t.call.answer) l)

-- and what they tell
unfoldable pub told_from : PausedRun → List OwnTurn → List (Told StepAnswer)
told_from s [] = []
told_from s (t ∷ l) = unless_early (checked_on s t) (told_of t.call) (told_from (run_in t.call.answer) l)

-- 'Suppose the other runs are exchanged for any others and the same steps are given to one barrel': in whatever places, at whatever turns, with whatever lent output and
-- working memory, and with whatever turns of its own refused early in between
pub record Exchanged (v w : Stay) (s t : PausedRun) : Type 0 where
  pub at_start : told_of (arrival v).call ≡ told_of (arrival w).call
  pub at_turns : told_from s (turns_in v) ≡ told_from t (turns_in w)

abbrev pub ExchangedClaim : Type 0
ExchangedClaim =
    (v w : Stay) (s t : PausedRun) → v.o ≡ w.o → v.j ≡ w.j → Stays v s → Stays w t → given_from s (turns_in v) ≡ given_from t (turns_in w) → Exchanged v w s t
