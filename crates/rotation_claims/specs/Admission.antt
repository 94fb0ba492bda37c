-- Which runs take a place, and which (document 02, N6). Definitions only.
use Rattle.std.specs.Prelude.{◌≡◌, ◌⊎◌, Bool, true, false, List, [], ◌∷◌, ◌++◌, ℕ, ◌<◌, length, Float}
use Rattle.std.specs.Float.{nan}
use Rattle.checks.specs.First.{first, before}
use Rattle.krylov_job.specs.declared.KrylovPhiOptions.{KrylovPhiOptions}
use Rattle.paused_run.specs.Paused.{Job, Input, PausedCall, leaves, StartAnswer, start, StepAnswer, StepRefused, step}
use Rattle.paused_run.specs.declared.PausedRun.{PausedRun}
use Rattle.demand_3.specs.Krylov.{Zeros}
use Rattle.paused_claims.specs.History.{values_in, run_in}
use Rattle.paused_claims.specs.Start.{values_of, job_checks, Refuses}
use Rattle.rotation.specs.Unit.{vacant, run_at, waiting, next_place, UnitCall, unit_call, join, turn}
use Rattle.rotation.specs.declared.Rotation.{Rotation}
use Rattle.rotation_claims.specs.History.{Act, left_by, unfinished}
use Rattle.checks.specs.Reasons.{Sound, Refused}
use Rattle.std.specs.Prelude.{Ok}
use Rattle.checks.specs.declared.Reason.TheVariants.{RunEnded, UnitFull}
use Rattle.checks.specs.declared.Reason.{Reason}

-- a job as it comes to the unit: options, matrix, tau and vectors, and what is lent
pub record Coming : Type 0 where
  pub o : KrylovPhiOptions
  pub j : Job
  pub output : List Float
  pub memory : List Float
  pub field : List Float

abbrev pub join_to : Rotation → Coming → UnitCall StartAnswer
join_to u c = join u c.o c.j c.output c.memory c.field

abbrev pub start_of : Coming → PausedCall StartAnswer
start_of c = start c.o c.j c.output c.memory c.field

-- no check of the job itself holds: those of the whole call, and the field's length
abbrev pub Passes : Coming → Type 0
Passes c = (Sound ≡ first (job_checks c.o c.j c.output c.memory)) × (length c.field ≡ values_in c.j)

-- it passes, and the run is unfinished at its start: not all zeros
abbrev pub Unfinished : Coming → Type 0
Unfinished c = Passes c × (Zeros (values_of c.j) → ⊥)

-- sixteen runs are unfinished
abbrev pub Full : List Act → Type 0
Full h = (p : ℕ) → p < 16 → unfinished h p ≡ true

-- p is the lowest place of 0 to 15 that has none
pub record Lowest (h : List Act) (p : ℕ) : Type 0 where
  pub place : p < 16
  pub free : unfinished h p ≡ false
  pub lower : (q : ℕ) → q < p → unfinished h q ≡ true

-- nothing but the answer
abbrev pub refused_32 : Rotation → Coming → UnitCall StartAnswer
refused_32 u c = unit_call u 16 (leaves (Refused UnitFull nan) c.output c.memory c.field)

-- ---- on any unit, one that no call left too
pub record AnyUnit (u : Rotation) (c : Coming) : Type 0 where
  -- 'after all checks of the job itself': refused as the start alone, nothing changed and no place taken
  pub refused : (k : Reason) (x : Float) → Refuses c.o c.j c.output c.memory c.field k x → join_to u c ≡ unit_call u 16 (leaves (Refused k x) c.output c.memory c.field)
  -- 'one ended at its start takes none', and is served as by the start alone, on a full unit too
  pub idle : Passes c → Zeros (values_of c.j) → join_to u c ≡ unit_call u 16 (start_of c)
  -- 'Only its admission, place and turns depend on the others': the start's own call, or 32
  pub else_32 : ((join_to u c).call ≡ start_of c) ⊎ (join_to u c ≡ refused_32 u c)

-- a turn: of the place named, by N5's step on the run in it; 31 if none is named
pub record AnyTurn (u : Rotation) (i : Input) (y : List Float) : Type 0 where
  pub named : (turn u y i).place ≡ next_place u
  pub one_step : next_place u < 16 → (turn u y i).call ≡ step (run_at u (next_place u)) y i
  pub none : next_place u ≡ 16 → turn u y i ≡ unit_call u 16 (leaves (StepRefused RunEnded nan vacant) i.output i.memory y)

-- ---- on every unit that was left
pub record AdmissionClaim (h : List Act) (c : Coming) : Type 0 where
  -- 'It refuses with 32, after all checks of the job itself, a seventeenth unfinished run': exactly so, over a generator none of whose own checks is numbered 32
  pub if_32 : Unfinished c → Full h → join_to (left_by h) c ≡ refused_32 (left_by h) c
  pub only_32 : before UnitFull c.j.g.checks ≡ c.j.g.checks → (x : Float) → (join_to (left_by h) c).call.answer ≡ Refused UnitFull x → Unfinished c × Full h
  -- 'A new run joins the end in the lowest free place of 0 to 15': exactly that one
  pub if_lowest : Unfinished c → (p : ℕ) → Lowest h p → ((join_to (left_by h) c).place ≡ p) × ((join_to (left_by h) c).call ≡ start_of c)
  pub only_lowest : (join_to (left_by h) c).place < 16 → Unfinished c × Lowest h (join_to (left_by h) c).place
  pub at_the_end : (join_to (left_by h) c).place < 16 → waiting (join_to (left_by h) c).unit ≡ waiting (left_by h) ++ ((join_to (left_by h) c).place ∷ [])
  -- else it takes none, and the unit is as it was
  pub or_none : ((join_to (left_by h) c).place < 16) ⊎ (((join_to (left_by h) c).place ≡ 16) × ((join_to (left_by h) c).unit ≡ left_by h))

-- ---- a turn of a unit that was left
abbrev pub turn_on : List Act → Input → List Float → UnitCall StepAnswer
turn_on h i y = turn (left_by h) y i

abbrev pub ended_in : UnitCall StepAnswer → Bool
ended_in r = (run_in r.call.answer).ended

pub record LeavesClaim (h : List Act) (i : Input) (y : List Float) : Type 0 where
  -- 'an ended run leaves': the others wait as they did
  pub moves : (turn_on h i y).place < 16 → ended_in (turn_on h i y) ≡ true → waiting (left_by h) ≡ (turn_on h i y).place ∷ waiting (turn_on h i y).unit
  -- 'A turn refused early counts and passes on': whatever its answer, a run that has not ended goes to the end
  pub passes_on : (turn_on h i y).place < 16 → ended_in (turn_on h i y) ≡ false → ((turn_on h i y).place ∷ waiting (turn_on h i y).unit) ≡ waiting (left_by h) ++ ((turn_on h i y).place ∷ [])
  -- 'and its place can be taken again': by the next unfinished run, where no lower place is free
  pub again :
      (turn_on h i y).place < 16
      → ended_in (turn_on h i y) ≡ true
      → ((q : ℕ) → q < (turn_on h i y).place → unfinished h q ≡ true)
      → (c : Coming)
      → Unfinished c
      → ((join_to (turn_on h i y).unit c).place ≡ (turn_on h i y).place) × ((join_to (turn_on h i y).unit c).call ≡ start_of c)

-- what a place holds: the run last told of it
pub record HoldsClaim (h : List Act) : Type 0 where
  pub by_join : (c : Coming) (s : PausedRun) → (join_to (left_by h) c).place < 16 → (join_to (left_by h) c).call.answer ≡ Ok s → run_at (join_to (left_by h) c).unit (join_to (left_by h) c).place ≡ s
  pub by_turn : (i : Input) (y : List Float) → (turn_on h i y).place < 16 → run_at (turn_on h i y).unit (turn_on h i y).place ≡ run_in (turn_on h i y).call.answer
  pub others_join : (c : Coming) (q : ℕ) → (q ≡ (join_to (left_by h) c).place → ⊥) → run_at (join_to (left_by h) c).unit q ≡ run_at (left_by h) q
  pub others_turn : (i : Input) (y : List Float) (q : ℕ) → (q ≡ (turn_on h i y).place → ⊥) → run_at (turn_on h i y).unit q ≡ run_at (left_by h) q
