-- Up to sixteen paused runs on one unit, in rotation, one substep at a time (document 02, N6). Definitions only.
use Rattle.std.specs.Prelude.{Bool, true, false, ◌&&◌, List, [], ◌∷◌, ◌++◌, ℕ, ◌-◌, ltb, leb, length, get_or, set, replicate, Float}
use Rattle.std.specs.Float.{nan}
use Rattle.lists.specs.Find.{find}
use Rattle.lists.specs.Loop.{tabulate}
use Rattle.doubles.specs.F64.{+0, 1f}
use Rattle.krylov_advance.specs.Run.{empty_report}
use Rattle.krylov_job.specs.declared.KrylovPhiOptions.{KrylovPhiOptions}
use Rattle.paused_run.specs.Paused.{Job, Input, PausedCall, leaves, StartAnswer, start, StepAnswer, StepRefused, step}
use Rattle.paused_run.specs.declared.PausedRun.{PausedRun}
use Rattle.rotation.specs.declared.Rotation.{Rotation}
use Rattle.checks.specs.Reasons.{Refused}
use Rattle.std.specs.Prelude.{Ok, Err}
use Rattle.checks.specs.declared.Reason.TheVariants.{RunEnded, UnitFull}

-- ---- the unit: the runs by place, and a queue of places that ends at the first number above 15
-- a place that was never taken: a run that has ended
abbrev pub vacant : PausedRun
vacant =
    record {
      time = +0;
      next = +0;
      report = empty_report;
      eta = 1f;
      factors = record { down = 1f; up = 1f };
      norm = +0;
      tol = +0;
      m = 0;
      limit = 0;
      n = 0;
      count = 0;
      ended = true;
    }

-- what the code's read beyond the end of an array of runs stands for; a unit has sixteen
abbrev pub unread : PausedRun
unread =
    record {
      time = nan;
      next = nan;
      report = record { matvecs = 0; substeps = 0; rejected = 0; est_error = nan; shortest = nan; last = nan };
      eta = nan;
      factors = record { down = nan; up = nan };
      norm = nan;
      tol = nan;
      m = 0;
      limit = 0;
      n = 0;
      count = 0;
      ended = false;
    }

abbrev pub run_at : Rotation → ℕ → PausedRun
run_at u p = get_or u.places p unread

-- 'The unit, empty at first'
unfoldable pub empty : Rotation
empty = record { places = replicate 16 vacant; queue = replicate 16 16 }

-- the places that wait, in the order of their turns
unfoldable pub waiting : Rotation → List ℕ
waiting u = tabulate (find (λ k. leb 16 (get_or u.queue k 0)) 16) (λ k. get_or u.queue k 0)

-- sixteen numbers that hold them
unfoldable pub queue_of : List ℕ → List ℕ
queue_of l = l ++ replicate (16 - length l) 16

-- 'Asked, the unit names the place whose turn is next, or 16 if no run waits'
abbrev pub first_of : List ℕ → ℕ
first_of [] = 16
first_of (p ∷ l) = p

unfoldable pub next_place : Rotation → ℕ
next_place u = first_of (waiting u)

-- ---- a call: the unit after it, the place that was taken or whose turn it was (16: none), and the run's own call
pub record UnitCall (A : Type 0) : Type 0 where
  pub unit : Rotation
  pub place : ℕ
  pub call : PausedCall A

abbrev pub unit_call : {A : Type 0} → Rotation → ℕ → PausedCall A → UnitCall A
unit_call u p c = record { unit = u; place = p; call = c }

-- ---- a new run
-- 'the lowest free place of 0 to 15', 16 if there is none
unfoldable pub lowest_free : Rotation → ℕ
lowest_free u = find (λ p. (run_at u p).ended) 16

-- there is one, and the queue has room, as it has in every unit that a call left
unfoldable pub room : Rotation → Bool
room u = ltb (lowest_free u) 16 && ltb (length (waiting u)) 16

-- 'A new run joins the end'
abbrev pub seated : Rotation → PausedRun → Rotation
seated u s = record { places = set u.places (lowest_free u) s; queue = queue_of (waiting u ++ (lowest_free u ∷ [])) }

-- by whether the run has ended at its start ('takes none') and whether there is room (32)
abbrev pub admitted_by : Bool → Bool → Rotation → PausedRun → PausedCall StartAnswer → PausedCall StartAnswer → UnitCall StartAnswer
admitted_by true free u s c full = unit_call u 16 c
admitted_by false true u s c full = unit_call (seated u s) (lowest_free u) c
admitted_by false false u s c full = unit_call u 16 full

-- 'It refuses with 32, after all checks of the job itself, a seventeenth unfinished run': a refused start is refused as it is
unfoldable pub admitted : Rotation → StartAnswer → PausedCall StartAnswer → PausedCall StartAnswer → UnitCall StartAnswer
admitted u (Err r) c full = unit_call u 16 c
admitted u (Ok s) c full = admitted_by s.ended (room u) u s c full

-- c: as the start leaves output, working memory and field; full: nothing is changed
unfoldable pub join : Rotation → KrylovPhiOptions → Job → List Float → List Float → List Float → UnitCall StartAnswer
join u o j output memory field =
    let c = start o j output memory field in
    admitted u c.answer c (leaves (Refused UnitFull nan) output memory field)

-- ---- a turn
-- the run that a step hands back: after an early refusal the run as it was
abbrev pub run_left : StepAnswer → PausedRun
run_left (Err r) = r.run
run_left (Ok s) = s

-- 'an ended run leaves'; any other goes to the end: 'A turn refused early counts and passes on'
abbrev pub back : ℕ → Bool → List ℕ
back p true = []
back p false = p ∷ []

abbrev pub passed_on : Rotation → ℕ → List ℕ → PausedRun → Rotation
passed_on u p l s = record { places = set u.places p s; queue = queue_of (l ++ back p s.ended) }

-- the run whose turn it is makes one step on the field y; 'if no run waits; a turn is then refused with 31', and nothing is changed
unfoldable pub turn_of : List ℕ → Rotation → List Float → Input → UnitCall StepAnswer
turn_of [] u y i = unit_call u 16 (leaves (StepRefused RunEnded nan vacant) i.output i.memory y)
turn_of (p ∷ l) u y i =
    let c = step (run_at u p) y i in
    unit_call (passed_on u p l (run_left c.answer)) p c

unfoldable pub turn : Rotation → List Float → Input → UnitCall StepAnswer
turn u y i = turn_of (waiting u) u y i
