-- A unit as 160 doubles and 144 numbers, and its calls as an exported function hands them back (document 02, N6). Definitions only.
use Rattle.std.specs.Prelude.{Bool, true, false, ◌&&◌, List, [], ◌++◌, ℕ, ◌*◌, eqb, ltb, length, get_or, replicate, Float, if◌then◌else◌}
use Rattle.std.specs.Float.{nan}
use Rattle.lists.specs.Loop.{tabulate, stack}
use Rattle.lists.specs.Window.{window}
use Rattle.checks.specs.First.{first}
use Rattle.krylov_job.specs.declared.KrylovPhiOptions.{KrylovPhiOptions}
use Rattle.paused_run.specs.Paused.{Job, Input, leaves, start_checks, start_unless}
use Rattle.rotation.specs.Unit.{unread, run_at, empty, next_place, UnitCall, admitted, turn}
use Rattle.rotation.specs.declared.Rotation.{Rotation}
use Rattle.exports_paused.specs.Told.{numbers_of, counts_of, held, State, start_state, step_state, Told, told, state_checks}
use Rattle.checks.specs.Reasons.{Refused}
use Rattle.checks.specs.declared.Reason.TheVariants.{UnitFull}

-- ---- the unit's doubles: those of the run in place 0, in place 1, .. in place 15; its numbers: so too, then the queue
abbrev pub unit_numbers : Rotation → List Float
unit_numbers u = stack 16 (λ p. numbers_of (run_at u p))

abbrev pub unit_counts : Rotation → List ℕ
unit_counts u = stack 16 (λ p. counts_of (run_at u p)) ++ tabulate 16 (λ k. get_or u.queue k 0)

-- slices of other lengths hold no unit
unfoldable pub unit_fits : List Float → List ℕ → Bool
unit_fits numbers counts = eqb (length numbers) 160 && eqb (length counts) 144

abbrev pub held_unit : List Float → List ℕ → Rotation
held_unit numbers counts = record { places = tabulate 16 (λ p. held (window (10 * p) 10 numbers) (window (8 * p) 8 counts)); queue = window 128 16 counts }

-- where no run waits and no place is free: 16 is next, a turn is 31, and a join of an unfinished run 32, after all checks
abbrev pub no_unit : Rotation
no_unit = record { places = replicate 16 unread; queue = replicate 16 16 }

unfoldable pub unit_of : List Float → List ℕ → Rotation
unit_of numbers counts = if unit_fits numbers counts then held_unit numbers counts else no_unit

-- ---- what is handed back: of the run as by a start or a step, the place (16: none), and the unit
pub record UnitTold : Type 0 where
  pub run : Told
  pub place : ℕ
  pub numbers : List Float
  pub counts : List ℕ

abbrev pub unit_told : Told → ℕ → List Float → List ℕ → UnitTold
unit_told r p numbers counts = record { run = r; place = p; numbers = numbers; counts = counts }

-- the unit is written where a place was taken or had a turn, refused early too; else it is as it was
abbrev pub kept_or : {A : Type 0} → Bool → A → A → A
kept_or true after before = after
kept_or false after before = before

unfoldable pub told_by : {A : Type 0} → UnitCall A → State → List Float → List ℕ → UnitTold
told_by r s numbers counts =
    unit_told (told s r.call.output r.call.memory r.call.field) r.place (kept_or (ltb r.place 16) (unit_numbers r.unit) numbers)
    (kept_or (ltb r.place 16) (unit_counts r.unit) counts)

-- 26 also where the state's slices do not fit it, as of a start
unfoldable pub join_told : KrylovPhiOptions → Job → List Float → List Float → List Float → List Float → List ℕ → List Float → List ℕ → UnitTold
join_told o j output memory field units queues numbers counts =
    let c = start_unless (first (start_checks o j (length output) (length memory) (length field) ++ state_checks numbers counts)) o j output memory field in
    let r = admitted (unit_of units queues) c.answer c (leaves (Refused UnitFull nan) output memory field) in
    told_by r (start_state r.call.answer numbers counts) units queues

-- the run's state is written where it was not refused early, to slices that fit it
unfoldable pub turn_told : Input → List Float → List Float → List ℕ → List Float → List ℕ → UnitTold
turn_told i field units queues numbers counts =
    let r = turn (unit_of units queues) field i in
    told_by r (step_state r.call.answer numbers counts) units queues

-- of the numbers alone: 16 where they are not as many
unfoldable pub next_told : List ℕ → ℕ
next_told queues = if eqb (length queues) 144 then next_place (record { places = []; queue = window 128 16 queues }) else 16

-- the empty unit, to slices that fit it; else 26, and they are left as they are
pub record Cleared : Type 0 where
  pub number : ℕ
  pub numbers : List Float
  pub counts : List ℕ

abbrev pub cleared : ℕ → List Float → List ℕ → Cleared
cleared k numbers counts = record { number = k; numbers = numbers; counts = counts }

unfoldable pub clear_told : List Float → List ℕ → Cleared
clear_told numbers counts = if unit_fits numbers counts then cleared 0 (unit_numbers empty) (unit_counts empty) else cleared 26 numbers counts
