-- The order of the turns (document 02, N6), from the empty unit on, whatever joins and turns are asked for and whatever fields are lent. Definitions only.
use Rattle.std.specs.Prelude.{◌≡◌, Bool, true, false, not, ◌&&◌, List, [], ◌∷◌, ◌++◌, ℕ, suc, ◌≤◌, ◌<◌, eqb, ltb, length, Float, if◌then◌else◌}
use Rattle.std.specs.Float.{nan}
use Rattle.paused_run.specs.Paused.{Input, leaves, StepAnswer, StepRefused}
use Rattle.rotation.specs.Unit.{vacant, waiting, next_place, unit_call, turn}
use Rattle.rotation_claims.specs.History.{Act, Event, joined, turned, event_of, events_from, left_by, unfinished, turns_asked, turns_of}
use Rattle.checks.specs.declared.Reason.TheVariants.{RunEnded}
use Rattle.checks.specs.Reasons.{number}
use Rattle.std.specs.Prelude.{Ok, Err}

-- ---- the queue
unfoldable pub times : ℕ → List ℕ → ℕ
times p [] = 0
times p (q ∷ l) = if eqb q p then suc (times p l) else times p l

-- 'serve up to 16 paused runs in rotation': it names each place that has an unfinished run just once, and no other
abbrev pub QueueClaim : Type 0
QueueClaim = (h : List Act) (p : ℕ) → times p (waiting (left_by h)) ≡ (if unfinished h p then 1 else 0)

-- 'shall serve up to 16 paused runs': places are 0 to 15, and at most sixteen wait
pub record SixteenClaim (h : List Act) : Type 0 where
  pub places : (p : ℕ) → unfinished h p ≡ true → p < 16
  pub few : length (waiting (left_by h)) ≤ 16
  pub runs_long : length (left_by h).places ≡ 16
  pub queue_long : length (left_by h).queue ≡ 16

-- ---- 'Asked, the unit names the place whose turn is next, or 16 if no run waits; a turn is then refused with 31'
pub record NextClaim (h : List Act) : Type 0 where
  -- the place named is that of the turn
  pub named : (i : Input) (y : List Float) → (turn (left_by h) y i).place ≡ next_place (left_by h)
  -- a place named has an unfinished run
  pub waits : next_place (left_by h) < 16 → unfinished h (next_place (left_by h)) ≡ true
  -- 16 exactly if no run waits
  pub only_none : next_place (left_by h) ≡ 16 → (p : ℕ) → unfinished h p ≡ false
  pub if_none : ((p : ℕ) → p < 16 → unfinished h p ≡ false) → next_place (left_by h) ≡ 16
  pub bounded : next_place (left_by h) ≤ 16
  -- a turn is then 31, which carries NaN and changes nothing
  pub empty_turn : next_place (left_by h) ≡ 16 → (i : Input) (y : List Float) → turn (left_by h) y i ≡ unit_call (left_by h) 16 (leaves (StepRefused RunEnded nan vacant) i.output i.memory y)

-- ---- 'Between two turns of a waiting run at most 15 substeps of others are served'
-- a substep was made: an answer, or 27 to 29
abbrev pub substep_in : StepAnswer → Bool
substep_in (Ok s) = true
substep_in (Err r) = ltb 26 (number r.refusal.reason) && ltb (number r.refusal.reason) 30

-- substeps of places other than p
unfoldable pub substeps_of_others : ℕ → List Event → ℕ
substeps_of_others p [] = 0
substeps_of_others p (joined o j q c ∷ l) = substeps_of_others p l
substeps_of_others p (turned i y q c ∷ l) = if not (eqb q p) && substep_in c.answer then suc (substeps_of_others p l) else substeps_of_others p l

-- after h the run in p is unfinished; among the acts l none is its turn. Then at most 15 turns were asked for, those refused early among them; that a turn makes at most one
-- substep is specs/Isolation's AloneClaim
pub record Fifteen (p : ℕ) (h l : List Act) : Type 0 where
  pub turns : turns_asked l ≤ 15
  pub substeps : substeps_of_others p (events_from (left_by h) l) ≤ 15

abbrev pub FifteenClaim : Type 0
FifteenClaim = (p : ℕ) (h l : List Act) → unfinished h p ≡ true → turns_of p (events_from (left_by h) l) ≡ 0 → Fifteen p h l

-- ---- 'A new run joins the end'; 'A turn refused early counts and passes on'
-- the act is the arrival of the run in place p, or its turn
abbrev pub place_in : Event → ℕ
place_in (joined o j q c) = q
place_in (turned i y q c) = q

-- after it, each other unfinished run has a turn before p has one: while q has none, p has none
abbrev pub ToTheEnd : Type 0
ToTheEnd =
    (h : List Act) (a : Act) (p q : ℕ) (l : List Act)
    → place_in (event_of (left_by h) a) ≡ p
    → (p ≡ q → ⊥)
    → unfinished (h ++ (a ∷ [])) q ≡ true
    → turns_of q (events_from (left_by (h ++ (a ∷ []))) l) ≡ 0
    → turns_of p (events_from (left_by (h ++ (a ∷ []))) l) ≡ 0

-- 'one substep at a time': while a run is unfinished, each turn is that of an unfinished run
abbrev pub SomeTurn : Type 0
SomeTurn = (h : List Act) (p : ℕ) → unfinished h p ≡ true → (i : Input) (y : List Float) → unfinished h (turn (left_by h) y i).place ≡ true
