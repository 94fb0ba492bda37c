-- Joins and turns one after the other on one unit, and what they answered (document 02, N6: 'The unit, empty at first and coming back as left'). The claims are told by the
-- answers, not by what the unit holds. Definitions only.
use Rattle.std.specs.Prelude.{Bool, false, not, ◌&&◌, ◌||◌, List, [], ◌∷◌, ℕ, suc, eqb, Float, if◌then◌else◌}
use Rattle.krylov_job.specs.declared.KrylovPhiOptions.{KrylovPhiOptions}
use Rattle.paused_run.specs.Paused.{Job, Input, PausedCall, StartAnswer, StepAnswer}
use Rattle.paused_claims.specs.History.{run_in}
use Rattle.rotation.specs.Unit.{empty, join, turn}
use Rattle.rotation.specs.declared.Rotation.{Rotation}
use Rattle.std.specs.Prelude.{Ok, Err}

-- what a caller does: a start with its lent output, working memory and field; or a turn with what its step brings (a new tol or none, matrix, tau and vectors, output,
-- working memory) and the field that is lent, which may be any
pub data Act : Type 0 where
  joins : KrylovPhiOptions → Job → (output memory field : List Float) → Act
  takes_turn : Input → (field : List Float) → Act

-- what it brought and what was told: the place (16: none) and the call, which is answer, output, working memory and field
pub data Event : Type 0 where
  joined : KrylovPhiOptions → Job → (place : ℕ) → PausedCall StartAnswer → Event
  turned : Input → (lent : List Float) → (place : ℕ) → PausedCall StepAnswer → Event

unfoldable pub unit_after : Rotation → Act → Rotation
unit_after u (joins o j output memory field) = (join u o j output memory field).unit
unit_after u (takes_turn i field) = (turn u field i).unit

unfoldable pub event_of : Rotation → Act → Event
event_of u (joins o j output memory field) =
    let r = join u o j output memory field in
    joined o j r.place r.call
event_of u (takes_turn i field) =
    let r = turn u field i in
    turned i field r.place r.call

-- of several, the unit coming back as it was left
unfoldable pub unit_from : Rotation → List Act → Rotation
unit_from u [] = u
unit_from u (a ∷ l) = unit_from (unit_after u a) l

unfoldable pub events_from : Rotation → List Act → List Event
events_from u [] = []
events_from u (a ∷ l) = event_of u a ∷ events_from (unit_after u a) l

-- from the empty unit
abbrev pub left_by : List Act → Rotation
left_by h = unit_from empty h

-- ---- the unfinished runs, as the answers tell
-- a start that was accepted and has not ended
abbrev pub goes_on : StartAnswer → Bool
goes_on (Err r) = false
goes_on (Ok s) = not s.ended

-- place p has an unfinished run: from the join that took the place to the turn of that place whose answer is a run that has ended
unfoldable pub unfinished_from : Bool → ℕ → List Event → Bool
unfinished_from b p [] = b
unfinished_from b p (joined o j q c ∷ l) = unfinished_from (b || (eqb q p && goes_on c.answer)) p l
unfinished_from b p (turned i y q c ∷ l) = unfinished_from (if eqb q p then not (run_in c.answer).ended else b) p l

abbrev pub unfinished : List Act → ℕ → Bool
unfinished h p = unfinished_from false p (events_from empty h)

-- ---- turns
-- how many were asked for, whatever was told
unfoldable pub turns_asked : List Act → ℕ
turns_asked [] = 0
turns_asked (joins o j output memory field ∷ l) = turns_asked l
turns_asked (takes_turn i field ∷ l) = suc (turns_asked l)

-- how many were place p's
unfoldable pub turns_of : ℕ → List Event → ℕ
turns_of p [] = 0
turns_of p (joined o j q c ∷ l) = turns_of p l
turns_of p (turned i y q c ∷ l) = if eqb q p then suc (turns_of p l) else turns_of p l
