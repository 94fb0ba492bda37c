-- What a join and a turn do, on any unit. Assumes nothing.
use mathlib.Core.Path.{◌≡◌, refl, ap, ◌∙◌, subst}
use mathlib.Core.Logic.{◌⊎◌, inl, inr}
use mathlib.Core.Bool.{Bool, true, false, not}
use mathlib.Core.List.{List, [], ◌∷◌, ◌++◌}
use Prim.Native.Nat.{ℕ, ◌+◌, ◌≤◌, ◌<◌}
use native.Mathlib.Omega.{arith}
use lib.ListN.{length, length-append, get_or, set}
use lib.Seq.{get_or-set_same, get_or-set_other}
use lib.Ieee.{Float, nan}
use Rattle.lists.proofs.Find.{find_holds}
use Rattle.krylov_job.specs.declared.KrylovPhiOptions.{KrylovPhiOptions}
use Rattle.paused_run.specs.Paused.{Job, Input, PausedCall, leaves, StartAnswer, start, StepAnswer, StepRefused, step}
use Rattle.paused_run.specs.declared.PausedRun.{PausedRun}
use Rattle.rotation.specs.Unit.{vacant, unread, run_at, waiting, UnitCall, unit_call, lowest_free, room, seated, admitted_by, admitted, join, run_left, back, passed_on, turn_of, turn}
use Rattle.rotation.specs.declared.Rotation.{Rotation}
use Rattle.rotation.proofs.Queue.{length_waiting, has_room}
use Rattle.paused_claims.specs.History.{run_in}
use Rattle.rotation_claims.specs.History.{goes_on}
use Rattle.rotation_claims.proofs.Queue.{Places, places_append, waiting_places, waiting_few, waiting_of}
use Rattle.checks.specs.Reasons.{Refused}
use Rattle.std.specs.Prelude.{Ok, Err}
use Rattle.checks.specs.declared.Reason.TheVariants.{RunEnded, UnitFull}

-- ---- a join: the run takes the lowest free place, or the unit is as it was
pub record Seated (u : Rotation) (c : PausedCall StartAnswer) (r : UnitCall StartAnswer) : Type 0 where
  pub s : PausedRun
  pub room : room u ≡ true
  pub started : c.answer ≡ Ok s
  pub on : s.ended ≡ false
  pub is : r ≡ unit_call (seated u s) (lowest_free u) c

pub record Unseated (u : Rotation) (r : UnitCall StartAnswer) : Type 0 where
  pub unit : r.unit ≡ u
  pub place : r.place ≡ 16
  pub over : goes_on r.call.answer ≡ false

join_by : (u : Rotation) (a : StartAnswer) (c full : PausedCall StartAnswer) → c.answer ≡ a → goes_on full.answer ≡ false → Seated u c (admitted u a c full) ⊎ Unseated u (admitted u a c full)
unfolding admitted
join_by u (Err r) c full e f = inr (record { unit = refl; place = refl; over = ap goes_on e })
join_by u (Ok s) c full e f = go s.ended (room u) refl refl
  where
    go : (d b : Bool) → s.ended ≡ d → room u ≡ b → Seated u c (admitted_by d b u s c full) ⊎ Unseated u (admitted_by d b u s c full)
    go true b ed eb = inr (record { unit = refl; place = refl; over = ap goes_on e ∙ ap not ed })
    go false true ed eb = inl (record { s = s; room = eb; started = e; on = ed; is = refl })
    go false false ed eb = inr (record { unit = refl; place = refl; over = f })

module _ (u : Rotation) (o : KrylovPhiOptions) (j : Job) (output memory field : List Float) where
  pub join_cases : Seated u (start o j output memory field) (join u o j output memory field) ⊎ Unseated u (join u o j output memory field)
  unfolding join
  join_cases = join_by u (start o j output memory field).answer (start o j output memory field) (leaves (Refused UnitFull nan) output memory field) refl refl

-- ---- room
module _ (u : Rotation) (e : room u ≡ true) where
  pub place_is : lowest_free u < 16
  place_is = (has_room u e).0

  pub queue_room : length (waiting u) < 16
  queue_room = (let l = length_waiting u in let r = (has_room u e).1 in omega (arith, l, r))

  -- the place is free
  pub was_free : (run_at u (lowest_free u)).ended ≡ true
  was_free = unfold lowest_free in find_holds (λ p. (run_at u p).ended) 16 (unfold lowest_free in place_is)

  -- 'A new run joins the end'
  pub waits_last : (s : PausedRun) → waiting (seated u s) ≡ waiting u ++ (lowest_free u ∷ [])
  waits_last s =
      let more = length-append (waiting u) (lowest_free u ∷ []) in
      waiting_of (set u.places (lowest_free u) s) (waiting u ++ (lowest_free u ∷ [])) (places_append (waiting u) (lowest_free u ∷ []) (waiting_places u) (place_is, tt)) (omega (arith, more, queue_room))

-- ---- a turn: none waits, or the first makes a step
pub record Served (u : Rotation) (y : List Float) (i : Input) (r : UnitCall StepAnswer) : Type 0 where
  pub p : ℕ
  pub others : List ℕ
  pub waits : waiting u ≡ p ∷ others
  pub is : r ≡ unit_call (passed_on u p others (run_left (step (run_at u p) y i).answer)) p (step (run_at u p) y i)

pub record Unserved (u : Rotation) (y : List Float) (i : Input) (r : UnitCall StepAnswer) : Type 0 where
  pub waits : waiting u ≡ []
  pub is : r ≡ unit_call u 16 (leaves (StepRefused RunEnded nan vacant) i.output i.memory y)

pub turn_cases : (u : Rotation) (y : List Float) (i : Input) → Served u y i (turn u y i) ⊎ Unserved u y i (turn u y i)
unfolding turn turn_of
turn_cases u y i = go (waiting u) refl
  where
    go : (l : List ℕ) → waiting u ≡ l → Served u y i (turn u y i) ⊎ Unserved u y i (turn u y i)
    go [] e = inr (record { waits = e; is = ap (λ (l : List ℕ). turn_of l u y i) e })
    go (p ∷ l) e = inl (record { p = p; others = l; waits = e; is = ap (λ (l : List ℕ). turn_of l u y i) e })

pub same_run : (a : StepAnswer) → run_left a ≡ run_in a
same_run (Err r) = refl
same_run (Ok s) = refl

back_few : (p : ℕ) (b : Bool) → length (back p b) ≤ 1
back_few p true = omega arith
back_few p false = omega arith

back_places : (p : ℕ) (b : Bool) → p < 16 → Places (back p b)
back_places p true h = tt
back_places p false h = (h, tt)

module _ (u : Rotation) (p : ℕ) (others : List ℕ) (e : waiting u ≡ p ∷ others) where
  all_places : Places (p ∷ others)
  all_places = subst Places e (waiting_places u)

  pub first_below : p < 16
  first_below = all_places.0

  pub others_below : Places others
  others_below = all_places.1

  few : length (p ∷ others) ≤ 16
  few = subst (λ (l : List ℕ). length l ≤ 16) e (waiting_few u)

  -- 'an ended run leaves', any other goes to the end
  pub waits_after : (s : PausedRun) → waiting (passed_on u p others s) ≡ others ++ back p s.ended
  waits_after s =
      let more = length-append others (back p s.ended) in
      waiting_of (set u.places p s) (others ++ back p s.ended) (places_append others (back p s.ended) others_below (back_places p s.ended first_below)) (omega (arith, more, back_few p s.ended, few))

-- ---- what a place holds
pub held_there : (places : List PausedRun) (p : ℕ) (s : PausedRun) → length places ≡ 16 → p < 16 → get_or (set places p s) p unread ≡ s
held_there places p s l h = get_or-set_same places p s unread (omega (arith, l, h))

pub held_else : (places : List PausedRun) (p q : ℕ) (s : PausedRun) → (q ≡ p → ⊥) → get_or (set places p s) q unread ≡ get_or places q unread
held_else places p q s h = get_or-set_other places p q s unread h
