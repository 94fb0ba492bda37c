-- One barrel among any others (document 02, N6). Assumes nothing.
use Rattle.std.specs.Prelude.{if◌then◌else◌}
use mathlib.Core.Path.{◌≡◌, refl, sym, ap, ◌∙◌}
use mathlib.Core.Logic.{inl, inr}
use mathlib.Core.Bool.{Bool, true, false, true≢false}
use mathlib.Core.List.{List, [], ◌∷◌, map}
use Prim.Native.Nat.{ℕ, ◌<◌}
use native.Mathlib.Omega.{arith}
use lib.Dec.{eqb}
use lib.ListN.{length, length-set}
use lib.Ieee.{Float}
use borrow.Author.Tests.{eqb-true, eqb-false}
use Rattle.checks.specs.First.{first, Checked}
use Rattle.krylov_job.specs.declared.KrylovPhiOptions.{KrylovPhiOptions}
use Rattle.paused_run.specs.Paused.{Job, Input, PausedCall, StartAnswer, start, over, StepAnswer, step_checks, step_unless, step}
use Rattle.paused_run.specs.declared.PausedRun.{PausedRun}
use Rattle.rotation.specs.Unit.{run_at, UnitCall, lowest_free, join, turn}
use Rattle.rotation.specs.declared.Rotation.{Rotation}
use Rattle.demand_3.specs.Krylov.{Each}
use Rattle.paused_claims.specs.History.{run_in, Past, at_start, Left, started, stepped}
use Rattle.paused_claims.specs.Early.{Plain}
use Rattle.paused_claims.specs.Alike.{number_in}
use Rattle.paused_claims.proofs.Early.{over_left}
use Rattle.rotation_claims.specs.History.{Act, joins, takes_turn, unit_after, event_of, events_from, left_by}
use Rattle.rotation_claims.specs.Isolation.{OwnTurn, own_turn, own_turns, steps_alone, checked_on, Back, left_in, AsLeft, Stay, alone, arrival, turns_in, Placed, Stays, AloneClaim, run_after, field_after, IsLeft, LeftClaim, Only31Claim}
use Rattle.rotation_claims.proofs.Cases.{Seated, join_cases, place_is, was_free, turn_cases, same_run, first_below, held_there, held_else}
use Rattle.rotation_claims.proofs.Orderly.{orderly}
use Rattle.paused_claims.proofs.Standing.{same_run as same-started}
use Rattle.rotation_claims.proofs.Numbers.{only_over, step_number}
use Rattle.checks.specs.Reasons.{Refused}
use Rattle.std.specs.Prelude.{Ok, Err}
use Rattle.checks.specs.declared.Reason.{Reason}
use Rattle.checks.specs.declared.Reason.TheVariants.{RunEnded}

-- ---- a barrel's own turns: each is a step of the run that the last one left, and that run has not ended
abbrev pub Chain : PausedRun → List OwnTurn → Type 0
Chain s [] = Unit {0}
Chain s (t ∷ l) = (s.ended ≡ false) × (t.call ≡ step s t.lent t.given) × Chain (run_in t.call.answer) l

module _ (p : ℕ) (low : p < 16) (u : Rotation) where
  -- a join leaves it as it is
  join_keeps : (run_at u p).ended ≡ false → (o : KrylovPhiOptions) (j : Job) (output memory field : List Float) → run_at (join u o j output memory field).unit p ≡ run_at u p
  join_keeps on o j output memory field = elim (join_cases u o j output memory field) [
    | inl k ↦
        ap (λ (r : UnitCall StartAnswer). run_at r.unit p) k.is
        ∙ held_else u.places (lowest_free u) p k.s (λ e. true≢false (sym (was_free u k.room) ∙ ap (λ (q : ℕ). (run_at u q).ended) (sym e) ∙ on))
    | inr k ↦ ap (λ (x : Rotation). run_at x p) k.unit
  ]

  join_long : (o : KrylovPhiOptions) (j : Job) (output memory field : List Float) → length (join u o j output memory field).unit.places ≡ length u.places
  join_long o j output memory field = elim (join_cases u o j output memory field) [
    | inl k ↦ ap (λ (r : UnitCall StartAnswer). length r.unit.places) k.is ∙ length-set u.places (lowest_free u) k.s
    | inr k ↦ ap (λ (x : Rotation). length x.places) k.unit
  ]

  module _ (y : List Float) (i : Input) where
    abbrev r : UnitCall StepAnswer
    r = turn u y i

    turn_long : length r.unit.places ≡ length u.places
    turn_long = elim (turn_cases u y i) [
      | inl k ↦ ap (λ (x : UnitCall StepAnswer). length x.unit.places) k.is ∙ length-set u.places k.p _
      | inr k ↦ ap (λ (x : UnitCall StepAnswer). length x.unit.places) k.is
    ]

    -- nor does another's turn change it
    turn_keeps : eqb r.place p ≡ false → run_at r.unit p ≡ run_at u p
    turn_keeps e = elim (turn_cases u y i) [
      | inl k ↦
          ap (λ (x : UnitCall StepAnswer). run_at x.unit p) k.is
          ∙ held_else u.places k.p p _ (λ d. eqb-false r.place p e (ap (λ (x : UnitCall StepAnswer). x.place) k.is ∙ sym d))
      | inr k ↦ ap (λ (x : UnitCall StepAnswer). run_at x.unit p) k.is
    ]

    -- its own is its step
    own_call : eqb r.place p ≡ true → r.call ≡ step (run_at u p) y i
    own_call e = elim (turn_cases u y i) [
      | inl k ↦ ap (λ (x : UnitCall StepAnswer). x.call) k.is ∙ ap (λ (q : ℕ). step (run_at u q) y i) (sym (ap (λ (x : UnitCall StepAnswer). x.place) k.is) ∙ eqb-true r.place p e)
      | inr k ↦ absurd (omega (arith, ap (λ (x : UnitCall StepAnswer). x.place) k.is, eqb-true r.place p e, low))
    ]

    own_run : length u.places ≡ 16 → eqb r.place p ≡ true → run_at r.unit p ≡ run_in r.call.answer
    own_run l e = elim (turn_cases u y i) [
      | inl k ↦
          ap (run_at r.unit) (sym (eqb-true r.place p e))
          ∙ ap (λ (x : UnitCall StepAnswer). run_at x.unit x.place) k.is
          ∙ held_there u.places k.p _ l (first_below u k.p k.others k.waits)
          ∙ same_run (step (run_at u k.p) y i).answer
          ∙ sym (ap (λ (x : UnitCall StepAnswer). run_in x.call.answer) k.is)
      | inr k ↦ absurd (omega (arith, ap (λ (x : UnitCall StepAnswer). x.place) k.is, eqb-true r.place p e, low))
    ]

-- a turn among others
own_by : (s : PausedRun) (i : Input) (y : List Float) (c : PausedCall StepAnswer) (rest : List OwnTurn) (b : Bool) → s.ended ≡ false
    → (b ≡ false → Chain s rest)
    → (b ≡ true → c ≡ step s y i)
    → (b ≡ true → (run_in c.answer).ended ≡ false → Chain (run_in c.answer) rest)
    → Chain s (if b then own_turn i y c ∷ (if (run_in c.answer).ended then [] else rest) else rest)
own_by s i y c rest false on other own next = other refl
own_by s i y c rest true on other own next = (on, own refl, go (run_in c.answer).ended refl)
  where
    go : (d : Bool) → (run_in c.answer).ended ≡ d → Chain (run_in c.answer) (if d then [] else rest)
    go true e = tt
    go false e = next refl e

chain_from : (p : ℕ) → p < 16 → (u : Rotation) (s : PausedRun) (l : List Act) → length u.places ≡ 16 → run_at u p ≡ s → s.ended ≡ false → Chain s (own_turns p (events_from u l))
unfolding own_turns events_from event_of unit_after
chain_from p low u s [] long is on = tt
chain_from p low u s (joins o j output memory field ∷ l) long is on =
    chain_from p low (join u o j output memory field).unit s l (join_long p low u o j output memory field ∙ long) (join_keeps p low u (ap (λ (x : PausedRun). x.ended) is ∙ on) o j output memory field ∙ is) on
chain_from p low u s (takes_turn i y ∷ l) long is on =
    let r = turn u y i in
    own_by s i y r.call (own_turns p (events_from r.unit l)) (eqb r.place p) on
    (λ e. chain_from p low r.unit s l (turn_long p low u y i ∙ long) (turn_keeps p low u y i e ∙ is) on)
    (λ e. own_call p low u y i e ∙ ap (λ (x : PausedRun). step x y i) is)
    (λ e d. chain_from p low r.unit (run_in r.call.answer) l (turn_long p low u y i ∙ long) (own_run p low u y i long e) d)

-- ---- from its arrival on
module _ (v : Stay) (s : PausedRun) (h : Placed v s) where
  abbrev here : Rotation
  here = left_by v.earlier

  seat : Seated here (alone v) (arrival v)
  seat = elim (join_cases here v.o v.j v.output v.memory v.field) [
    | inl k ↦ k
    | inr k ↦ absurd (omega (arith, k.place, h.placed))
  ]

  pub at_start_is : (arrival v).call ≡ alone v
  at_start_is = ap (λ (r : UnitCall StartAnswer). r.call) seat.is

  run_is : seat.s ≡ s
  run_is = same-started (sym seat.started ∙ sym (ap (λ (c : PausedCall StartAnswer). c.answer) at_start_is) ∙ h.began)

  pub stay_chain : Chain s (turns_in v)
  stay_chain =
      chain_from (arrival v).place h.placed (arrival v).unit s v.later
      (ap (λ (r : UnitCall StartAnswer). length r.unit.places) seat.is ∙ length-set here.places (lowest_free here) seat.s ∙ (orderly v.earlier).runs)
      (ap (λ (r : UnitCall StartAnswer). run_at r.unit r.place) seat.is ∙ held_there here.places (lowest_free here) seat.s (orderly v.earlier).runs (place_is here seat.room) ∙ run_is)
      (ap (λ (x : PausedRun). x.ended) (sym run_is) ∙ seat.on)

chain_alone : (s : PausedRun) (l : List OwnTurn) → Chain s l → map (λ (t : OwnTurn). t.call) l ≡ steps_alone s l
unfolding steps_alone
chain_alone s [] h = refl
chain_alone s (t ∷ l) h =
    (λ n. h.1 n ∷ chain_alone (run_in t.call.answer) l h.2 n) ∙ ap (λ (c : PausedCall StepAnswer). step s t.lent t.given ∷ steps_alone (run_in c.answer) l) h.1

pub alone_claim : AloneClaim
alone_claim v s h = record { at_start = at_start_is v s h; at_turns = chain_alone s (turns_in v) (stay_chain v s h) }

-- ---- a run as N5 leaves it
-- refused early, it is as it was
pub early_same : (s : PausedRun) (y : List Float) (i : Input) {k : Reason} {x : Float} → first (step_checks s (length y) i) ≡ Refused k x → run_in (step s y i).answer ≡ s
unfolding step step_unless
early_same s y i e = rw e refl

record LeftFrom (o : KrylovPhiOptions) (j : Job) (s : PausedRun) (y : List Float) (l : List OwnTurn) : Type 0 where
  past : Past
  left : Left o j past
  run : past.run ≡ run_after s l
  field : past.field ≡ field_after s y l

module _ (o : KrylovPhiOptions) (j : Job) where
  -- what follows a turn, by its checks
  next_left : (t : OwnTurn) (s : PausedRun) (y : List Float) (p : Past) → Left o j p → p.run ≡ s → p.field ≡ y → t.call ≡ step s t.lent t.given → (c : Checked) → checked_on s t ≡ c → Back c y t
      → (q : Past) × Left o j q × (q.run ≡ run_in t.call.answer) × (q.field ≡ left_in c y t)
  next_left t s y p l er ey ec (Err r) e b =
      (p, l, er ∙ sym (ap (λ (c : PausedCall StepAnswer). run_in c.answer) ec ∙ early_same s t.lent t.given e), ey)
  next_left t s y p l er ey ec (Ok _) e b =
      let same : step p.run p.field t.given ≡ t.call = (λ n. step (er n) ((ey ∙ sym b) n) t.given) ∙ sym ec in
      (_, stepped l t.given, ap (λ (c : PausedCall StepAnswer). run_in c.answer) same, ap (λ (c : PausedCall StepAnswer). c.field) same)

  left_from : (l : List OwnTurn) (s : PausedRun) (y : List Float) (p : Past) → Left o j p → p.run ≡ s → p.field ≡ y → Chain s l → AsLeft s y l → LeftFrom o j s y l
  unfolding AsLeft run_after field_after
  left_from [] s y p l er ey h a = record { past = p; left = l; run = er; field = ey }
  left_from (t ∷ m) s y p l er ey h a =
      let n = next_left t s y p l er ey h.1 (checked_on s t) refl a.0 in
      let r = left_from m (run_in t.call.answer) (left_in (checked_on s t) y t) n.0 n.1 n.2 n.3 h.2 a.1 in
      record { past = r.past; left = r.left; run = r.run; field = r.field }

  -- no turn of its is refused with 31
  never_31 : (l : List OwnTurn) (s : PausedRun) (y : List Float) (p : Past) → Left o j p → p.run ≡ s → p.field ≡ y → Chain s l → AsLeft s y l → Each (λ (t : OwnTurn). Plain t.given.job.g) l
      → Each (λ (t : OwnTurn). number_in t.call.answer ≡ 31 → ⊥) l
  unfolding AsLeft
  never_31 [] s y p l er ey h a g = tt
  never_31 (t ∷ m) s y p l er ey h a g =
      let n = next_left t s y p l er ey h.1 (checked_on s t) refl a.0 in
      let fresh : over s ≡ false = ap over (sym er) ∙ over_left l ∙ ap (λ (x : PausedRun). x.ended) er ∙ h.0 in
      (λ e. step_number s t.lent t.given 31 (only_over s (length t.lent) t.given g.0.no_31 fresh) (λ z. absurd (omega (arith, z))) (λ z. absurd (omega (arith, z))) (λ z. absurd (omega (arith, z))) (λ z. absurd (omega (arith, z))) (ap (λ (c : PausedCall StepAnswer). number_in c.answer) (sym h.1) ∙ e), never_31 m (run_in t.call.answer) (left_in (checked_on s t) y t) n.0 n.1 n.2 n.3 h.2 a.1 g.1)

module _ (v : Stay) (s : PausedRun) (h : Stays v s) where
  abbrev c : PausedCall StartAnswer
  c = start v.o v.j v.output v.memory v.field

  began : c.answer ≡ Ok s
  began = sym (ap (λ (x : PausedCall StartAnswer). x.answer) (at_start_is v s h.takes)) ∙ h.takes.began

  field_is : c.field ≡ (arrival v).call.field
  field_is = sym (ap (λ (x : PausedCall StartAnswer). x.field) (at_start_is v s h.takes))

  pub is_left : IsLeft v s
  is_left =
      let r = left_from v.o v.j (turns_in v) s (arrival v).call.field (at_start v.o s c.field) (started v.output v.memory v.field began) refl field_is (stay_chain v s h.takes) h.as_left in
      record { past = r.past; left = r.left; run = r.run; field = r.field }

pub left_claim : LeftClaim
left_claim v s h = is_left v s h

pub only_31 : Only31Claim
only_31 v s h g =
    never_31 v.o v.j (turns_in v) s (arrival v).call.field (at_start v.o s (c v s h).field) (started v.output v.memory v.field (began v s h)) refl (field_is v s h) (stay_chain v s h.takes) h.as_left g
