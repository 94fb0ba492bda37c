-- The order of the turns (document 02, N6). Assumes nothing.
use Rattle.std.specs.Prelude.{if◌then◌else◌}
use mathlib.Core.Path.{◌≡◌, refl, sym, ap, ◌∙◌, subst}
use mathlib.Core.Logic.{◌⊎◌, inl, inr}
use mathlib.Core.Bool.{Bool, true, false, not, ◌&&◌, ◌||◌, true≢false}
use mathlib.Core.List.{List, [], ◌∷◌, ◌++◌, append-nil}
use Prim.Native.Nat.{ℕ, suc, ◌+◌, ◌≤◌, ◌<◌, zero-le, suc-le-suc}
use native.Mathlib.Omega.{arith}
use lib.Dec.{eqb}
use lib.ListN.{length}
use lib.Ieee.{Float}
use borrow.Author.Tests.{eq-eqb, ne_eqb}
use Rattle.krylov_job.specs.declared.KrylovPhiOptions.{KrylovPhiOptions}
use Rattle.paused_run.specs.Paused.{Job, Input, step}
use Rattle.paused_run.specs.Paused.{StartAnswer}
use Rattle.paused_run.specs.Paused.{StepAnswer}
use Rattle.rotation.specs.Unit.{empty, waiting, first_of, next_place, UnitCall, lowest_free, run_at, join, run_left, back, turn}
use Rattle.rotation.specs.declared.Rotation.{Rotation}
use Rattle.rotation_claims.specs.History.{Act, joins, takes_turn, unit_after, event_of, unit_from, events_from, left_by, unfinished, turns_asked, turns_of}
use Rattle.rotation_claims.specs.Order.{times, QueueClaim, SixteenClaim, NextClaim, substep_in, substeps_of_others, FifteenClaim, place_in, ToTheEnd, SomeTurn}
use Rattle.rotation_claims.proofs.Queue.{times_append, times_here, times_other, times_none, times_first, none_above, place_below, waiting_places, waiting_few}
use Rattle.rotation_claims.proofs.Cases.{join_cases, place_is, was_free, waits_last, Served, turn_cases, first_below, waits_after}
use Rattle.rotation_claims.proofs.Orderly.{Orderly, in_queue, not_in, at_most, told_by, told_not, is_free, orderly}

-- ---- the queue
pub queue_claim : QueueClaim
queue_claim h p = (orderly h).once p

pub sixteen : (h : List Act) → SixteenClaim h
sixteen h =
    record {
      places = λ p e. place_below (waiting (left_by h)) p (waiting_places (left_by h)) (omega (arith, in_queue (orderly h) p e));
      few = waiting_few (left_by h);
      runs_long = (orderly h).runs;
      queue_long = (orderly h).queue;
    }

-- ---- which is next, of any unit
pub record First (u : Rotation) : Type 0 where
  pub others : List ℕ
  pub waits : waiting u ≡ next_place u ∷ others
  pub below : next_place u < 16

pub record None (u : Rotation) : Type 0 where
  pub waits : waiting u ≡ []
  pub next : next_place u ≡ 16

pub next_cases : (u : Rotation) → First u ⊎ None u
unfolding next_place
next_cases u = go (waiting u) refl
  where
    go : (l : List ℕ) → waiting u ≡ l → First u ⊎ None u
    go [] e = inr (record { waits = e; next = ap first_of e })
    go (p ∷ l) e =
        let next : first_of (waiting u) ≡ p = ap first_of e in
        inl (record { others = l; waits = e ∙ ap (λ (q : ℕ). q ∷ l) (sym next); below = omega (arith, next, first_below u p l e) })

pub first_there : (u : Rotation) → First u → 0 < times (next_place u) (waiting u)
first_there u k = subst (λ (l : List ℕ). 0 < times (next_place u) l) (sym k.waits) (times_first (next_place u) k.others)

pub turn_named : (u : Rotation) (y : List Float) (i : Input) → (turn u y i).place ≡ next_place u
unfolding next_place
turn_named u y i = elim (turn_cases u y i) [
  | inl k ↦ ap (λ (r : UnitCall StepAnswer). r.place) k.is ∙ sym (ap first_of k.waits)
  | inr k ↦ ap (λ (r : UnitCall StepAnswer). r.place) k.is ∙ sym (ap first_of k.waits)
]

pub next : (h : List Act) → NextClaim h
next h =
    record {
      named = λ i y. turn_named u y i;
      waits = λ l. elim (next_cases u) [
        | inl k ↦ told_by (orderly h) (next_place u) (first_there u k)
        | inr k ↦ absurd (omega (arith, k.next, l))
      ];
      only_none = λ e p. elim (next_cases u) [
        | inl k ↦ absurd (omega (arith, k.below, e))
        | inr k ↦ told_not (orderly h) p (ap (times p) k.waits ∙ times_none p)
      ];
      if_none = λ none. elim (next_cases u) [
        | inl k ↦ absurd (true≢false (sym (told_by (orderly h) (next_place u) (first_there u k)) ∙ none (next_place u) k.below))
        | inr k ↦ k.next
      ];
      bounded = elim (next_cases u) [
        | inl k ↦ (let l = k.below in omega (arith, l))
        | inr k ↦ (let l = k.next in omega (arith, l))
      ];
      empty_turn = λ e i y. elim (turn_cases u y i) [
        | inl k ↦ absurd (omega (arith, e, sym (turn_named u y i) ∙ ap (λ (r : UnitCall StepAnswer). r.place) k.is, first_below u k.p k.others k.waits))
        | inr k ↦ k.is
      ];
    }
  where
    u : Rotation
    u = left_by h

-- ---- 'at most 15': no more turns pass than stand ahead
unfoldable ahead : ℕ → List ℕ → ℕ
ahead p [] = 0
ahead p (q ∷ l) = if eqb q p then 0 else suc (ahead p l)

ahead_by : (b : Bool) (x y s t : ℕ) → (b ≡ false → x ≡ y) → (if b then 0 else suc x) ≡ (if b then 0 else suc y)
ahead_by true x y s t h = refl
ahead_by false x y s t h = ap suc (h refl)

ahead_on : (p : ℕ) (l m : List ℕ) → 0 < times p l → ahead p (l ++ m) ≡ ahead p l
unfolding ahead
ahead_on p [] m h = absurd (omega (arith, times_none p, h))
ahead_on p (q ∷ l) m h = ahead_by (eqb q p) _ _ 0 0 (λ e. ahead_on p l m (omega (arith, times_other p q l e, h)))

ahead_few_by : (b : Bool) (x n : ℕ) → (b ≡ false → x < n) → (if b then 0 else suc x) < suc n
ahead_few_by true x n h = suc-le-suc zero-le
ahead_few_by false x n h = suc-le-suc (h refl)

ahead_few : (p : ℕ) (l : List ℕ) → 0 < times p l → ahead p l < length l
unfolding ahead
ahead_few p [] h = absurd (omega (arith, times_none p, h))
ahead_few p (q ∷ l) h = ahead_few_by (eqb q p) (ahead p l) (length l) (λ e. ahead_few p l (omega (arith, times_other p q l e, h)))

ahead_other : (p q : ℕ) (l : List ℕ) → eqb q p ≡ false → ahead p (q ∷ l) ≡ suc (ahead p l)
unfolding ahead
ahead_other p q l e = rw e refl

-- what a join leaves of the queue: it, or one more at its end
pub record Longer (l m : List ℕ) : Type 0 where
  pub more : List ℕ
  pub is : m ≡ l ++ more

pub join_longer : (u : Rotation) (o : KrylovPhiOptions) (j : Job) (output memory field : List Float) → Longer (waiting u) (waiting (join u o j output memory field).unit)
join_longer u o j output memory field = elim (join_cases u o j output memory field) [
  | inl k ↦ record { more = lowest_free u ∷ []; is = ap (λ (r : UnitCall StartAnswer). waiting r.unit) k.is ∙ waits_last u k.room k.s }
  | inr k ↦ record { more = []; is = ap waiting k.unit ∙ sym (append-nil (waiting u)) }
]

-- and a turn
abbrev pub ended_of : Rotation → List Float → Input → ℕ → Bool
ended_of u y i p = (run_left (step (run_at u p) y i).answer).ended

pub turned_waits : (u : Rotation) (y : List Float) (i : Input) (k : Served u y i (turn u y i)) → waiting (turn u y i).unit ≡ k.others ++ back k.p (ended_of u y i k.p)
turned_waits u y i k = ap (λ (r : UnitCall StepAnswer). waiting r.unit) k.is ∙ waits_after u k.p k.others k.waits _

turned_unit : (u : Rotation) (y : List Float) (i : Input) (k : Served u y i (turn u y i)) → Longer k.others (waiting (turn u y i).unit)
turned_unit u y i k = record { more = back k.p (ended_of u y i k.p); is = turned_waits u y i k }

turned_place : (u : Rotation) (y : List Float) (i : Input) (k : Served u y i (turn u y i)) → (turn u y i).place ≡ k.p
turned_place u y i k = ap (λ (r : UnitCall StepAnswer). r.place) k.is

longer_times : (p : ℕ) {l m : List ℕ} → Longer l m → 0 < times p l → 0 < times p m
longer_times p {l} {m} k h = subst (λ (x : List ℕ). 0 < times p x) (sym k.is) (let e = times_append p l k.more in omega (arith, e, h))

longer_ahead : (p : ℕ) {l m : List ℕ} → Longer l m → 0 < times p l → ahead p m ≡ ahead p l
longer_ahead p {l} {m} k h = ap (ahead p) k.is ∙ ahead_on p l k.more h

-- a turn that is not p's
pub not_own : (p : ℕ) (b : Bool) (n : ℕ) → (if b then suc n else n) ≡ 0 → (b ≡ false) × (n ≡ 0)
not_own p true n e = absurd (omega (arith, e))
not_own p false n e = (refl, e)

fair : (p : ℕ) (u : Rotation) (l : List Act) → 0 < times p (waiting u) → turns_of p (events_from u l) ≡ 0 → turns_asked l ≤ ahead p (waiting u)
unfolding turns_asked turns_of events_from event_of unit_after
fair p u [] h e = zero-le
fair p u (joins o j output memory field ∷ l) h e =
    let k = join_longer u o j output memory field in
    let n = fair p (join u o j output memory field).unit l (longer_times p k h) e in
    omega (arith, n, longer_ahead p k h)
fair p u (takes_turn i y ∷ l) h e = elim (turn_cases u y i) [
  | inl k ↦
      let d = not_own p (eqb (turn u y i).place p) _ e in
      let other : eqb k.p p ≡ false = ap (λ (q : ℕ). eqb q p) (sym (turned_place u y i k)) ∙ d.0 in
      let there : times p (waiting u) ≡ times p k.others = ap (times p) k.waits ∙ times_other p k.p k.others other in
      let m = turned_unit u y i k in
      let before : ahead p (waiting u) ≡ suc (ahead p k.others) = ap (ahead p) k.waits ∙ ahead_other p k.p k.others other in
      let n = fair p (turn u y i).unit l (longer_times p m (omega (arith, there, h))) d.1 in
      omega (arith, n, before, longer_ahead p m (omega (arith, there, h)))
  | inr k ↦ absurd (omega (arith, ap (times p) k.waits ∙ times_none p, h))
]

fewer_by : (b : Bool) (x y : ℕ) → x ≤ y → (if b then suc x else x) ≤ suc y
fewer_by true x y h = suc-le-suc h
fewer_by false x y h = omega (arith, h)

substeps_few : (p : ℕ) (u : Rotation) (l : List Act) → substeps_of_others p (events_from u l) ≤ turns_asked l
unfolding turns_asked substeps_of_others events_from event_of unit_after
substeps_few p u [] = zero-le
substeps_few p u (joins o j output memory field ∷ l) = substeps_few p (unit_after u (joins o j output memory field)) l
substeps_few p u (takes_turn i y ∷ l) = fewer_by (not (eqb (turn u y i).place p) && substep_in (turn u y i).call.answer) _ _ (substeps_few p (unit_after u (takes_turn i y)) l)

pub fifteen : FifteenClaim
fifteen p h l e n =
    let there : 0 < times p (waiting (left_by h)) = omega (arith, in_queue (orderly h) p e) in
    let most : turns_asked l ≤ 15 = omega (arith, fair p (left_by h) l there n, ahead_few p (waiting (left_by h)) there, waiting_few (left_by h)) in
    record { turns = most; substeps = omega (arith, most, substeps_few p (left_by h) l) }

-- ---- to the end: q stands in front of p
unfoldable in_front : ℕ → ℕ → List ℕ → Bool
in_front q p [] = false
in_front q p (x ∷ l) = eqb x q || (not (eqb x p) && in_front q p l)

front_by : (a b c d : Bool) → (c ≡ true → d ≡ true) → (a || (b && c)) ≡ true → (a || (b && d)) ≡ true
front_by true b c d h e = refl
front_by false true c d h e = h e
front_by false false c d h e = e

front_on : (q p : ℕ) (l m : List ℕ) → in_front q p l ≡ true → in_front q p (l ++ m) ≡ true
unfolding in_front
front_on q p [] m h = absurd (true≢false (sym h))
front_on q p (x ∷ l) m h = front_by (eqb x q) (not (eqb x p)) _ _ (front_on q p l m) h

front_from : (q p : ℕ) (l : List ℕ) → 0 < times q l → times p l ≡ 0 → in_front q p l ≡ true
unfolding in_front
front_from q p [] h n = absurd (omega (arith, times_none q, h))
front_from q p (x ∷ l) h n = go (eqb x q) refl (front_from q p l)
  where
    go : (b : Bool) → eqb x q ≡ b → (0 < times q l → times p l ≡ 0 → in_front q p l ≡ true) → (b || (not (eqb x p) && in_front q p l)) ≡ true
    go true e k = refl
    go false e k =
        let d = not_own p (eqb x p) (times p l) (unfold times in n) in
        ap (λ (b : Bool). not b && in_front q p l) d.0 ∙ k (omega (arith, times_other q x l e, h)) d.1

front_longer : (q p : ℕ) {l m : List ℕ} → Longer l m → in_front q p l ≡ true → in_front q p m ≡ true
front_longer q p {l} k h = ap (in_front q p) k.is ∙ front_on q p l k.more h

-- of another's turn
front_next : (a b c : Bool) → a ≡ false → (a || (not b && c)) ≡ true → (b ≡ false) × (c ≡ true)
front_next true b c h e = absurd (true≢false h)
front_next false true c h e = absurd (true≢false (sym e))
front_next false false c h e = (refl, e)

behind : (q p : ℕ) (u : Rotation) (l : List Act) → in_front q p (waiting u) ≡ true → turns_of q (events_from u l) ≡ 0 → turns_of p (events_from u l) ≡ 0
unfolding turns_of events_from event_of unit_after
behind q p u [] h e = refl
behind q p u (joins o j output memory field ∷ l) h e = behind q p (join u o j output memory field).unit l (front_longer q p (join_longer u o j output memory field) h) e
behind q p u (takes_turn i y ∷ l) h e = elim (turn_cases u y i) [
  | inl k ↦
      let d = not_own q (eqb (turn u y i).place q) _ e in
      let place = turned_place u y i k in
      let other : eqb k.p q ≡ false = ap (λ (x : ℕ). eqb x q) (sym place) ∙ d.0 in
      let f = front_next (eqb k.p q) (eqb k.p p) (in_front q p k.others) other (unfold in_front in (sym (ap (in_front q p) k.waits) ∙ h)) in
      ap (λ (b : Bool). if b then suc (turns_of p (events_from (turn u y i).unit l)) else turns_of p (events_from (turn u y i).unit l)) (ap (λ (x : ℕ). eqb x p) place ∙ f.0)
      ∙ behind q p (turn u y i).unit l (front_longer q p (turned_unit u y i k) f.1) d.1
  | inr k ↦ absurd (true≢false (sym h ∙ (unfold in_front in ap (in_front q p) k.waits)))
]

pub unit_snoc : (u : Rotation) (h : List Act) (a : Act) → unit_from u (h ++ (a ∷ [])) ≡ unit_after (unit_from u h) a
unfolding unit_from
unit_snoc u [] a = refl
unit_snoc u (b ∷ h) a = unit_snoc (unit_after u b) h a

-- after the act a
module _ {u : Rotation} {f : ℕ → Bool} (o : Orderly u f) (q : ℕ) where
  one_not : (p : ℕ) → (p ≡ q → ⊥) → times q (p ∷ []) ≡ 0
  one_not p n = times_other q p [] (ne_eqb p q n) ∙ times_none q

  back_not : (p : ℕ) → (p ≡ q → ⊥) → (b : Bool) → times q (back p b) ≡ 0
  back_not p n true = times_none q
  back_not p n false = one_not p n

  after_act : (a : Act) (p : ℕ) → place_in (event_of u a) ≡ p → (p ≡ q → ⊥) → 0 < times q (waiting (unit_after u a)) → in_front q p (waiting (unit_after u a)) ≡ true
  unfolding event_of unit_after
  after_act (joins ko j output memory field) p ep n h = elim (join_cases u ko j output memory field) [
    | inl k ↦
        let r = join u ko j output memory field in
        let here : lowest_free u ≡ p = sym (ap (λ (x : UnitCall StartAnswer). x.place) k.is) ∙ ep in
        let w : waiting r.unit ≡ waiting u ++ (lowest_free u ∷ []) = ap (λ (x : UnitCall StartAnswer). waiting x.unit) k.is ∙ waits_last u k.room k.s in
        let free : times p (waiting u) ≡ 0 = ap (λ (x : ℕ). times x (waiting u)) (sym here) ∙ not_in o (lowest_free u) (is_free o (lowest_free u) (place_is u k.room) (was_free u k.room)) in
        let sum : times q (waiting r.unit) ≡ times q (waiting u) + times q (lowest_free u ∷ []) = ap (times q) w ∙ times_append q (waiting u) (lowest_free u ∷ []) in
        let there : 0 < times q (waiting u) = omega (arith, sum, one_not (lowest_free u) (λ e. n (sym here ∙ e)), h) in
        ap (in_front q p) w ∙ front_on q p (waiting u) (lowest_free u ∷ []) (front_from q p (waiting u) there free)
    | inr k ↦
        let w = ap waiting k.unit in
        ap (in_front q p) w ∙ front_from q p (waiting u) (omega (arith, ap (times q) w, h)) (none_above (waiting u) p (waiting_places u) (omega (arith, k.place, ep)))
  ]
  after_act (takes_turn i y) p ep n h = elim (turn_cases u y i) [
    | inl k ↦
        let here : k.p ≡ p = sym (turned_place u y i k) ∙ ep in
        let m = turned_unit u y i k in
        let once : times k.p k.others ≡ 0 = (let t = ap (times k.p) k.waits in omega (arith, t, times_here k.p k.p k.others (eq-eqb k.p k.p refl), at_most o k.p)) in
        let sum = ap (times q) (turned_waits u y i k) ∙ times_append q k.others (back k.p (ended_of u y i k.p)) in
        let there : 0 < times q k.others = omega (arith, sum, back_not k.p (λ e. n (sym here ∙ e)) (ended_of u y i k.p), h) in
        front_longer q p m (front_from q p k.others there (ap (λ (x : ℕ). times x k.others) (sym here) ∙ once))
    | inr k ↦
        let w = ap (λ (r : UnitCall StepAnswer). waiting r.unit) k.is ∙ k.waits in
        absurd (omega (arith, ap (times q) w ∙ times_none q, h))
  ]

pub to_the_end : ToTheEnd
to_the_end h a p q l ep n e nq =
    let same = unit_snoc empty h a in
    let there : times q (waiting (left_by (h ++ (a ∷ [])))) ≡ 1 = in_queue (orderly (h ++ (a ∷ []))) q e in
    let there' : 0 < times q (waiting (unit_after (left_by h) a)) = (let t = ap (λ (u : Rotation). times q (waiting u)) same in omega (arith, t, there)) in
    ap (λ (u : Rotation). turns_of p (events_from u l)) same
    ∙ behind q p (unit_after (left_by h) a) l (after_act (orderly h) q a p ep n there') (ap (λ (u : Rotation). turns_of q (events_from u l)) (sym same) ∙ nq)

pub some_turn : SomeTurn
some_turn h p e i y = elim (turn_cases (left_by h) y i) [
  | inl k ↦
      ap (unfinished h) (turned_place (left_by h) y i k)
      ∙ told_by (orderly h) k.p (subst (λ (l : List ℕ). 0 < times k.p l) (sym k.waits) (times_first k.p k.others))
  | inr k ↦ absurd (omega (arith, ap (times p) k.waits ∙ times_none p, in_queue (orderly h) p e))
]
