-- A unit that joins and turns left: the queue names each unfinished run once, and the other places are free. Assumes nothing.
use Rattle.std.specs.Prelude.{if◌then◌else◌}
use mathlib.Core.Path.{◌≡◌, refl, sym, ap, ◌∙◌, subst}
use mathlib.Core.Logic.{inl, inr}
use mathlib.Core.Bool.{Bool, true, false, not, ◌&&◌, ◌||◌}
use mathlib.Core.List.{List, [], ◌∷◌, ◌++◌}
use Prim.Native.Nat.{ℕ, suc, ◌+◌, ◌≤◌, ◌<◌}
use native.Mathlib.Omega.{arith}
use lib.Dec.{eqb}
use lib.ListN.{length, length-append, length-set, get_or-replicate}
use lib.Ieee.{Float}
use borrow.Author.Tests.{eqb-true, eqb-false, not-true, not-false}
use Rattle.lists.specs.Find.{find}
use Rattle.lists.specs.Loop.{tabulate}
use Rattle.krylov_job.specs.declared.KrylovPhiOptions.{KrylovPhiOptions}
use Rattle.paused_run.specs.Paused.{Job, Input, PausedCall, step}
use Rattle.paused_run.specs.declared.PausedRun.{PausedRun}
use Rattle.paused_run.specs.Paused.{StartAnswer}
use Rattle.paused_run.specs.Paused.{StepAnswer}
use Rattle.rotation.specs.Unit.{vacant, unread, run_at, empty, waiting, UnitCall, unit_call, lowest_free, seated, join, run_left, back, passed_on, turn}
use Rattle.rotation.specs.declared.Rotation.{Rotation}
use Rattle.paused_claims.specs.History.{run_in}
use Rattle.lists.proofs.Tests.{or_true, and_false}
use Rattle.rotation_claims.specs.History.{Act, joins, takes_turn, Event, joined, turned, unit_after, event_of, unit_from, events_from, left_by, goes_on, unfinished_from, unfinished}
use Rattle.rotation_claims.specs.Order.{times}
use Rattle.rotation_claims.proofs.Queue.{times_append, times_here, times_other, times_none, waiting_few, queue_long}
use Rattle.rotation_claims.proofs.Cases.{Seated, Unseated, join_cases, place_is, queue_room, was_free, waits_last, Served, Unserved, turn_cases, same_run, first_below, waits_after, held_there, held_else}

pub record Orderly (u : Rotation) (f : ℕ → Bool) : Type 0 where
  pub runs : length u.places ≡ 16
  pub queue : length u.queue ≡ 16
  pub once : (p : ℕ) → times p (waiting u) ≡ (if f p then 1 else 0)
  pub free : (p : ℕ) → p < 16 → (run_at u p).ended ≡ not (f p)

pub ordered : {u : Rotation} {f : ℕ → Bool} → Orderly u f → {v : Rotation} {g : ℕ → Bool} → v ≡ u → ((p : ℕ) → g p ≡ f p) → Orderly v g
ordered {u} {f} h {v} {g} e k =
    subst (λ (x : Rotation). Orderly x g) (sym e)
    (record {
      runs = h.runs;
      queue = h.queue;
      once = λ p. h.once p ∙ ap (λ (b : Bool). if b then 1 else 0) (sym (k p));
      free = λ p l. h.free p l ∙ ap not (sym (k p));
    })

-- ---- what it tells
module _ {u : Rotation} {f : ℕ → Bool} (h : Orderly u f) (p : ℕ) where
  pub in_queue : f p ≡ true → times p (waiting u) ≡ 1
  in_queue e = h.once p ∙ ap (λ (b : Bool). if b then 1 else 0) e

  pub not_in : f p ≡ false → times p (waiting u) ≡ 0
  not_in e = h.once p ∙ ap (λ (b : Bool). if b then 1 else 0) e

  pub at_most : times p (waiting u) ≤ 1
  at_most = go (f p) (h.once p)
    where
      go : (b : Bool) → times p (waiting u) ≡ (if b then 1 else 0) → times p (waiting u) ≤ 1
      go true e = omega (arith, e)
      go false e = omega (arith, e)

  pub told_by : 0 < times p (waiting u) → f p ≡ true
  told_by l = go (f p) refl
    where
      go : (b : Bool) → f p ≡ b → b ≡ true
      go true e = refl
      go false e = absurd (omega (arith, not_in e, l))

  pub told_not : times p (waiting u) ≡ 0 → f p ≡ false
  told_not l = go (f p) refl
    where
      go : (b : Bool) → f p ≡ b → b ≡ false
      go false e = refl
      go true e = absurd (omega (arith, in_queue e, l))

  pub is_free : p < 16 → (run_at u p).ended ≡ true → f p ≡ false
  is_free l e = not-true (f p) (sym (h.free p l) ∙ e)

  pub goes : p < 16 → (run_at u p).ended ≡ false → f p ≡ true
  goes l e = not-false (f p) (sym (h.free p l) ∙ e)

-- ---- the empty unit
pub orderly_empty : Orderly empty (λ p. false)
unfolding empty
orderly_empty =
    record {
      runs = refl;
      queue = refl;
      once = λ p. unfold waiting find tabulate in times_none p;
      free = λ p l. ap (λ (s : PausedRun). s.ended) (get_or-replicate 16 p vacant unread l);
    }

-- ---- a join
or_false : (b : Bool) → (b || false) ≡ b
or_false true = refl
or_false false = refl

module _ {u : Rotation} {f : ℕ → Bool} (h : Orderly u f) where
  abbrev joined_flag : UnitCall StartAnswer → ℕ → Bool
  joined_flag r p = f p || (eqb r.place p && goes_on r.call.answer)

  module _ (c : PausedCall StartAnswer) (r : UnitCall StartAnswer) (k : Seated u c r) where
    abbrev q : ℕ
    q = lowest_free u

    abbrev r₀ : UnitCall StartAnswer
    r₀ = unit_call (seated u k.s) q c

    on : goes_on c.answer ≡ true
    on = ap goes_on k.started ∙ ap not k.on

    q_free : f q ≡ false
    q_free = is_free h q (place_is u k.room) (was_free u k.room)

    flag_here : (p : ℕ) → eqb q p ≡ true → joined_flag r₀ p ≡ true
    flag_here p e = ap (λ (b : Bool). f p || (b && goes_on c.answer)) e ∙ ap (λ (b : Bool). f p || b) on ∙ or_true (f p)

    flag_else : (p : ℕ) → eqb q p ≡ false → joined_flag r₀ p ≡ f p
    flag_else p e = ap (λ (b : Bool). f p || (b && goes_on c.answer)) e ∙ or_false (f p)

    once_by : (p : ℕ) (b : Bool) → eqb q p ≡ b → times p (waiting (seated u k.s)) ≡ (if joined_flag r₀ p then 1 else 0)
    once_by p true e =
        let here : times p (q ∷ []) ≡ 1 = times_here p q [] e ∙ ap suc (times_none p) in
        let none = not_in h p (ap f (sym (eqb-true q p e)) ∙ q_free) in
        ap (times p) (waits_last u k.room k.s) ∙ times_append p (waiting u) (q ∷ []) ∙ (λ i. none i + here i) ∙ ap (λ (x : Bool). if x then 1 else 0) (sym (flag_here p e))
    once_by p false e =
        let else_where : times p (q ∷ []) ≡ 0 = times_other p q [] e ∙ times_none p in
        let same : times p (waiting u) + times p (q ∷ []) ≡ times p (waiting u) = omega (arith, else_where) in
        ap (times p) (waits_last u k.room k.s) ∙ times_append p (waiting u) (q ∷ []) ∙ same ∙ h.once p ∙ ap (λ (x : Bool). if x then 1 else 0) (sym (flag_else p e))

    free_by : (p : ℕ) → p < 16 → (b : Bool) → eqb q p ≡ b → (run_at (seated u k.s) p).ended ≡ not (joined_flag r₀ p)
    free_by p l true e =
        let same = eqb-true q p e in
        ap (λ (x : ℕ). (run_at (seated u k.s) x).ended) (sym same)
        ∙ ap (λ (s : PausedRun). s.ended) (held_there u.places q k.s h.runs (place_is u k.room))
        ∙ k.on
        ∙ ap not (sym (flag_here p e))
    free_by p l false e =
        ap (λ (s : PausedRun). s.ended) (held_else u.places q p k.s (λ x. eqb-false q p e (sym x)))
        ∙ h.free p l
        ∙ ap not (sym (flag_else p e))

    seated_orderly : Orderly r.unit (joined_flag r)
    seated_orderly =
        let more = length-append (waiting u) (q ∷ []) in
        subst (λ (x : UnitCall StartAnswer). Orderly x.unit (joined_flag x)) (sym k.is)
        (record {
          runs = length-set u.places q k.s ∙ h.runs;
          queue = queue_long (waiting u ++ (q ∷ [])) (omega (arith, more, queue_room u k.room));
          once = λ p. once_by p (eqb q p) refl;
          free = λ p l. free_by p l (eqb q p) refl;
        })

  unseated_orderly : (r : UnitCall StartAnswer) → Unseated u r → Orderly r.unit (joined_flag r)
  unseated_orderly r k = ordered h k.unit (λ p. ap (λ (b : Bool). f p || (eqb r.place p && b)) k.over ∙ ap (λ (b : Bool). f p || b) (and_false (eqb r.place p)) ∙ or_false (f p))

  pub orderly_join : (o : KrylovPhiOptions) (j : Job) (output memory field : List Float)
      → Orderly (join u o j output memory field).unit (joined_flag (join u o j output memory field))
  orderly_join o j output memory field = elim (join_cases u o j output memory field) [
    | inl k ↦ seated_orderly _ _ k
    | inr k ↦ unseated_orderly _ k
  ]

-- ---- a turn
module _ {u : Rotation} {f : ℕ → Bool} (h : Orderly u f) where
  abbrev turned_flag : UnitCall StepAnswer → ℕ → Bool
  turned_flag r p = if eqb r.place p then not (run_in r.call.answer).ended else f p

  module _ (y : List Float) (i : Input) (r : UnitCall StepAnswer) (k : Served u y i r) where
    abbrev first : ℕ
    first = k.p

    abbrev c : PausedCall StepAnswer
    c = step (run_at u first) y i

    abbrev s : PausedRun
    s = run_left c.answer

    abbrev served_call : UnitCall StepAnswer
    served_call = unit_call (passed_on u first k.others s) first c

    turn_here : (p : ℕ) → eqb first p ≡ true → turned_flag served_call p ≡ not s.ended
    turn_here p e = ap (λ (b : Bool). if b then not (run_in c.answer).ended else f p) e ∙ ap (λ (x : PausedRun). not x.ended) (sym (same_run c.answer))

    turn_else : (p : ℕ) → eqb first p ≡ false → turned_flag served_call p ≡ f p
    turn_else p e = ap (λ (b : Bool). if b then not (run_in c.answer).ended else f p) e

    back_here : (p : ℕ) → eqb first p ≡ true → (b : Bool) → times p (back first b) ≡ (if not b then 1 else 0)
    back_here p e true = times_none p
    back_here p e false = times_here p first [] e ∙ ap suc (times_none p)

    back_else : (p : ℕ) → eqb first p ≡ false → (b : Bool) → times p (back first b) ≡ 0
    back_else p e true = times_none p
    back_else p e false = times_other p first [] e ∙ times_none p

    after : (p : ℕ) → times p (waiting (passed_on u first k.others s)) ≡ times p k.others + times p (back first s.ended)
    after p = ap (times p) (waits_after u first k.others k.waits s) ∙ times_append p k.others (back first s.ended)

    turn_once : (p : ℕ) (b : Bool) → eqb first p ≡ b → times p (waiting (passed_on u first k.others s)) ≡ (if turned_flag served_call p then 1 else 0)
    turn_once p true e =
        let was : times p (waiting u) ≡ suc (times p k.others) = ap (times p) k.waits ∙ times_here p first k.others e in
        let none : times p k.others ≡ 0 = omega (arith, was, at_most h p) in
        let sum : times p k.others + times p (back first s.ended) ≡ times p (back first s.ended) = omega (arith, none) in
        after p ∙ sum ∙ back_here p e s.ended ∙ ap (λ (x : Bool). if x then 1 else 0) (sym (turn_here p e))
    turn_once p false e =
        let was : times p (waiting u) ≡ times p k.others = ap (times p) k.waits ∙ times_other p first k.others e in
        let sum : times p k.others + times p (back first s.ended) ≡ times p (waiting u) = omega (arith, was, back_else p e s.ended) in
        after p ∙ sum ∙ h.once p ∙ ap (λ (x : Bool). if x then 1 else 0) (sym (turn_else p e))

    not_not : (b : Bool) → b ≡ not (not b)
    not_not true = refl
    not_not false = refl

    turn_free : (p : ℕ) → p < 16 → (b : Bool) → eqb first p ≡ b → (run_at (passed_on u first k.others s) p).ended ≡ not (turned_flag served_call p)
    turn_free p l true e =
        ap (λ (x : ℕ). (run_at (passed_on u first k.others s) x).ended) (sym (eqb-true first p e))
        ∙ ap (λ (x : PausedRun). x.ended) (held_there u.places first s h.runs (first_below u first k.others k.waits))
        ∙ not_not s.ended
        ∙ ap not (sym (turn_here p e))
    turn_free p l false e =
        ap (λ (x : PausedRun). x.ended) (held_else u.places first p s (λ x. eqb-false first p e (sym x)))
        ∙ h.free p l
        ∙ ap not (sym (turn_else p e))

    few_after : length (k.others ++ back first s.ended) ≤ 16
    few_after =
        let more = length-append k.others (back first s.ended) in
        let all : suc (length k.others) ≤ 16 = subst (λ (l : List ℕ). length l ≤ 16) k.waits (waiting_few u) in
        go s.ended more all
      where
        go : (b : Bool) {n : ℕ} → n ≡ length k.others + length (back first b) → suc (length k.others) ≤ 16 → n ≤ 16
        go true e l = omega (arith, e, l)
        go false e l = omega (arith, e, l)

    served_orderly : Orderly r.unit (turned_flag r)
    served_orderly =
        subst (λ (x : UnitCall StepAnswer). Orderly x.unit (turned_flag x)) (sym k.is)
        (record {
          runs = length-set u.places first s ∙ h.runs;
          queue = queue_long (k.others ++ back first s.ended) few_after;
          once = λ p. turn_once p (eqb first p) refl;
          free = λ p l. turn_free p l (eqb first p) refl;
        })

  unserved_orderly : (y : List Float) (i : Input) (r : UnitCall StepAnswer) → Unserved u y i r → Orderly r.unit (turned_flag r)
  unserved_orderly y i r k =
      subst (λ (x : UnitCall StepAnswer). Orderly x.unit (turned_flag x)) (sym k.is)
      (ordered h refl (λ p. go (eqb 16 p) (told_not h p (ap (times p) k.waits ∙ times_none p))))
    where
      go : (b : Bool) {x : Bool} → x ≡ false → (if b then false else x) ≡ x
      go true e = sym e
      go false e = refl

  pub orderly_turn : (y : List Float) (i : Input) → Orderly (turn u y i).unit (turned_flag (turn u y i))
  orderly_turn y i = elim (turn_cases u y i) [
    | inl k ↦ served_orderly y i _ k
    | inr k ↦ unserved_orderly y i _ k
  ]

-- ---- every unit that was left
unfoldable pub flag_after : Bool → ℕ → Event → Bool
flag_after b p (joined o j q c) = b || (eqb q p && goes_on c.answer)
flag_after b p (turned i y q c) = if eqb q p then not (run_in c.answer).ended else b

pub flag_cons : (b : Bool) (p : ℕ) (e : Event) (l : List Event) → unfinished_from b p (e ∷ l) ≡ unfinished_from (flag_after b p e) p l
unfolding unfinished_from flag_after
flag_cons b p (joined o j q c) l = refl
flag_cons b p (turned i y q c) l = refl

pub orderly_after : {u : Rotation} {f : ℕ → Bool} → Orderly u f → (a : Act) → Orderly (unit_after u a) (λ p. flag_after (f p) p (event_of u a))
unfolding unit_after event_of flag_after
orderly_after h (joins o j output memory field) = orderly_join h o j output memory field
orderly_after h (takes_turn i y) = orderly_turn h y i

pub orderly_from : {u : Rotation} {f : ℕ → Bool} → Orderly u f → (l : List Act) → Orderly (unit_from u l) (λ p. unfinished_from (f p) p (events_from u l))
unfolding unit_from events_from unfinished_from
orderly_from h [] = h
orderly_from {u} {f} h (a ∷ l) = ordered (orderly_from {u = unit_after u a} {f = λ p. flag_after (f p) p (event_of u a)} (orderly_after h a) l) refl (λ p. flag_cons (f p) p (event_of u a) (events_from (unit_after u a) l))

pub orderly : (h : List Act) → Orderly (left_by h) (unfinished h)
orderly h = orderly_from orderly_empty h
