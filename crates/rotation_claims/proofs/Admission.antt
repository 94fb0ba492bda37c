-- Which runs take a place, and which (document 02, N6). Assumes nothing.
use mathlib.Core.Path.{◌≡◌, refl, sym, ap, ◌∙◌, subst}
use mathlib.Core.Logic.{◌⊎◌, inl, inr}
use mathlib.Core.Bool.{Bool, true, false, not, true≢false}
use mathlib.Core.List.{List, [], ◌∷◌, ◌++◌}
use Prim.Native.Nat.{ℕ, zero, suc, ◌+◌, ◌≤◌, ◌<◌}
use native.Mathlib.Omega.{arith}
use lib.Dec.{eqb}
use lib.ListN.{length}
use lib.Ieee.{Float, nan}
use borrow.Author.Tests.{eqb-true, eqb-false, ne_eqb, lt-ltb, le-ltb}
use Rattle.lists.proofs.Bounds.{lt_or_le}
use Rattle.lists.proofs.Find.{found_at, found_none, find_before, find_holds}
use Rattle.checks.specs.First.{before}
use Rattle.checks.proofs.First.{same_reason, same_double}
use Rattle.checks.proofs.Numbers.{not_by}
use Rattle.paused_run.specs.Paused.{PausedCall, leaves, StartAnswer}
use Rattle.paused_run.specs.declared.PausedRun.{PausedRun}
use Rattle.rotation.specs.Unit.{run_at, waiting, UnitCall, unit_call, lowest_free, room, seated, admitted_by, admitted, join}
use Rattle.rotation.specs.declared.Rotation.{Rotation}
use Rattle.demand_3.specs.Krylov.{Zeros}
use Rattle.paused_claims.specs.Start.{values_of, Refuses}
use Rattle.paused_claims.proofs.Start.{the_start}
use Rattle.rotation_claims.specs.History.{Act, left_by, unfinished}
use Rattle.rotation_claims.specs.Order.{times}
use Rattle.rotation_claims.specs.Admission.{Coming, join_to, start_of, Passes, Unfinished, Full, Lowest, refused_32, AnyUnit, AdmissionClaim}
use Rattle.rotation_claims.proofs.Queue.{Places, times_here, times_other, times_none, waiting_places}
use Rattle.rotation_claims.proofs.Cases.{join_cases, place_is, was_free, waits_last}
use Rattle.rotation_claims.proofs.Orderly.{Orderly, not_in, at_most, is_free, goes, orderly}
use Rattle.rotation_claims.proofs.Numbers.{none_32}
use Rattle.checks.specs.Reasons.{number, Refused}
use Rattle.std.specs.Prelude.{Ok, Err}
use Rattle.checks.specs.declared.Reason.TheVariants.{UnitFull}
use Rattle.checks.specs.declared.Reason.{Reason}

-- ---- any unit
not_started : {k : Reason} {x : Float} {s : PausedRun} → Ok s ≡ Refused {A = PausedRun} k x → ⊥
not_started e = let z : zero ≡ 1 = cc in absurd (omega (arith, z))

pub same_refused : {k l : Reason} {x y : Float} → Refused {A = PausedRun} k x ≡ Refused {A = PausedRun} l y → (k ≡ l) × (x ≡ y)
same_refused e = (same_reason e, same_double e)

module _ (u : Rotation) (c : Coming) where
  abbrev full : PausedCall StartAnswer
  full = leaves (Refused UnitFull nan) c.output c.memory c.field

  -- by the start's answer
  abbrev answered : StartAnswer → UnitCall StartAnswer
  answered a = admitted u a (start_of c) full

  join_is : {a : StartAnswer} → (start_of c).answer ≡ a → join_to u c ≡ answered a
  unfolding join
  join_is e = ap answered e

  ended_by : (s : PausedRun) → s.ended ≡ true → answered (Ok s) ≡ unit_call u 16 (start_of c)
  unfolding admitted
  ended_by s e = ap (λ (d : Bool). admitted_by d (room u) u s (start_of c) full) e

  pub seat_by : (s : PausedRun) (b : Bool) → s.ended ≡ false → room u ≡ b → answered (Ok s) ≡ admitted_by false b u s (start_of c) full
  unfolding admitted
  seat_by s b e eb = ap (λ (d : Bool). admitted_by d (room u) u s (start_of c) full) e ∙ ap (λ (x : Bool). admitted_by false x u s (start_of c) full) eb

  -- a run that passes and is not all zeros goes on
  pub started_on : Unfinished c → (s : PausedRun) × ((start_of c).answer ≡ Ok s) × (s.ended ≡ false)
  started_on h =
      let claim = the_start c.o c.j c.output c.memory c.field in
      let s = claim.if_accepted h.0.0 h.0.1 in
      (s.0, s.1, (claim.ready s.1 h.1).ended)

  -- and only such a run
  pub goes_unfinished : {s : PausedRun} → (start_of c).answer ≡ Ok s → s.ended ≡ false → Unfinished c
  goes_unfinished e on =
      let claim = the_start c.o c.j c.output c.memory c.field in
      (claim.only_accepted e, λ z. true≢false (sym (claim.idle e z).ended ∙ on))

  refused : (k : Reason) (x : Float) → Refuses c.o c.j c.output c.memory c.field k x → join_to u c ≡ unit_call u 16 (leaves (Refused k x) c.output c.memory c.field)
  unfolding admitted
  refused k x h =
      let e = (the_start c.o c.j c.output c.memory c.field).if_refused k x h in
      join_is (ap (λ (x : PausedCall StartAnswer). x.answer) e) ∙ ap (unit_call u 16) e

  idle : Passes c → Zeros (values_of c.j) → join_to u c ≡ unit_call u 16 (start_of c)
  idle h z =
      let claim = the_start c.o c.j c.output c.memory c.field in
      let s = claim.if_accepted h.0 h.1 in
      join_is s.1 ∙ ended_by s.0 (claim.idle s.1 z).ended

  else_32 : ((join_to u c).call ≡ start_of c) ⊎ (join_to u c ≡ refused_32 u c)
  unfolding join admitted
  else_32 = go (start_of c).answer
    where
      by : (s : PausedRun) (d b : Bool) → ((admitted_by d b u s (start_of c) full).call ≡ start_of c) ⊎ (admitted_by d b u s (start_of c) full ≡ refused_32 u c)
      by s true b = inl refl
      by s false true = inl refl
      by s false false = inr refl

      go : (a : StartAnswer) → ((answered a).call ≡ start_of c) ⊎ (answered a ≡ refused_32 u c)
      go (Err r) = inl refl
      go (Ok s) = by s s.ended (room u)

  pub any_unit : AnyUnit u c
  any_unit = record { refused = refused; idle = idle; else_32 = else_32 }

-- ---- sixteen places: a list that has each at most once, and one not at all, is shorter
unfoldable total : ℕ → List ℕ → ℕ
total zero l = 0
total (suc n) l = total n l + times n l

total_none : (n : ℕ) → total n [] ≡ 0
unfolding total
total_none zero = refl
total_none (suc n) = (let a = total_none n in let b = times_none n in let e : total n [] + times n [] ≡ 0 = omega (arith, a, b) in e)

-- one more
total_above : (n x : ℕ) (l : List ℕ) → n ≤ x → total n (x ∷ l) ≡ total n l
unfolding total
total_above zero x l h = refl
total_above (suc n) x l h =
    let a = total_above n x l (omega (arith, h)) in
    let b = times_other n x l (ne_eqb x n (λ e. absurd (omega (arith, e, h)))) in
    let e : total n (x ∷ l) + times n (x ∷ l) ≡ total n l + times n l = omega (arith, a, b) in
    e

total_more : (n x : ℕ) (l : List ℕ) → x < n → total n (x ∷ l) ≡ suc (total n l)
unfolding total
total_more zero x l h = absurd (omega (arith, h))
total_more (suc n) x l h = go (eqb x n) refl (total_more n x l)
  where
    go : (b : Bool) → eqb x n ≡ b → (x < n → total n (x ∷ l) ≡ suc (total n l)) → total n (x ∷ l) + times n (x ∷ l) ≡ suc (total n l + times n l)
    go true e k = omega (arith, total_above n x l (omega (arith, eqb-true x n e)), times_here n x l e)
    go false e k = omega (arith, k (below (eqb-false x n e)), times_other n x l e)
      where
        below : (x ≡ n → ⊥) → x < n
        below d = omega (arith, d, h)

total_long : (l : List ℕ) → Places l → total 16 l ≡ length l
total_long [] h = total_none 16
total_long (x ∷ l) h = total_more 16 x l h.0 ∙ ap suc (total_long l h.1)

total_few : (n : ℕ) (l : List ℕ) → ((p : ℕ) → times p l ≤ 1) → total n l ≤ n
unfolding total
total_few zero l h = omega arith
total_few (suc n) l h = omega (arith, total_few n l h, h n)

total_less : (n q : ℕ) (l : List ℕ) → ((p : ℕ) → times p l ≤ 1) → q < n → times q l ≡ 0 → total n l < n
unfolding total
total_less zero q l h m e = absurd (omega (arith, m))
total_less (suc n) q l h m e = go (eqb q n) refl (total_less n q l h)
  where
    go : (b : Bool) → eqb q n ≡ b → (q < n → times q l ≡ 0 → total n l < n) → total n l + times n l < suc n
    go true d k = omega (arith, total_few n l h, ap (λ (x : ℕ). times x l) (eqb-true q n d), e)
    go false d k = omega (arith, k (omega (arith, eqb-false q n d, m)) e, h n)

-- ---- a unit that was left
module _ {u : Rotation} {f : ℕ → Bool} (o : Orderly u f) where
  -- a free place, and the queue has room
  pub room_if : lowest_free u < 16 → room u ≡ true
  unfolding room lowest_free
  room_if l =
      let q = lowest_free u in
      let none : times q (waiting u) ≡ 0 = not_in o q (is_free o q l (find_holds (λ p. (run_at u p).ended) 16 l)) in
      let less = total_less 16 q (waiting u) (at_most o) l none in
      rw (lt-ltb q 16 l, lt-ltb (length (waiting u)) 16 (omega (arith, less, total_long (waiting u) (waiting_places u)))) refl

  pub no_room_if : 16 ≤ lowest_free u → room u ≡ false
  unfolding room
  no_room_if l = rw (le-ltb (lowest_free u) 16 l) refl

  pub lowest_is : (p : ℕ) → p < 16 → f p ≡ false → ((q : ℕ) → q < p → f q ≡ true) → p ≡ lowest_free u
  unfolding lowest_free
  lowest_is p l free lower =
      found_at {p = λ (q : ℕ). (run_at u q).ended} (record { none = λ q m. o.free q (omega (arith, m, l)) ∙ ap not (lower q m) }) 16 l (o.free p l ∙ ap not free)

  pub none_free : ((p : ℕ) → p < 16 → f p ≡ true) → 16 ≡ lowest_free u
  unfolding lowest_free
  none_free all = found_none {p = λ (q : ℕ). (run_at u q).ended} (record { none = λ q m. o.free q m ∙ ap not (all q m) }) 16 (omega arith)

  pub lower_taken : (q : ℕ) → q < lowest_free u → q < 16 → f q ≡ true
  unfolding lowest_free
  lower_taken q m l = goes o q l (find_before (λ p. (run_at u p).ended) 16 q m)

  -- 'A new run joins the end in the lowest free place'
  pub takes : (c : Coming) → Unfinished c → (p : ℕ) → p < 16 → f p ≡ false → ((q : ℕ) → q < p → f q ≡ true) → ((join_to u c).place ≡ p) × ((join_to u c).call ≡ start_of c)
  takes c h p l free lower =
      let s = started_on u c h in
      let low = lowest_is p l free lower in
      let e : join_to u c ≡ unit_call (seated u s.0) (lowest_free u) (start_of c) = join_is u c s.1 ∙ seat_by u c s.0 true s.2 (room_if (omega (arith, low, l))) in
      (ap (λ (r : UnitCall StartAnswer). r.place) e ∙ sym low, ap (λ (r : UnitCall StartAnswer). r.call) e)

-- ---- the claim
module _ (h : List Act) (c : Coming) where
  abbrev u : Rotation
  u = left_by h

  abbrev o : Orderly u (unfinished h)
  o = orderly h

  if_32 : Unfinished c → Full h → join_to u c ≡ refused_32 u c
  if_32 k all =
      let s = started_on u c k in
      join_is u c s.1 ∙ seat_by u c s.0 false s.2 (no_room_if o (omega (arith, none_free o all)))

  -- 32 of the start itself is of a generator that has a check of that number
  not_32 : before UnitFull c.j.g.checks ≡ c.j.g.checks → {x : Float} → (start_of c).answer ≡ Refused UnitFull x → ⊥
  not_32 g {x} e = elim ((the_start c.o c.j c.output c.memory c.field).only_refused UnitFull x e) [
    | inl r ↦ not_by UnitFull _ (none_32 c.o c.j (length c.output) (length c.memory) g) r
    | inr r ↦ (let z = ap number r.2 in absurd (omega (arith, z)))
  ]

  only_32 : before UnitFull c.j.g.checks ≡ c.j.g.checks → (x : Float) → (join_to u c).call.answer ≡ Refused UnitFull x → Unfinished c × Full h
  unfolding join admitted
  only_32 g x e = go (start_of c).answer refl e
    where
      by : (s : PausedRun) → (start_of c).answer ≡ Ok s → (d b : Bool) → s.ended ≡ d → room u ≡ b → (admitted_by d b u s (start_of c) (full u c)).call.answer ≡ Refused UnitFull x → Unfinished c × Full h
      by s es true b ed eb r = absurd (not_started (sym es ∙ r))
      by s es false true ed eb r = absurd (not_started (sym es ∙ r))
      by s es false false ed eb r = (
        goes_unfinished u c es ed,
        λ p l. elim (lt_or_le p (lowest_free u)) [
          | inl m ↦ lower_taken o p m l
          | inr m ↦ absurd (true≢false (sym (room_if o (omega (arith, m, l))) ∙ eb))
        ],
      )

      go : (a : StartAnswer) → (start_of c).answer ≡ a → (admitted u a (start_of c) (full u c)).call.answer ≡ Refused UnitFull x → Unfinished c × Full h
      go (Err e) ea r = absurd (not_32 g r)
      go (Ok s) ea r = by s ea s.ended (room u) refl refl r

  only_lowest : (join_to u c).place < 16 → Unfinished c × Lowest h (join_to u c).place
  only_lowest l = elim (join_cases u c.o c.j c.output c.memory c.field) [
    | inl k ↦
        let here : (join_to u c).place ≡ lowest_free u = ap (λ (r : UnitCall StartAnswer). r.place) k.is in
        let low = place_is u k.room in
        (goes_unfinished u c k.started k.on, subst (λ (p : ℕ). Lowest h p) (sym here) (record { place = low; free = is_free o (lowest_free u) low (was_free u k.room); lower = λ q m. lower_taken o q m (omega (arith, m, low)) }))
    | inr k ↦ absurd (omega (arith, k.place, l))
  ]

  at_the_end : (join_to u c).place < 16 → waiting (join_to u c).unit ≡ waiting u ++ ((join_to u c).place ∷ [])
  at_the_end l = elim (join_cases u c.o c.j c.output c.memory c.field) [
    | inl k ↦
        ap (λ (r : UnitCall StartAnswer). waiting r.unit) k.is
        ∙ waits_last u k.room k.s
        ∙ ap (λ (p : ℕ). waiting u ++ (p ∷ [])) (sym (ap (λ (r : UnitCall StartAnswer). r.place) k.is))
    | inr k ↦ absurd (omega (arith, k.place, l))
  ]

  or_none : ((join_to u c).place < 16) ⊎ (((join_to u c).place ≡ 16) × ((join_to u c).unit ≡ u))
  or_none = elim (join_cases u c.o c.j c.output c.memory c.field) [
    | inl k ↦ inl (let e = ap (λ (r : UnitCall StartAnswer). r.place) k.is in let l = place_is u k.room in omega (arith, e, l))
    | inr k ↦ inr (k.place, k.unit)
  ]

  pub admission : AdmissionClaim h c
  admission =
      record {
        if_32 = if_32;
        only_32 = only_32;
        if_lowest = λ k p l. takes o c k p l.place l.free l.lower;
        only_lowest = only_lowest;
        at_the_end = at_the_end;
        or_none = or_none;
      }
