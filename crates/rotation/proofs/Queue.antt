-- The queue as the code moves it, and what waits in it. Assumes nothing.
use mathlib.Core.Path.{◌≡◌, refl, sym, ap, ◌∙◌, subst}
use mathlib.Core.Logic.{inl, inr}
use mathlib.Core.Bool.{Bool, true, false, ◌&&◌, true≢false}
use mathlib.Core.List.{List, [], ◌∷◌, ◌++◌, append_assoc, append-nil}
use Prim.Native.Nat.{ℕ, zero, suc, ◌+◌, ◌-◌, ◌≤◌, ◌<◌, min}
use native.Mathlib.Omega.{arith}
use native.Mathlib.Nat.{zero-add}
use lib.Dec.{ltb, leb}
use lib.ListN.{length, length-append, get_or, set, take, drop, replicate}
use lib.Seq.{set-append_seam}
use Rattle.std.proofs.lemmas.List.{drop-replicate}
use borrow.Author.Tests.{ltb-true, leb-false, le-leb, lt-leb}
use Rattle.lists.specs.Loop.{tabulate}
use Rattle.lists.specs.Window.{window}
use Rattle.lists.proofs.Tests.{and_both}
use Rattle.lists.proofs.Bounds.{lt_or_le}
use Rattle.lists.proofs.Find.{passed_start, found_at, find_le, find_before, find_holds}
use Rattle.lists.proofs.Loop.{length_tabulate, tabulate_ext, window_tabulate}
use Rattle.paused_run.specs.declared.PausedRun.{PausedRun}
use Rattle.rotation.specs.Unit.{waiting, queue_of, next_place, lowest_free, room, back}
use Rattle.rotation.specs.Inner.{count_of, shifted, seat_of, end_of, passed_of}
use Rattle.rotation.specs.declared.Rotation.{Rotation}

-- ---- a part of a queue copied to the front, and one number behind it
pub shift_is : (queue : List ℕ) (from to last : ℕ) {ys : List ℕ} → from ≤ to → to ≤ length queue → to - from < 16 → ys ≡ take (to - from) (drop from queue)
    → set (ys ++ drop (to - from) (replicate 16 16)) (to - from) last ≡ shifted queue from to last
shift_is queue from to last {ys} a b l e =
    let n = to - from in
    let vs = tabulate n (λ k. get_or queue (from + k) 0) in
    let ys_is : ys ≡ vs = e ∙ unfold window in window_tabulate from n queue 0 (omega (arith, a, b)) in
    let rest : 16 - n ≡ suc (15 - n) = omega (arith, l) in
    ap (λ (x : List ℕ). set (x ++ drop n (replicate 16 16)) n last) ys_is
    ∙ ap (λ (x : List ℕ). set (vs ++ x) n last) (drop-replicate n 16 16 ∙ ap (λ (k : ℕ). replicate k 16) rest)
    ∙ ap (λ (k : ℕ). set (vs ++ (16 ∷ replicate (15 - n) 16)) k last) (sym (length_tabulate n (λ k. get_or queue (from + k) 0)))
    ∙ set-append_seam vs 16 (replicate (15 - n) 16) last

-- ---- sixteen numbers that hold those that wait
one_behind : (l : List ℕ) (k last : ℕ) → length l ≡ k → queue_of (l ++ (last ∷ [])) ≡ l ++ (last ∷ replicate (15 - k) 16)
unfolding queue_of
one_behind l k last e =
    let more = length-append l (last ∷ []) in
    let rest : 16 - length (l ++ (last ∷ [])) ≡ 15 - k = omega (arith, e, more) in
    append_assoc l (last ∷ []) _ ∙ ap (λ (n : ℕ). l ++ (last ∷ replicate n 16)) rest

none_behind : (l : List ℕ) (k : ℕ) → length l ≡ k → k < 16 → queue_of (l ++ []) ≡ l ++ (16 ∷ replicate (15 - k) 16)
unfolding queue_of
none_behind l k e h =
    let rest : 16 - length l ≡ suc (15 - k) = omega (arith, e, h) in
    ap (λ (x : List ℕ). x ++ replicate (16 - length x) 16) (append-nil l) ∙ ap (λ (n : ℕ). l ++ replicate n 16) rest

module _ (u : Rotation) where
  abbrev at_place : ℕ → ℕ
  at_place k = get_or u.queue k 0

  pub count_few : count_of u.queue ≤ 16
  count_few = find_le (λ k. leb 16 (at_place k)) 16

  pub length_waiting : length (waiting u) ≡ count_of u.queue
  unfolding waiting
  length_waiting = length_tabulate _ _

  -- those that wait are places
  pub place_below : (k : ℕ) → k < count_of u.queue → at_place k < 16
  place_below k l = leb-false 16 (at_place k) (find_before (λ j. leb 16 (at_place j)) 16 k l)

  -- none waits, or the first and the others
  pub waits_none : count_of u.queue ≡ 0 → waiting u ≡ []
  unfolding waiting tabulate
  waits_none e = ap (λ (k : ℕ). tabulate k at_place) e

  abbrev others : List ℕ
  others = tabulate (count_of u.queue - 1) (λ k. at_place (suc k))

  pub waits_some : (count_of u.queue ≡ 0 → ⊥) → waiting u ≡ at_place 0 ∷ others
  unfolding waiting tabulate
  waits_some h =
      let z : count_of u.queue ≡ suc (count_of u.queue - 1) = go _ h in
      ap (λ (k : ℕ). tabulate k at_place) z
    where
      go : (k : ℕ) → (k ≡ 0 → ⊥) → k ≡ suc (k - 1)
      go zero h = absurd (h refl)
      go (suc k) h = omega arith

  next_none : count_of u.queue ≡ 0 → 16 ≡ next_place u
  unfolding next_place
  next_none e = rw (waits_none e) refl

  next_some : (count_of u.queue ≡ 0 → ⊥) → at_place 0 ≡ next_place u
  unfolding next_place
  next_some h = rw (waits_some h) refl

  pub next_is : min (at_place 0) 16 ≡ next_place u
  next_is = elim (lt_or_le (at_place 0) 16) [
    | inl l ↦ (let e : min (at_place 0) 16 ≡ at_place 0 = omega (arith, l) in e ∙ next_some (λ z. some l z))
    | inr l ↦ (let e : min (at_place 0) 16 ≡ 16 = omega (arith, l) in e ∙ next_none (sym (found_at (passed_start (λ k. leb 16 (at_place k))) 16 (omega arith) (le-leb _ _ l))))
  ]
    where
      some : at_place 0 < 16 → count_of u.queue ≡ 0 → ⊥
      some l z =
          let here = find_holds (λ k. leb 16 (at_place k)) 16 (omega (arith, z)) in
          true≢false (sym (rw z at here) ∙ lt-leb 16 (at_place 0) l)

  -- a run goes behind those that wait
  pub behind_all : (k p : ℕ) → k ≡ count_of u.queue → shifted u.queue 0 k p ≡ queue_of (waiting u ++ (p ∷ []))
  unfolding waiting
  behind_all k p e =
      ap (λ (n : ℕ). shifted u.queue 0 n p) e
      ∙ ap (λ (l : List ℕ). l ++ (p ∷ replicate (15 - (count_of u.queue - 0)) 16)) (tabulate_ext _ _ at_place (λ j l. ap at_place (zero-add j)))
      ∙ ap (λ (n : ℕ). tabulate n at_place ++ (p ∷ replicate (15 - n) 16)) (let z : count_of u.queue - 0 ≡ count_of u.queue = omega arith in z)
      ∙ sym (one_behind (tabulate (count_of u.queue) at_place) (count_of u.queue) p (length_tabulate _ _))

  -- the first leaves, or goes behind the others
  moved_others : (k last : ℕ) → k ≡ count_of u.queue → shifted u.queue 1 k last ≡ others ++ (last ∷ replicate (15 - (count_of u.queue - 1)) 16)
  moved_others k last e =
      ap (λ (n : ℕ). shifted u.queue 1 n last) e
      ∙ ap (λ (l : List ℕ). l ++ (last ∷ replicate (15 - (count_of u.queue - 1)) 16)) (tabulate_ext _ _ (λ j. at_place (suc j)) (λ j l. ap at_place (let z : 1 + j ≡ suc j = omega arith in z)))

  length_others : length others ≡ count_of u.queue - 1
  length_others = length_tabulate _ _

  module _ (k : ℕ) (e : k ≡ count_of u.queue) (some : k ≡ 0 → ⊥) (s : PausedRun) where
    is_some : count_of u.queue ≡ 0 → ⊥
    is_some z = some (e ∙ z)

    queue_back : (b : Bool) → shifted u.queue 1 k (end_of (at_place 0) b) ≡ queue_of (others ++ back (at_place 0) b)
    queue_back true = moved_others k 16 e ∙ sym (none_behind others _ length_others (omega (arith, count_few, e)))
    queue_back false = moved_others k (at_place 0) e ∙ sym (one_behind others _ (at_place 0) length_others)

    pub passed_on_is : {last : ℕ} {queue : List ℕ} → last ≡ end_of (at_place 0) s.ended → queue ≡ shifted u.queue 1 k last
        → record { places = set u.places (at_place 0) s; queue = queue } ≡ passed_of u (waiting u) s
    passed_on_is el eq =
        let q = eq ∙ ap (λ (x : ℕ). shifted u.queue 1 k x) el ∙ queue_back s.ended in
        (λ i. record { places = set u.places (at_place 0) s; queue = q i }) ∙ rw (waits_some is_some) refl

  -- ---- room
  pub room_is : {p k : ℕ} → p ≡ lowest_free u → k ≡ count_of u.queue → (ltb p 16 && ltb k 16) ≡ room u
  unfolding room
  room_is ep ek = rw (ep, ek, ← length_waiting) refl

  pub has_room : room u ≡ true → (lowest_free u < 16) × (count_of u.queue < 16)
  unfolding room
  has_room e =
      let b = and_both _ _ e in
      (ltb-true _ _ b.0, subst (λ (n : ℕ). n < 16) length_waiting (ltb-true _ _ b.1))

  pub seat_is : (s : PausedRun) {k p : ℕ} {queue : List ℕ} → room u ≡ true → p ≡ lowest_free u → k ≡ count_of u.queue → queue ≡ shifted u.queue 0 k p
      → record { unit = record { places = set u.places p s; queue = queue }; place = p } ≡ seat_of u s
  seat_is s {k} {p} {queue} e ep ek eq =
      let q = eq ∙ behind_all k p ek in
      (λ i. record { unit = record { places = set u.places p s; queue = q i }; place = p }) ∙ rw (e, ep) refl
