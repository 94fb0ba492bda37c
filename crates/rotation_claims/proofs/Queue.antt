-- Queues of places, as lists and as the sixteen numbers of a unit. Assumes nothing.
use Rattle.std.specs.Prelude.{if◌then◌else◌}
use mathlib.Core.Path.{◌≡◌, refl, sym, ap, ◌∙◌}
use mathlib.Core.Logic.{inl, inr}
use mathlib.Core.Bool.{Bool, true, false}
use mathlib.Core.List.{List, [], ◌∷◌, ◌++◌}
use Prim.Native.Nat.{ℕ, zero, suc, ◌+◌, ◌-◌, ◌≤◌, ◌<◌}
use native.Mathlib.Nat.{zero-add}
use native.Mathlib.Omega.{arith}
use lib.Dec.{eqb, leb}
use lib.ListN.{length, length-append, length-replicate, get_or, get_or-replicate, replicate, get_or-append}
use lib.Seq.{get_or-append-add}
use borrow.Author.Tests.{eq-eqb, ne_eqb, le-leb, lt-leb, leb-false}
use Rattle.lists.specs.Find.{find}
use Rattle.lists.specs.Loop.{tabulate}
use Rattle.lists.proofs.Bounds.{lt_or_le}
use Rattle.lists.proofs.Find.{Passed, found_at, found_none, find_le, find_before}
use Rattle.lists.proofs.Loop.{length_tabulate, tabulate_ext, tabulate_get_or}
use Rattle.paused_run.specs.declared.PausedRun.{PausedRun}
use Rattle.rotation.specs.Unit.{waiting, queue_of}
use Rattle.rotation.specs.declared.Rotation.{Rotation}
use Rattle.demand_3.specs.Krylov.{Each}
use Rattle.rotation_claims.specs.Order.{times}

-- ---- how often a place stands in a list
times_by : (b : Bool) (x y z : ℕ) → x ≡ y + z → (if b then suc x else x) ≡ (if b then suc y else y) + z
times_by true x y z e = omega (arith, e)
times_by false x y z e = e

pub times_append : (p : ℕ) (l m : List ℕ) → times p (l ++ m) ≡ times p l + times p m
unfolding times
times_append p [] m = sym (zero-add (times p m))
times_append p (q ∷ l) m = times_by (eqb q p) _ _ _ (times_append p l m)

pub times_here : (p q : ℕ) (l : List ℕ) → eqb q p ≡ true → times p (q ∷ l) ≡ suc (times p l)
unfolding times
times_here p q l e = rw e refl

pub times_other : (p q : ℕ) (l : List ℕ) → eqb q p ≡ false → times p (q ∷ l) ≡ times p l
unfolding times
times_other p q l e = rw e refl

pub times_none : (p : ℕ) → times p [] ≡ 0
unfolding times
times_none p = refl

-- the first stands in it
pub times_first : (q : ℕ) (l : List ℕ) → 0 < times q (q ∷ l)
times_first q l = omega (arith, times_here q q l (eq-eqb q q refl))

-- ---- places of 0 to 15
abbrev pub Places : List ℕ → Type 0
Places l = Each (λ p. p < 16) l

pub places_append : (l m : List ℕ) → Places l → Places m → Places (l ++ m)
places_append [] m h k = k
places_append (p ∷ l) m h k = (h.0, places_append l m h.1 k)

pub none_above : (l : List ℕ) (p : ℕ) → Places l → 16 ≤ p → times p l ≡ 0
none_above [] p h k = times_none p
none_above (q ∷ l) p h k = times_other p q l (ne_eqb q p (λ e. absurd (omega (arith, e, k, h.0)))) ∙ none_above l p h.1 k

pub place_below : (l : List ℕ) (p : ℕ) → Places l → 0 < times p l → p < 16
place_below l p h k = elim (lt_or_le p 16) [
  | inl a ↦ a
  | inr a ↦ absurd (omega (arith, none_above l p h a, k))
]

place_at : (l : List ℕ) (k : ℕ) → Places l → k < length l → get_or l k 0 < 16
place_at [] k h m = absurd (omega (arith, m))
place_at (p ∷ l) zero h m = h.0
place_at (p ∷ l) (suc k) h m = place_at l k h.1 (omega (arith, m))

places_tabulate : (n : ℕ) (f : ℕ → ℕ) → ((k : ℕ) → k < n → f k < 16) → Places (tabulate n f)
unfolding tabulate
places_tabulate zero f h = tt
places_tabulate (suc n) f h = (h 0 (omega arith), places_tabulate n (λ k. f (suc k)) (λ k l. h (suc k) (omega (arith, l))))

-- ---- the places that wait, of any unit
pub waiting_places : (u : Rotation) → Places (waiting u)
unfolding waiting
waiting_places u = places_tabulate _ _ (λ k l. leb-false 16 _ (find_before (λ j. leb 16 (get_or u.queue j 0)) 16 k l))

pub waiting_few : (u : Rotation) → length (waiting u) ≤ 16
unfolding waiting
waiting_few u = omega (arith, length_tabulate (find (λ k. leb 16 (get_or u.queue k 0)) 16) (λ k. get_or u.queue k 0), find_le (λ k. leb 16 (get_or u.queue k 0)) 16)

pub queue_long : (l : List ℕ) → length l ≤ 16 → length (queue_of l) ≡ 16
unfolding queue_of
queue_long l h =
    let more = length-replicate (16 - length l) (let z : ℕ = 16 in z) in
    length-append l (replicate (16 - length l) 16) ∙ (let e : length l + length (replicate (16 - length l) (let z : ℕ = 16 in z)) ≡ 16 = omega (arith, more, h) in e)

-- sixteen numbers hold at most sixteen places
module _ (places : List PausedRun) (l : List ℕ) (h : Places l) (few : length l ≤ 16) where
  abbrev rest : List ℕ
  rest = replicate (16 - length l) 16

  abbrev is_none : ℕ → Bool
  is_none k = leb 16 (get_or (l ++ rest) k 0)

  in_front : (k : ℕ) → k < length l → get_or (l ++ rest) k 0 ≡ get_or l k 0
  in_front k m = get_or-append l rest 0 k m

  passed : Passed is_none (length l)
  passed = record { none = λ k m. lt-leb 16 (get_or (l ++ rest) k 0) (omega (arith, in_front k m, place_at l k h m)) }

  behind : length l < 16 → get_or (l ++ rest) (length l) 0 ≡ 16
  behind m =
      let e : length l ≡ length l + 0 = omega arith in
      ap (λ (k : ℕ). get_or (l ++ rest) k 0) e ∙ get_or-append-add l rest 0 0 ∙ get_or-replicate (16 - length l) 0 16 0 (omega (arith, m))

  ends : length l ≡ find is_none 16
  ends = elim (lt_or_le (length l) 16) [
    | inl m ↦ found_at passed 16 m (le-leb 16 (get_or (l ++ rest) (length l) 0) (omega (arith, behind m)))
    | inr m ↦ (let e : length l ≡ 16 = omega (arith, m, few) in e ∙ found_none passed 16 m)
  ]

  pub waiting_of : waiting (record { places = places; queue = queue_of l }) ≡ l
  unfolding waiting queue_of
  waiting_of = ap (λ (n : ℕ). tabulate n (λ k. get_or (l ++ rest) k 0)) (sym ends) ∙ tabulate_ext (length l) _ (λ k. get_or l k 0) in_front ∙ tabulate_get_or l 0
