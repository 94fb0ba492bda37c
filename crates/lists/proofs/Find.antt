-- What a loop that looks for the first index at which a test passes knows, and what holds of that index. Assumes nothing.
use mathlib.Core.Bool.{Bool, true, false}
use mathlib.Core.Path.{◌≡◌, refl, sym, ap, ◌∙◌}
use mathlib.Core.Logic.{inl, inr}
use Prim.Native.Nat.{ℕ, zero, suc, ◌+◌, ◌-◌, ◌≤◌, ◌<◌, suc-le-suc, zero-le}
use native.Mathlib.Omega.{arith}
use native.Mathlib.Nat.{le_refl, le_of_suc-le-suc}
use borrow.Author.Tests.{ltb-false, lt-ltb, le-ltb}
use borrow.Author.Count.{below_more}
use Rattle.lists.specs.Find.{find, exists}
use Rattle.lists.proofs.Bounds.{lt_or_le}

-- a search has passed the indices below i: the test fails at each
pub record Passed (p : ℕ → Bool) (i : ℕ) : Type 0 where
  pub none : (k : ℕ) → k < i → p k ≡ false

pub passed_start : (p : ℕ → Bool) → Passed p 0
passed_start p = record { none = λ k h. absurd (omega arith) }

pub passed_next : {p : ℕ → Bool} {i : ℕ} → Passed p i → p i ≡ false → Passed p (i + 1)
passed_next {p} {i} h e = record { none = below_more (λ (k : ℕ). p k ≡ false) i h.none e }

found : (p : ℕ → Bool) (n r : ℕ) → ((k : ℕ) → k < r → p k ≡ false) → r < n → p r ≡ true → r ≡ find p n
unfolding find
found p zero r h l e = absurd (omega arith)
found p (suc n) zero h l e = rw (e, find)
found p (suc n) (suc r) h l e = rw (h 0 (suc-le-suc zero-le), find) (ap suc (found (λ k. p (suc k)) n r (λ k m. h (suc k) (suc-le-suc m)) (le_of_suc-le-suc l) e))

missed : (p : ℕ → Bool) (n : ℕ) → ((k : ℕ) → k < n → p k ≡ false) → n ≡ find p n
unfolding find
missed p zero h = refl
missed p (suc n) h = rw (h 0 (suc-le-suc zero-le), find) (ap suc (missed (λ k. p (suc k)) n (λ k m. h (suc k) (suc-le-suc m))))

-- the search ends at an index that passes, or at the end
pub found_at : {p : ℕ → Bool} {i : ℕ} → Passed p i → (n : ℕ) → i < n → p i ≡ true → i ≡ find p n
found_at {p} {i} h n l e = found p n i h.none l e

pub found_none : {p : ℕ → Bool} {i : ℕ} → Passed p i → (n : ℕ) → n ≤ i → n ≡ find p n
found_none {p} {i} h n l = missed p n (λ k m. h.none k (omega arith))

-- ---- what holds of the index found
find_le_by : (p : ℕ → Bool) (n m : ℕ) (b : Bool) → m ≤ n → elim b [ true ↦ 0 | false ↦ suc m ] ≤ suc n
find_le_by p n m true h = zero-le
find_le_by p n m false h = suc-le-suc h

pub find_le : (p : ℕ → Bool) (n : ℕ) → find p n ≤ n
unfolding find
find_le p zero = zero-le
find_le p (suc n) = find_le_by p n (find (λ k. p (suc k)) n) (p 0) (find_le (λ k. p (suc k)) n)

-- below the index found the test fails
find_before_by : (p : ℕ → Bool) (m : ℕ) (b : Bool) → p 0 ≡ b → ((k : ℕ) → k < m → p (suc k) ≡ false) → (k : ℕ) → k < elim b [ true ↦ 0 | false ↦ suc m ] → p k ≡ false
find_before_by p m true e h k l = absurd (omega arith)
find_before_by p m false e h zero l = e
find_before_by p m false e h (suc k) l = h k (le_of_suc-le-suc l)

pub find_before : (p : ℕ → Bool) (n k : ℕ) → k < find p n → p k ≡ false
unfolding find
find_before p zero k l = absurd (omega arith)
find_before p (suc n) k l = find_before_by p (find (λ j. p (suc j)) n) (p 0) refl (λ j m. find_before (λ i. p (suc i)) n j m) k l

-- at the index found it passes
find_holds_by : (p : ℕ → Bool) (n m : ℕ) (b : Bool) → p 0 ≡ b → (m < n → p (suc m) ≡ true) → elim b [ true ↦ 0 | false ↦ suc m ] < suc n → p (elim b [ true ↦ 0 | false ↦ suc m ]) ≡ true
find_holds_by p n m true e h l = e
find_holds_by p n m false e h l = h (le_of_suc-le-suc l)

pub find_holds : (p : ℕ → Bool) (n : ℕ) → find p n < n → p (find p n) ≡ true
unfolding find
find_holds p zero l = absurd (omega arith)
find_holds p (suc n) l = find_holds_by p n (find (λ j. p (suc j)) n) (p 0) refl (λ h. find_holds (λ i. p (suc i)) n h) l

-- the test passes nowhere below n
pub none_below : (p : ℕ → Bool) (n : ℕ) → exists p n ≡ false → (k : ℕ) → k < n → p k ≡ false
unfolding exists
none_below p n e k l = find_before p n k (omega (arith, ltb-false (find p n) n e))

-- ---- two searches
-- two tests that agree below n find the same
pub find_ext : (p q : ℕ → Bool) (n : ℕ) → ((k : ℕ) → k < n → p k ≡ q k) → find p n ≡ find q n
unfolding find
find_ext p q zero h = refl
find_ext p q (suc n) h =
    let first_test = h 0 (omega arith) in
    let others = find_ext (λ k. p (suc k)) (λ k. q (suc k)) n (λ k l. h (suc k) (omega arith)) in
    λ i. elim (first_test i) [ true ↦ 0 | false ↦ suc (others i) ]

-- a search that ends below n ends there if it goes on too
pub find_front : (p : ℕ → Bool) (n m : ℕ) → find p n < n → find p n ≡ find p (n + m)
find_front p n m l = found_at (record { none = find_before p n }) (n + m) (omega arith) (find_holds p n l)

-- one that does not begins again at n
pub find_behind : (p : ℕ → Bool) (n m : ℕ) → n ≤ find p n → n + find (λ k. p (n + k)) m ≡ find p (n + m)
find_behind p n m h = elim (lt_or_le (find (λ k. p (n + k)) m) m) [
  | inl l ↦ found_at passed (n + m) (omega arith) (find_holds (λ k. p (n + k)) m l)
  | inr l ↦ ap (λ (k : ℕ). n + k) (sym (found_none rest m l)) ∙ found_none passed (n + m) (omega arith)
]
  where
    rest : Passed (λ k. p (n + k)) (find (λ k. p (n + k)) m)
    rest = record { none = find_before (λ k. p (n + k)) m }

    passed : Passed p (n + find (λ k. p (n + k)) m)
    passed =
        record {
          none = λ k l. elim (lt_or_le k n) [
            | inl b ↦ find_before p n k (omega arith)
            | inr b ↦ ap p (omega (arith, b)) ∙ rest.none (k - n) (omega arith)
          ];
        }

-- ---- a search that tells only whether the test passes
module _ {p : ℕ → Bool} {i : ℕ} (s : Passed p i) (n : ℕ) where
  pub exists_at : i < n → p i ≡ true → true ≡ exists p n
  unfolding exists
  exists_at l e = rw (← (found_at s n l e)) (sym (lt-ltb i n l))

  pub exists_none : n ≤ i → false ≡ exists p n
  unfolding exists
  exists_none l = rw (← (found_none s n l)) (sym (le-ltb n n (le_refl n)))
