-- What is so of every join that is accepted (document 02, N8). Assumes nothing.
use Rattle.std.specs.Prelude.{if◌then◌else◌}
use mathlib.Core.Bool.{Bool, true, false, not, ◌&&◌, ◌||◌, true≢false}
use mathlib.Core.List.{List, ◌++◌}
use mathlib.Core.Logic.{◌⊎◌, ⊎_elim}
use mathlib.Core.Path.{◌≡◌, refl, sym, ap, ◌∙◌, subst}
use Prim.Native.Nat.{ℕ, ◌+◌, ◌-◌, ◌≤◌, ◌<◌}
use native.Mathlib.Nat.{le_refl}
use native.Mathlib.Omega.{arith}
use lib.Dec.{ltb}
use lib.ListN.{length, get_or}
use lib.Ieee.{Float}
use borrow.Author.Tests.{le-ltb, lt-leb, not-false, ltb-true}
use Rattle.lists.specs.Find.{exists}
use Rattle.lists.specs.Loop.{stack}
use Rattle.lists.specs.Window.{window, splice}
use Rattle.lists.proofs.Tests.{and_false}
use Rattle.lists.proofs.Bounds.{lt_or_le}
use Rattle.lists.proofs.Find.{none_below, exists_none}
use Rattle.lists.proofs.Loop.{length_tabulate}
use Rattle.lists.proofs.Places.{places_found, spot}
use Rattle.lists.proofs.Window.{window_splice_same}
use Rattle.doubles.specs.F64.{◌⊕◌, at, is_finite}
use Rattle.checks.specs.First.{first}
use Rattle.checks.proofs.First.{ok_is, passes, sound_cons, sound_append}
use Rattle.checks.specs.First.{Checked}
use Rattle.general_operator.specs.Csr.{Csr, csr, start, Valid}
use Rattle.general_operator.specs.Checks.{matrix_checks}
use Rattle.general_operator.proofs.Sound.{or_false}
use Rattle.general_operator.proofs.Rows.{start_le}
use Rattle.generator_action.specs.Known.{Finite}
use Rattle.join_rows.specs.Join.{JoinAnswer}
use Rattle.join_rows.specs.declared.Lengths.{Lengths}
use Rattle.join_rows.specs.Join.{place, holds, value, joined_columns, joined_value, join, unordered, not_rising, input_checks, value_checks, pair_checks, result_checks, join_checks, written, join_call, Call, ends}
use Rattle.join_rows.specs.Inner.{Ordered, Fitting}
use Rattle.join.proofs.Passing.{valid_passes}
use Rattle.join_rows.proofs.Steps.{held}
use Rattle.join_checks.proofs.Result.{values_long, input_valid, ordered, same_n, fitting}
use Rattle.join.proofs.Entries.{Entry, holds_entry, entry_holds, entry_place, start_is, row_ends, entry_held, entry_value, held_entry, result_rises}
use Rattle.checks.specs.Reasons.{Sound}
use Rattle.std.specs.Prelude.{Ok, Err}

-- ---- 6 carries a sum: a value that is not finite is one of both
both_by : (s t : Bool) (x y z : Float) → (s || t) ≡ true → (s ≡ true → is_finite x ≡ true) → (t ≡ true → is_finite y ≡ true) → is_finite (if s && t then z else if s then x else y) ≡ false → (s && t) ≡ true
both_by true true x y z h f g e = refl
both_by true false x y z h f g e = absurd (true≢false (sym (f refl) ∙ e))
both_by false true x y z h f g e = absurd (true≢false (sym (g refl) ∙ e))
both_by false false x y z h f g e = absurd (true≢false (sym h))

held_finite : (q : Csr) → Valid q → Finite q → (i j : ℕ) → i < q.n → holds q i j ≡ true → is_finite (value q i j) ≡ true
unfolding holds
held_finite q v f i j l e = f (place q i j) (omega (arith, ltb-true (place q i j) (start q (i + 1)) e, start_le v (i + 1) (omega arith)))

pub bad_sum : (a b : Csr) → Valid a → Finite a → Valid b → Finite b → (i j : ℕ) → i < a.n → i < b.n → held a b i j ≡ true → is_finite (joined_value a b i j) ≡ false → (holds a i j && holds b i j) ≡ true
unfolding joined_value
bad_sum a b va fa vb fb i j la lb h e = both_by (holds a i j) (holds b i j) (value a i j) (value b i j) (value a i j ⊕ value b i j) h (held_finite a va fa i j la) (held_finite b vb fb i j lb) e

-- ---- an accepted call
joined_by : (c : Csr) (r : Checked) (s cs : List ℕ) (vs : List Float) (k : ℕ) → (written r c s cs vs).answer ≡ Ok k → Sound ≡ r
unfolding written
joined_by c (Ok _) s cs vs k e = refl
joined_by c (Err r) s cs vs k e = cc

pub joined_accepted : (a b : Csr) (s cs : List ℕ) (vs : List Float) (k : ℕ) → (join_call a b s cs vs).answer ≡ Ok k → Sound ≡ first (join_checks a b (record { starts = length s; columns = length cs; values = length vs }))
unfolding join_call
joined_accepted a b s cs vs k e = joined_by (join a b) _ s cs vs k e

or_cases : (s t : Bool) → (s || t) ≡ true → (s ≡ true) ⊎ (t ≡ true)
or_cases true t e = ◌⊎◌.inl refl
or_cases false t e = ◌⊎◌.inr e

or_second : (s t : Bool) → t ≡ true → (s || t) ≡ true
or_second true t e = refl
or_second false t e = e

module _ (a b : Csr) (l : Lengths) (e : Sound ≡ first (join_checks a b l)) where
  abbrev c : Csr
  c = join a b

  parts : (Sound ≡ first (input_checks a)) × (Sound ≡ first (input_checks b)) × (Sound ≡ first (pair_checks a b)) × (Sound ≡ first (result_checks c l))
  unfolding join_checks
  parts =
      let s = sound_append (input_checks a) (input_checks b ++ (pair_checks a b ++ result_checks c l)) e in
      let t = sound_append (input_checks b) (pair_checks a b ++ result_checks c l) s.1 in
      let u = sound_append (pair_checks a b) (result_checks c l) t.1 in
      (s.0, t.0, u.0, u.1)

  valid_a : Valid a
  valid_a = input_valid a parts.0

  valid_b : Valid b
  valid_b = input_valid b parts.1

  one_n : a.n ≡ b.n
  one_n = same_n a b parts.2

  rising : (unordered a ≡ false) × (unordered b ≡ false)
  unfolding pair_checks
  rising = or_false _ _ (sound_cons _ _ _ _ (sound_cons _ _ _ _ parts.2).1).0

  ordered_a : Ordered a.n a.starts a.columns
  ordered_a = ordered a valid_a rising.0

  ordered_b : Ordered b.n b.starts b.columns
  ordered_b = ordered b valid_b rising.1

  fits : Fitting c l
  fits = fitting c l parts.3

  -- ---- the result passes 1 to 6
  result_below : (k : ℕ) → k < length c.columns → get_or c.columns k 0 < a.n
  unfolding join joined_columns
  result_below k h =
      let s = spot (joined_columns a b) a.n k h in
      omega (arith, s.is, (places_found (held a b s.j) a.n s.i s.to).below)

  pub result_valid : Valid c
  unfolding join
  result_valid =
      record {
        some = valid_a.some;
        few = valid_a.few;
        light = fits.light;
        rows = length_tabulate (a.n + 1) _;
        rising = λ i h. omega (arith, row_ends a b i h);
        last = start_is a b a.n (le_refl a.n) ∙ sym (values_long a b a.n);
        paired = sym (values_long a b a.n);
        below = result_below;
      }

  pub result_finite : Finite c
  unfolding result_checks value_checks
  result_finite k h = not-false _ (none_below _ (length c.entries) (sound_cons _ _ _ _ (sound_cons _ _ _ _ (sound_cons _ _ _ _ parts.3).1).1).0 k h)

  pub result_passes : Sound ≡ first (matrix_checks c)
  result_passes = valid_passes result_valid result_finite

  -- its first row starts at 0
  pub result_from_0 : start c 0 ≡ 0
  unfolding stack
  result_from_0 = start_is a b 0 (omega arith)

  -- ---- its columns rise strictly within each row: 35 does not refuse it
  pub result_strict : (i k : ℕ) → i < a.n → start c i ≤ k → k + 1 < start c (i + 1) → get_or c.columns k 0 < get_or c.columns (k + 1) 0
  result_strict = result_rises a b

  pub result_n : c.n ≡ a.n
  unfolding join
  result_n = refl

  rows_are : (i : ℕ) → i < c.n → i < a.n
  unfolding join
  rows_are i h = h

  row_fine : (i k : ℕ) → i < a.n → not_rising c.columns (start c (i + 1)) (start c i + k) ≡ false
  unfolding not_rising
  row_fine i k h =
      ⊎_elim
      (λ (m : start c i + k + 1 < start c (i + 1)). rw (lt-leb _ _ (result_rises a b i (start c i + k) h (omega arith) m)) (and_false (ltb (start c i + k + 1) (start c (i + 1)))))
      (λ (m : start c (i + 1) ≤ start c i + k + 1). rw (le-ltb _ _ m) refl)
      (lt_or_le (start c i + k + 1) (start c (i + 1)))

  pub result_ordered : unordered c ≡ false
  unfolding unordered
  result_ordered =
      let row : (i : ℕ) → i < c.n → exists (λ k. not_rising c.columns (start c (i + 1)) (start c i + k)) (start c (i + 1) - start c i) ≡ false
      = λ i h. sym (exists_none (record { none = λ k m. row_fine i k (rows_are i h) }) (start c (i + 1) - start c i) (le_refl _)) in
      sym (exists_none (record { none = row }) c.n (le_refl c.n))

  -- ---- its places are those held by one input or both
  module _ (i j : ℕ) (h : i < a.n) where
    pub entry_of_one : Entry c i j → Entry a i j ⊎ Entry b i j
    entry_of_one x = ⊎_elim (λ (s : holds a i j ≡ true). ◌⊎◌.inl (holds_entry a i j s)) (λ (s : holds b i j ≡ true). ◌⊎◌.inr (holds_entry b i j s)) (or_cases (holds a i j) (holds b i j) (entry_held a b i j h x))

    column_a : Entry a i j → j < a.n
    column_a x = subst (λ (s : ℕ). s < a.n) x.is (valid_a.below x.k (omega (arith, x.to, start_le valid_a (i + 1) (omega arith), valid_a.paired)))

    column_b : Entry b i j → j < b.n
    column_b x = subst (λ (s : ℕ). s < b.n) x.is (valid_b.below x.k (omega (arith, x.to, start_le valid_b (i + 1) (omega (arith, one_n)), valid_b.paired)))

    pub entry_from_a : Entry a i j → Entry c i j
    entry_from_a x = held_entry a b i j h (column_a x) (rw (entry_holds x) refl)

    pub entry_from_b : Entry b i j → Entry c i j
    entry_from_b x = held_entry a b i j h (omega (arith, column_b x, one_n)) (or_second (holds a i j) (holds b i j) (entry_holds x))

    -- ---- and the values there: of both one rounded sum, the barrel's entry first
    pub value_joined : (x : Entry c i j) → at c.entries x.k ≡ joined_value a b i j
    value_joined x = entry_value a b i j h x

    place_a : (x : Entry a i j) → value a i j ≡ at a.entries x.k
    place_a x = ap (at a.entries) (sym (entry_place ordered_a h x))

    place_b : (x : Entry b i j) → value b i j ≡ at b.entries x.k
    place_b x = ap (at b.entries) (sym (entry_place ordered_b (omega (arith, one_n)) x))

    absent : (q : Csr) → (Entry q i j → ⊥) → holds q i j ≡ false
    absent q n = by (holds q i j) refl
      where
        by : (s : Bool) → holds q i j ≡ s → holds q i j ≡ false
        by true t = absurd (n (holds_entry q i j t))
        by false t = t

    pub value_both : (x : Entry c i j) (p : Entry a i j) (q : Entry b i j) → at c.entries x.k ≡ at a.entries p.k ⊕ at b.entries q.k
    unfolding joined_value
    value_both x p q = value_joined x ∙ rw (entry_holds p, entry_holds q) (λ s. place_a p s ⊕ place_b q s)

    pub value_of_a : (x : Entry c i j) (p : Entry a i j) → (Entry b i j → ⊥) → at c.entries x.k ≡ at a.entries p.k
    unfolding joined_value
    value_of_a x p n = value_joined x ∙ rw (entry_holds p, absent b n) (place_a p)

    pub value_of_b : (x : Entry c i j) (q : Entry b i j) → (Entry a i j → ⊥) → at c.entries x.k ≡ at b.entries q.k
    unfolding joined_value
    value_of_b x q n = value_joined x ∙ rw (absent a n) (place_b q)

-- ---- what an accepted call leaves in the fronts of the three slices is the join
module _ (a b : Csr) (s cs : List ℕ) (vs : List Float) where
  abbrev call : Call
  call = join_call a b s cs vs

  abbrev lengths : Lengths
  lengths = record { starts = length s; columns = length cs; values = length vs }

  call_is : Sound ≡ first (join_checks a b lengths) → call ≡ ends (Ok (length (join a b).entries)) (splice 0 (join a b).starts s) (splice 0 (join a b).columns cs) (splice 0 (join a b).entries vs)
  unfolding join_call written
  call_is e = rw (← e) refl

  front : {A : Type 0} (xs w : List A) (m : ℕ) → length xs ≡ m → m ≤ length w → window 0 m (splice 0 xs w) ≡ xs
  front xs w m e h = window_splice_same 0 m xs w e (omega arith)

  pub read_back : (k : ℕ) → call.answer ≡ Ok k → csr a.n (window 0 (a.n + 1) call.starts) (window 0 k call.columns) (window 0 k call.values) ≡ join a b
  read_back k d =
      let e = joined_accepted a b s cs vs k d in
      let t = call_is e in
      let f = fits a b lengths e in
      let v = result_valid a b lengths e in
      let n : length (join a b).entries ≡ k = joined_same (sym (ap (λ (r : Call). r.answer) t) ∙ d) in
      rw t (whole k n (result_n a b lengths e) f v)
    where
      joined_same : {m k : ℕ} → ◌≡◌ {A = JoinAnswer} (Ok m) (Ok k) → m ≡ k
      joined_same e = ok_is e

      whole : (k : ℕ) → length (join a b).entries ≡ k → (join a b).n ≡ a.n → Fitting (join a b) lengths → Valid (join a b)
          → csr a.n (window 0 (a.n + 1) (splice 0 (join a b).starts s)) (window 0 k (splice 0 (join a b).columns cs)) (window 0 k (splice 0 (join a b).entries vs)) ≡ join a b
      whole k n m f v =
          let u : length (join a b).starts ≡ a.n + 1 = v.rows ∙ ap (λ (i : ℕ). i + 1) m in
          λ i. csr (sym m i) (front (join a b).starts s (a.n + 1) u (omega (arith, f.starts)) i) (front (join a b).columns cs k (v.paired ∙ n) (omega (arith, f.columns, v.paired)) i) (front (join a b).entries vs k n (omega (arith, f.values)) i)
