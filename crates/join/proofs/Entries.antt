-- The entries of a matrix by their places, and those of the result: which there are, in which order, and their values. Assumes nothing.
use mathlib.Core.Bool.{Bool, true, false}
use mathlib.Core.List.{List}
use mathlib.Core.Path.{◌≡◌, refl, sym, ap, ◌∙◌, subst}
use Prim.Native.Nat.{ℕ, ◌+◌, ◌-◌, ◌≤◌, ◌<◌}
use native.Mathlib.Omega.{arith}
use lib.Dec.{eqb}
use lib.ListN.{length, get_or, length-append}
use lib.Ieee.{nan}
use borrow.Author.Tests.{ltb-true, ltb-false, eqb-true, eqb-false}
use Rattle.lists.proofs.Begins.{places_hit, places_rise, stack_row, stack_next}
use Rattle.lists.specs.Find.{find}
use Rattle.lists.specs.Loop.{stack}
use Rattle.lists.specs.Places.{places}
use Rattle.lists.proofs.Find.{find_before, find_holds}
use Rattle.lists.proofs.Loop.{get_d_tabulate, get_d_map}
use Rattle.lists.proofs.Places.{places_found}
use Rattle.doubles.specs.F64.{at}
use Rattle.general_operator.specs.Csr.{Csr, start}
use Rattle.join_rows.specs.Join.{place, holds, value, joined_columns, joined_value, joined_values, join}
use Rattle.join_rows.specs.Inner.{Ordered}
use Rattle.join_rows.proofs.Row.{held_at, rise}
use Rattle.join_rows.proofs.Steps.{held}
use Rattle.join_checks.proofs.Result.{values_long}

-- row i of q has an entry in column j, at place k of the stored columns
pub record Entry (q : Csr) (i j : ℕ) : Type 0 where
  pub k : ℕ
  pub from : start q i ≤ k
  pub to : k < start q (i + 1)
  pub is : get_or q.columns k 0 ≡ j

-- ---- `holds` says that there is one
pub holds_entry : (q : Csr) (i j : ℕ) → holds q i j ≡ true → Entry q i j
unfolding holds place
holds_entry q i j e =
    let n = start q (i + 1) - start q i in
    let t : ℕ → Bool = λ k. eqb (get_or q.columns (start q i + k) 0) j in
    let l : start q i + find t n < start q (i + 1) = ltb-true _ _ e in
    record { k = start q i + find t n; from = omega arith; to = l; is = eqb-true _ _ (find_holds t n (omega arith)) }

no_entry : (q : Csr) (i j : ℕ) → holds q i j ≡ false → Entry q i j → ⊥
unfolding holds place
no_entry q i j e h =
    let n = start q (i + 1) - start q i in
    let t : ℕ → Bool = λ k. eqb (get_or q.columns (start q i + k) 0) j in
    let l : start q (i + 1) ≤ start q i + find t n = ltb-false _ _ e in
    let x = h.k - start q i in
    let back : start q i + x ≡ h.k = omega (arith, h.from) in
    eqb-false _ _ (find_before t n x (omega (arith, h.from, h.to))) (ap (λ (s : ℕ). get_or q.columns s 0) back ∙ h.is)

pub entry_holds : {q : Csr} {i j : ℕ} → Entry q i j → holds q i j ≡ true
entry_holds {q} {i} {j} h = by (holds q i j) refl
  where
    by : (b : Bool) → holds q i j ≡ b → holds q i j ≡ true
    by true e = e
    by false e = absurd (no_entry q i j e h)

-- where the columns of a row rise there is one at most
pub entry_place : {q : Csr} → Ordered q.n q.starts q.columns → {i j : ℕ} → i < q.n → (h : Entry q i j) → h.k ≡ place q i j
entry_place {q} o {i} {j} l h = held_at q i j (o.rows.rising i l) h.k h.from h.to h.is (λ k m b e. omega (arith, rise o l k h.k m b h.to, h.is))

-- ---- the rows of the result
module _ (a b : Csr) where
  abbrev c : Csr
  c = join a b

  abbrev row : ℕ → List ℕ
  row = joined_columns a b

  pub start_is : (i : ℕ) → i ≤ a.n → start c i ≡ length (stack i row)
  unfolding join
  start_is i l = get_d_tabulate (a.n + 1) (λ k. length (stack k row)) i 0 (omega arith)

  pub row_ends : (i : ℕ) → i < a.n → start c (i + 1) ≡ start c i + length (row i)
  row_ends i l = start_is (i + 1) (omega arith) ∙ ap length (stack_next row i) ∙ length-append (stack i row) (row i) ∙ ap (λ (s : ℕ). s + length (row i)) (sym (start_is i (omega arith)))

  module _ (i x : ℕ) (l : i < a.n) (h : x < length (row i)) where
    column_there : get_or c.columns (start c i + x) 0 ≡ get_or (row i) x 0
    unfolding join
    column_there = ap (λ (s : ℕ). get_or (stack a.n row) (s + x) 0) (start_is i (omega arith)) ∙ stack_row row i a.n x 0 l h

    value_there : at c.entries (start c i + x) ≡ joined_value a b i (get_or (row i) x 0)
    unfolding join joined_values
    value_there =
        ap (λ (s : ℕ). at (stack a.n (joined_values a b)) (s + x)) (start_is i (omega arith) ∙ sym (values_long a b i))
        ∙ stack_row (joined_values a b) i a.n x nan l (omega (arith, lib.ListN.length-map (row i) (joined_value a b i)))
        ∙ get_d_map (joined_value a b i) (row i) x nan h

  module _ (i j : ℕ) (l : i < a.n) where
    -- an entry of the result is at a place of its row
    module _ (h : Entry c i j) where
      x : ℕ
      x = h.k - start c i

      unfoldable x_is : start c i + x ≡ h.k
      unfolding x
      x_is = omega (arith, h.from)

      x_below : x < length (row i)
      unfolding x
      x_below = omega (arith, row_ends i l, h.from, h.to)

      column_is : get_or (row i) x 0 ≡ j
      column_is = sym (column_there i x l x_below) ∙ ap (λ (s : ℕ). get_or c.columns s 0) x_is ∙ h.is

      -- its column is held, and its value is the joined one
      pub entry_held : held a b i j ≡ true
      unfolding joined_columns
      entry_held = subst (λ (s : ℕ). held a b i s ≡ true) column_is (places_found (held a b i) a.n x x_below).passes

      pub entry_value : at c.entries h.k ≡ joined_value a b i j
      entry_value = ap (at c.entries) (sym x_is) ∙ value_there i x l x_below ∙ ap (joined_value a b i) column_is

    -- a column that is held is in the result
    pub held_entry : j < a.n → held a b i j ≡ true → Entry c i j
    unfolding joined_columns
    held_entry m e =
        let y = length (places (held a b i) j) in
        let h = places_hit (held a b i) a.n j m e in
        record { k = start c i + y; from = omega arith; to = omega (arith, row_ends i l, h.0); is = column_there i y l h.0 ∙ h.1 }

  -- the columns of a row rise
  pub result_rises : (i k : ℕ) → i < a.n → start c i ≤ k → k + 1 < start c (i + 1) → get_or c.columns k 0 < get_or c.columns (k + 1) 0
  unfolding joined_columns
  result_rises i k l h m =
      let y = k - start c i in
      let e : start c i + y ≡ k = omega arith in
      let e₁ : start c i + (y + 1) ≡ k + 1 = omega arith in
      let s : y + 1 < length (row i) = omega (arith, row_ends i l) in
      let u : get_or (row i) y 0 ≡ get_or c.columns k 0 = sym (column_there i y l (omega arith)) ∙ ap (λ (t : ℕ). get_or c.columns t 0) e in
      let v : get_or (row i) (y + 1) 0 ≡ get_or c.columns (k + 1) 0 = sym (column_there i (y + 1) l s) ∙ ap (λ (t : ℕ). get_or c.columns t 0) e₁ in
      omega (arith, places_rise (held a b i) a.n y s)
