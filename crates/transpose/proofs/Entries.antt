-- What a transposed matrix is: its entries in row j and column i are those of row i and column j, in stored order. Assumes nothing.
use mathlib.Core.Bool.{Bool, true, false, ◌&&◌}
use mathlib.Core.List.{List, [], ◌∷◌, ◌++◌, map, map-map, append-nil}
use mathlib.Core.Path.{◌≡◌, refl, sym, ap, ◌∙◌}
use mathlib.Core.Logic.{⊎_elim}
use Prim.Native.Nat.{ℕ, zero, suc, ◌≤◌, ◌<◌}
use native.Mathlib.Omega.{arith}
use lib.Dec.{eqb}
use lib.ListN.{length, get_or}
use borrow.Author.Tests.{eqb-true}
use Rattle.lists.specs.Loop.{stack}
use Rattle.lists.proofs.Bounds.{lt_or_le}
use Rattle.lists.proofs.Loop.{map_tabulate}
use Rattle.doubles.specs.F64.{at, bits, 1f, 2f}
use Rattle.doubles.specs.Units.{Doubles}
use Rattle.doubles.proofs.Units.{tabulated}
use Rattle.general_operator.specs.Csr.{Csr, csr, start, Valid}
use Rattle.generator_action.specs.Mass.{row_of}
use Rattle.lists.specs.Places.{places}
use Rattle.transpose.specs.Transpose.{column, in_column, transpose, ordered, open_transpose}
use Rattle.lists.proofs.Places.{places_ext, map_places, places_never}
use Rattle.transpose.proofs.Twice.{through, row_transposed, column_transposed, value_transposed}

module _ (c : ℕ → ℕ) (t : ℕ → Bool) (N : ℕ) (j : ℕ) where
  abbrev part : ℕ → List ℕ
  part i = places (λ k. eqb (c k) i && (eqb (c k) j && t k)) N

  other : (i : ℕ) → (i ≡ j → ⊥) → part i ≡ []
  other i h = places_ext _ (λ k. false) N (λ k l. by k (eqb (c k) i) (eqb (c k) j) refl refl) ∙ places_never N
    where
      by : (k : ℕ) (a b : Bool) → eqb (c k) i ≡ a → eqb (c k) j ≡ b → (a && (b && t k)) ≡ false
      by k true true e f = absurd (h (sym (eqb-true (c k) i e) ∙ eqb-true (c k) j f))
      by k true false e f = refl
      by k false b e f = refl

  own : part j ≡ places (λ k. eqb (c k) j && t k) N
  own = places_ext _ _ N (λ k l. by (eqb (c k) j) (t k))
    where
      by : (a b : Bool) → (a && (a && b)) ≡ (a && b)
      by true b = refl
      by false b = refl

  none : (n : ℕ) → n ≤ j → stack n part ≡ []
  unfolding stack
  none zero h = refl
  none (suc n) h = rw (none n (omega arith), other n (λ e. absurd (omega (arith, e)))) refl

  pub one : (n : ℕ) → j < n → stack n part ≡ places (λ k. eqb (c k) j && t k) N
  unfolding stack
  one zero h = absurd (omega arith)
  one (suc n) h = ⊎_elim (below (λ l. one n l)) here (lt_or_le j n)
    where
      below : (j < n → stack n part ≡ places (λ k. eqb (c k) j && t k) N) → j < n → stack n part ++ part n ≡ places (λ k. eqb (c k) j && t k) N
      below f l = rw (f l, other n (λ e. absurd (omega (arith, e)))) (append-nil _)

      here : n ≤ j → stack n part ++ part n ≡ places (λ k. eqb (c k) j && t k) N
      here l = let e : n ≡ j = omega arith in rw (none n l) (ap part e ∙ own)

module _ {q : Csr} (v : Valid q) (z : start q 0 ≡ 0) where
  abbrev N : ℕ
  N = length q.columns

  abbrev order : List ℕ
  order = stack q.n (in_column q)

  pub transposed_entries : (i j : ℕ) → j < q.n → map (at (transpose q).entries) (places (λ k. eqb (row_of (transpose q) k) j && eqb (column (transpose q) k) i) N) ≡ map (at q.entries) (places (λ k. eqb (column q k) j && eqb (row_of q k) i) N)
  transposed_entries i j l =
      map_places _ (λ k. at q.entries (get_or order k 0)) _ N (λ k m. value_transposed v z k m)
      ∙ ap (map (λ k. at q.entries (get_or order k 0))) (places_ext _ (λ k. eqb (column q (get_or order k 0)) j && eqb (row_of q (get_or order k 0)) i) N (λ k m. rw (row_transposed v z k m, column_transposed v z k m) refl))
      ∙ sym (map-map (at q.entries) (λ k. get_or order k 0) (places (λ k. eqb (column q (get_or order k 0)) j && eqb (row_of q (get_or order k 0)) i) N))
      ∙ ap (map (at q.entries)) (through v z (λ k. eqb (column q k) j && eqb (row_of q k) i) ∙ one (column q) (λ k. eqb (row_of q k) i) N j q.n l)

-- they are doubles where those of q are
pub transpose_doubles : (q : Csr) → Doubles q.entries → Doubles (transpose q).entries
unfolding transpose
transpose_doubles q d k = rw (map_tabulate (at q.entries) (stack q.n (in_column q)) 0) (tabulated (length (stack q.n (in_column q))) _ (λ i. d (get_or (stack q.n (in_column q)) i 0)) k)

-- `ordered` in the place of `transpose` keeps the law of transposing twice: the law alone does not say what a transposed matrix is
abbrev a : Csr
a = csr 2 (0 ∷ 3 ∷ 4 ∷ []) (1 ∷ 0 ∷ 1 ∷ 1 ∷ []) (bits 0x4340_0000_0000_0000 ∷ 1f ∷ 2f ∷ 1f ∷ [])

fake : ordered (ordered a) ≡ ordered a
unfolding open_transpose
fake = refl
