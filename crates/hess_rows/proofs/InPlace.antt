-- The product in place: the first r rows are written, and x is the last value that they replaced. Assumes nothing.
use mathlib.Core.List.{List, map}
use mathlib.Core.Path.{◌≡◌, refl, sym, ap, ◌∙◌, subst}
use Prim.Native.Nat.{ℕ, ◌+◌, ◌-◌, ◌≤◌, ◌<◌}
use native.Mathlib.Omega.{arith}
use lib.ListN.{length, set}
use lib.Ieee.{Float, nan}
use Rattle.lists.specs.Loop.{tabulate}
use Rattle.lists.proofs.Loop.{Filled, started, turned₀, read_after, finished_all, map_tabulate, tabulate_ext, length_tabulate, get_d_tabulate}
use Rattle.doubles.specs.F64.{◌⊗◌, at}
use Rattle.hess_rows.specs.HessProduct.{hess_product}
use Rattle.hess_rows.specs.Parts.{hess_row, row_part, four_parts, put}
use Rattle.hess_rows.specs.declared.Four.{Four}
use Rattle.hess_rows.proofs.Rows.{row_is}

module _ (h : List Float) (dim mx : ℕ) (f : Float) (w₀ : List Float) where
  -- row k of f H w₀
  abbrev row : ℕ → Float
  row k = f ⊗ hess_row h dim mx w₀ k

  pub record Placed (r : ℕ) (x : Float) (w : List Float) : Type 0 where
    pub within : r ≤ mx
    pub filled : Filled 0 r row w₀ w
    pub saved : 0 < r → x ≡ at w₀ (r - 1)

  pub placed_start : (x : Float) → Placed 0 x w₀
  placed_start x = record { within = omega arith; filled = started 0 row w₀; saved = λ l. absurd (omega (arith, l)) }

  module _ {r : ℕ} {x : Float} {w : List Float} (p : Placed r x w) where
    same : (k : ℕ) → r ≤ k → at w k ≡ at w₀ k
    same k l = read_after p.filled k nan (omega (arith, l))

    -- a row of the old values, x being the one before it
    told : (k : ℕ) {y s : Float} → r ≤ k → k < mx → (0 < k → y ≡ at w₀ (k - 1)) → s ≡ row_part h dim y w k mx → f ⊗ s ≡ row k
    told k l m e d = ap (λ (s : Float). f ⊗ s) (d ∙ row_is h dim mx w₀ w k m e (λ j n. same j (omega (arith, l, n))))

    -- w at k is the old value there
    kept : (k j : ℕ) → r ≤ k → j ≡ k + 1 → at w k ≡ at w₀ (j - 1)
    kept k j l e = let here : k ≡ j - 1 = omega (arith, e) in same k l ∙ ap (at w₀) here

    pub row_turn : {s : Float} → r < mx → s ≡ row_part h dim x w r mx → Placed (r + 1) (at w r) (set w r (f ⊗ s))
    row_turn l e =
        record { within = omega (arith, l); filled = turned₀ p.filled (told r (omega arith) l p.saved e); saved = λ _. kept r (r + 1) (omega arith) refl }

    next : (i j : ℕ) {u : List Float} {v : Float} → i + 1 ≡ j → Filled 0 i row w₀ u → v ≡ row i → Filled 0 j row w₀ (set u i v)
    next i j {u} {v} d a b = subst (λ (k : ℕ). Filled 0 k row w₀ (set u i v)) d (turned₀ a b)

    -- four rows from row i on, y being the old value before them
    four_put : (i j : ℕ) {u : List Float} {y : Float} {s : Four} → r ≤ i → i + 4 ≤ mx → i + 4 ≡ j → (0 < i → y ≡ at w₀ (i - 1)) → Filled 0 i row w₀ u → s ≡ four_parts h dim y w i mx → Filled 0 j row w₀ (put u i f s)
    four_put i j {u} {y} {s} l m d old a e =
        let w1 = next i (i + 1) refl a (told i l (omega arith) old (ap (λ (z : Four). z.s0) e)) in
        let w2 = next (i + 1) (i + 2) (omega arith) w1 (told (i + 1) (omega arith) (omega arith) (λ _. kept i (i + 1) l refl) (ap (λ (z : Four). z.s1) e)) in
        let w3 = next (i + 2) (i + 3) (omega arith) w2 (told (i + 2) (omega arith) (omega arith) (λ _. kept (i + 1) (i + 2) (omega arith) (omega arith)) (ap (λ (z : Four). z.s2) e)) in
        next (i + 3) j (omega (arith, d)) w3 (told (i + 3) (omega arith) (omega arith) (λ _. kept (i + 2) (i + 3) (omega arith) (omega arith)) (ap (λ (z : Four). z.s3) e))

    pub rows_turn : {s t : Four} → r + 8 ≤ mx → s ≡ four_parts h dim x w r mx → t ≡ four_parts h dim (at w (r + 3)) w (r + 4) mx → Placed (r + 8) (at w (r + 7)) (put (put w r f s) (r + 4) f t)
    rows_turn l e d =
        record {
          within = l;
          filled = four_put (r + 4) (r + 8) (omega arith) (omega arith) (omega arith) (λ _. kept (r + 3) (r + 4) (omega arith) (omega arith)) (four_put r (r + 4) (omega arith) (omega arith) refl p.saved p.filled e) d;
          saved = λ _. kept (r + 7) (r + 8) (omega arith) (omega arith);
        }

    -- a list of products by its places
    mapped : (xs : List Float) → length xs ≡ mx → ((k : ℕ) → k < mx → at xs k ≡ hess_row h dim mx w₀ k) → map (λ e. f ⊗ e) xs ≡ tabulate mx row
    mapped xs e h = map_tabulate (λ e. f ⊗ e) xs nan ∙ rw e (tabulate_ext mx _ row (λ k l. ap (λ (s : Float). f ⊗ s) (h k l)))

    pub placed_end : mx ≤ r → length w₀ ≡ mx → w ≡ map (λ e. f ⊗ e) (hess_product h dim mx w₀)
    unfolding hess_product
    placed_end l e = finished_all p.filled mx p.within l e ∙ sym (mapped (tabulate mx (hess_row h dim mx w₀)) (length_tabulate mx _) (λ k l. get_d_tabulate mx _ k nan l))
