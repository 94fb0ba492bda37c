-- Each column of a basis has as many values as the field. Assumes nothing.
use mathlib.Core.Path.{◌≡◌, refl, ap, ◌∙◌, subst}
use mathlib.Core.Bool.{Bool, true, false}
use mathlib.Core.List.{List, [], ◌∷◌, ◌++◌}
use Prim.Native.Nat.{ℕ, suc, ◌+◌, ◌<◌}
use native.Mathlib.Nat.{zero-add}
use native.Mathlib.Omega.{arith}
use borrow.Author.Count.{below_none, below_more}
use lib.ListN.{length, get_or, length-append, get_or-append}
use lib.Seq.{get_or-append_seam}
use lib.Ieee.{Float}
use Rattle.lists.specs.Walk.{Turn, on, out, walk}
use Rattle.lists.proofs.Walk.{Kept, walk_keeps}
use Rattle.doubles.specs.F64.{◌⊘◌, 1f}
use Rattle.vectors.specs.Vectors.{scale}
use Rattle.vectors.proofs.Laws.{length_scale}
use Rattle.gram_schmidt.specs.Basis.{Setting, len, dim, Columns, Rest, rest, Breakdown, Basis, breakdown, full, extend, arnoldi_step, close, first_column, arnoldi}
use Rattle.gram_schmidt.proofs.GramSchmidt.{orthogonal_long}
use Rattle.gram_schmidt.proofs.Turns.{length_product}

-- columns of n values
abbrev pub Long : ℕ → List (List Float) → Type 0
Long n v = (k : ℕ) → k < length v → length (get_or v k []) ≡ n

one_more : (n : ℕ) (v : List (List Float)) (z : List Float) → Long n v → length z ≡ n → Long n (v ++ (z ∷ []))
one_more n v z h e k l =
    below_more (λ (i : ℕ). length (get_or (v ++ (z ∷ [])) i []) ≡ n) (length v) (λ i m. ap length (get_or-append v (z ∷ []) [] i m) ∙ h i m) (ap length (get_or-append_seam v z [] []) ∙ e) k
    (subst (λ (m : ℕ). k < m) (length-append v (z ∷ [])) l)

abbrev pub BasisLong : ℕ → Basis → Type 0
BasisLong n (breakdown b) = Long n b.columns.v
BasisLong n (full b avnorm) = Long n b.v

module _ (p : Setting) where
  abbrev Grown : ℕ → Turn Columns Breakdown → Type 0
  Grown j o = Kept (λ (i : ℕ) (b : Columns). (length b.v ≡ suc i) × Long (len p) b.v) (λ (i : ℕ) (b : Breakdown). Long (len p) b.columns.v) j o

  rest_long : (j : ℕ) (b : Columns) → length b.v ≡ suc j → Long (len p) b.v → length (rest p j b).z ≡ len p
  unfolding rest
  rest_long j b e h = orthogonal_long (λ k. get_or b.v k []) (dim p) j (j + 1) (len p) _ (length_product p _) (λ k l. h k (omega (arith, l, e)))

  extend_grown : (j : ℕ) (b : Columns) (r : Rest) (hn : Float) (t : Bool) → length b.v ≡ suc j → Long (len p) b.v → length r.z ≡ len p → Grown (j + 1) (extend p j b r hn t)
  unfolding extend
  extend_grown j b r hn true e h z = h
  extend_grown j b r hn false e h z =
      let x = scale (1f ⊘ hn) r.z in
      (omega (arith, length-append b.v (x ∷ []), e), one_more (len p) b.v x h (length_scale (1f ⊘ hn) r.z ∙ z))

  close_long : (o : Turn Columns Breakdown) → Grown p.m o → BasisLong (len p) (close p o)
  unfolding close
  close_long (out b) h = h
  close_long (on b) h = h.1

  pub basis_long : (y : List Float) (beta : Float) → length y ≡ len p → BasisLong (len p) (arnoldi p y beta)
  unfolding arnoldi first_column arnoldi_step
  basis_long y beta e =
      let first = scale (1f ⊘ beta) y in
      close_long (walk (arnoldi_step p beta) p.m 0 (on (first_column p y beta)))
      (subst (λ (n : ℕ). Grown n (walk (arnoldi_step p beta) p.m 0 (on (first_column p y beta)))) (zero-add p.m)
      (walk_keeps (λ (i : ℕ) (b : Columns). (length b.v ≡ suc i) × Long (len p) b.v) (λ (i : ℕ) (b : Breakdown). Long (len p) b.columns.v) (arnoldi_step p beta) (λ j b h. extend_grown j b (rest p j b) _ _ h.0 h.1 (rest_long j b h.0 h.1)) (λ i j b l h. h) p.m 0 (on (first_column p y beta))
      (refl, one_more (len p) [] first (below_none _) (length_scale (1f ⊘ beta) y ∙ e))))
