-- A basis takes one product with the generator for each of its columns. Assumes nothing.
use mathlib.Core.Path.{◌≡◌, refl, ap, subst}
use mathlib.Core.Bool.{Bool, true, false}
use mathlib.Core.List.{List, [], ◌∷◌}
use Prim.Native.Nat.{ℕ, suc, ◌+◌, ◌≤◌}
use native.Mathlib.Nat.{le_refl, le_trans, zero-add}
use native.Mathlib.Omega.{arith}
use lib.ListN.{length, length-append}
use lib.Ieee.{Float}
use Rattle.doubles.specs.F64.{◌⊘◌, 1f}
use Rattle.vectors.specs.Vectors.{scale}
use Rattle.lists.specs.Walk.{Turn, on, out, walk}
use Rattle.lists.proofs.Walk.{Kept, walk_keeps}
use Rattle.gram_schmidt.specs.Basis.{Setting, Columns, Rest, Breakdown, Basis, breakdown, full, extend, arnoldi_step, close, first_column, arnoldi}

abbrev Built : ℕ → Turn Columns Breakdown → Type 0
Built j o = Kept (λ (i : ℕ) (b : Columns). (b.applied ≡ i) × (length b.v ≡ suc i)) (λ (i : ℕ) (b : Breakdown). (b.columns.applied ≡ b.mb) × (length b.columns.v ≡ b.mb) × (b.mb ≤ i)) j o

extend_built : (p : Setting) (j : ℕ) (b : Columns) (r : Rest) (hn : Float) (t : Bool) → (b.applied ≡ j) × (length b.v ≡ suc j) → Built (j + 1) (extend p j b r hn t)
unfolding extend
extend_built p j b r hn true h = (omega (arith, h.0), omega (arith, h.1), le_refl (j + 1))
extend_built p j b r hn false h = (omega (arith, h.0), omega (arith, h.1, length-append b.v (scale (1f ⊘ hn) r.z ∷ [])))

abbrev pub Products : ℕ → Basis → Type 0
Products M (breakdown b) = (b.columns.applied ≡ b.mb) × (length b.columns.v ≡ b.mb) × (b.mb ≤ M)
Products M (full b avnorm) = (b.applied ≡ suc M) × (length b.v ≡ suc M)

close_built : (p : Setting) (o : Turn Columns Breakdown) → Built p.m o → Products p.m (close p o)
unfolding close
close_built p (out b) h = h
close_built p (on b) h = (ap suc h.0, h.1)

pub basis_products : (p : Setting) (y : List Float) (beta : Float) → Products p.m (arnoldi p y beta)
unfolding arnoldi arnoldi_step first_column
basis_products p y beta =
    close_built p (walk (arnoldi_step p beta) p.m 0 (on (first_column p y beta)))
    (subst (λ (n : ℕ). Built n (walk (arnoldi_step p beta) p.m 0 (on (first_column p y beta)))) (zero-add p.m)
    (walk_keeps (λ (i : ℕ) (b : Columns). (b.applied ≡ i) × (length b.v ≡ suc i)) (λ (i : ℕ) (b : Breakdown). (b.columns.applied ≡ b.mb) × (length b.columns.v ≡ b.mb) × (b.mb ≤ i)) (arnoldi_step p beta) (λ j b h. extend_built p j b _ _ _ h) (λ i j e l h. (h.0, h.1, le_trans h.2 l)) p.m 0 (on (first_column p y beta)) (refl, refl)))
