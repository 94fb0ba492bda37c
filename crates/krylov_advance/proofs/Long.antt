-- A substep keeps the number of the field's values. Assumes nothing.
use mathlib.Core.Path.{◌≡◌, sym, ap, ◌∙◌, subst}
use mathlib.Core.Bool.{Bool, true, false}
use mathlib.Core.List.{List, []}
use Prim.Native.Nat.{ℕ, zero, suc, ◌≤◌}
use native.Mathlib.Nat.{le_of_eq}
use native.Mathlib.Numerals.{add-one}
use native.Mathlib.Omega.{arith}
use lib.ListN.{length, replicate, get_or, length-replicate}
use lib.Ieee.{Float}
use Rattle.lists.specs.Loop.{iter}
use Rattle.lists.specs.Walk.{Turn, on, out}
use Rattle.doubles.specs.F64.{◌⊖◌, ◌⊗◌, 1f, +0, at}
use Rattle.vectors.specs.Vectors.{axpy}
use Rattle.vectors.proofs.Laws.{length_axpy}
use Rattle.gram_schmidt.specs.Basis.{Setting, len, Basis, breakdown, full, arnoldi}
use Rattle.gram_schmidt.proofs.Products.{Products, basis_products}
use Rattle.gram_schmidt.proofs.Long.{Long, BasisLong, basis_long}
use Rattle.trial_steps.specs.Trials.{Trying, Tried, accepted, stuck, trials}
use Rattle.trial_steps.proofs.Coefficients.{Coefficients, counting, trials_coefficients}
use Rattle.krylov_advance.specs.Run.{State, End, finished, refused, applied_of, columns_of, combined, advance, unfinished, standing, settle, substep}

-- ---- columns added up
sums_long : (beta : Float) (v : List (List Float)) (f : List Float) (n k : ℕ) → Long n v → k ≤ length v → length (iter (λ i y. axpy (beta ⊗ at f i) (get_or v i []) y) k (replicate n +0)) ≡ n
unfolding iter
sums_long beta v f n zero h l = length-replicate n +0
sums_long beta v f n (suc k) h l =
    let e = sums_long beta v f n k h (omega (arith, l)) in
    length_axpy (beta ⊗ at f k) (get_or v k []) _ (h k l ∙ sym e) ∙ e

pub combined_long : (beta : Float) (v : List (List Float)) (f : List Float) (n : ℕ) → Long n v → length f ≤ length v → length (combined beta v f n) ≡ n
unfolding combined
combined_long beta v f n h l = sums_long beta v f n (length f) h l

-- ---- the substep
-- the last accepted state has n values
abbrev pub FieldLong : ℕ → Turn State End → Type 0
FieldLong n (on s) = length s.y ≡ n
FieldLong n (out (finished s)) = length s.y ≡ n
FieldLong n (out (refused k x s)) = length s.y ≡ n

standing_long : (n : ℕ) (s : State) (b : Bool) → length s.y ≡ n → FieldLong n (standing s b)
standing_long n s true e = e
standing_long n s false e = e

settle_long : (p : Setting) (n : ℕ) (s : State) (b : Basis) (o : Turn Trying Tried) → length s.y ≡ n → Long n (columns_of b) → Coefficients (length (columns_of b)) o → FieldLong n (settle p s b o)
unfolding settle
settle_long p n s b (on t) e h c = e
settle_long p n s b (out (stuck arg)) e h c = e
settle_long p n s b (out (accepted r t f err)) e h c =
    let u = advance p s (applied_of b) (columns_of b) r t f err in
    standing_long n u (unfinished u) (unfold advance in ap (λ (k : ℕ). length (combined s.control.beta (columns_of b) f k)) e ∙ combined_long s.control.beta (columns_of b) f n h (le_of_eq c))

columns_long : (n : ℕ) (b : Basis) → BasisLong n b → Long n (columns_of b)
columns_long n (breakdown b) h = h
columns_long n (full b avnorm) h = h

all_counting : (p : Setting) (b : Basis) → Products p.m b → counting p b ≡ length (columns_of b)
all_counting p (breakdown b) h = sym h.1
all_counting p (full b avnorm) h = add-one p.m ∙ sym h.1

pub substep_long : (p : Setting) (s : State) → length s.y ≡ len p → FieldLong (len p) (substep p s)
unfolding substep
substep_long p s e =
    let b = arnoldi p s.y s.control.beta in
    let o = trials p s.control.beta s.control.next (1f ⊖ s.control.time) b in
    settle_long p (len p) s b o e (columns_long (len p) b (basis_long p s.y s.control.beta e))
    (subst (λ (n : ℕ). Coefficients n o) (all_counting p b (basis_products p s.y s.control.beta)) (trials_coefficients p s.control.beta s.control.next (1f ⊖ s.control.time) b))
