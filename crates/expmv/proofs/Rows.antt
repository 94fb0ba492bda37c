-- The 22 rows: the code's table; a degree is from 1 to 30, and the s of an admissible row is a `u32` that is not 0. Assumes nothing.
use mathlib.Core.Path.{◌≡◌, refl, sym}
use mathlib.Core.Bool.{Bool, true, false, ◌&&◌, true≢false, cond}
use mathlib.Core.List.{List, [], ◌∷◌}
use Prim.Native.Nat.{ℕ, zero, suc, ◌≤◌, ◌<◌}
use native.Mathlib.Nat.{le_refl, not-suc-le-zero, le_of_suc-le-suc}
use lib.Dec.{T, leb, leb→le, lit≤}
use lib.Ieee.{Float, nan, round, of_bits}
use lib.Ieee.Fits.{and_l, and_r}
use lib.ListN.{get_or, length, get_or-map}
use borrow.Author.Tests.{leb-true}
use Rattle.doubles.specs.F64.{◌⊘◌, ◌⋖◌, ◌⩽◌, nat, 1f}
use Rattle.expmv.specs.declared.TheConstants.{TABLE}
use Rattle.expmv.specs.Select.{degrees, decimal, thetas, degree, quotient, admissible, sweeps}
use Rattle.expmv.proofs.Counted.{counted}

-- the code's table is `degrees` and `thetas`: antt computes each entry, and compares them
pub table_degree : (i : ℕ) → (get_or TABLE i (0, nan)).0 ≡ degree i
unfolding degrees degree
table_degree i = sym (get_or-map (λ (p : ℕ × Float). p.0) TABLE i (0, nan))

pub table_theta : (i : ℕ) → (get_or TABLE i (0, nan)).1 ≡ get_or thetas i nan
unfolding thetas decimal round of_bits
table_theta i = sym (get_or-map (λ (p : ℕ × Float). p.1) TABLE i (0, nan))

-- every number of a list is from a to b
abbrev within : ℕ → ℕ → List ℕ → Bool
within a b [] = true
within a b (x ∷ xs) = leb a x && (leb x b && within a b xs)

within_at : (a b : ℕ) (xs : List ℕ) → T (within a b xs) → (i : ℕ) → i < length xs → (a ≤ get_or xs i 0) × (get_or xs i 0 ≤ b)
within_at a b [] t i h = absurd (not-suc-le-zero h)
within_at a b (x ∷ xs) t zero h = (leb→le a x (and_l (leb a x) _ t), leb→le x b (and_l (leb x b) (within a b xs) (and_r (leb a x) _ t)))
within_at a b (x ∷ xs) t (suc i) h = within_at a b xs (and_r (leb x b) (within a b xs) (and_r (leb a x) _ t)) i (le_of_suc-le-suc h)

pub degree_bounds : (i : ℕ) → i < 22 → (1 ≤ degree i) × (degree i ≤ 30)
unfolding degree degrees
degree_bounds i h = within_at 1 30 degrees tt i h

-- what the two tests of an admissible row say
split : (a b : Bool) → a && b ≡ true → (a ≡ true) × (b ≡ true)
split true true e = (refl, refl)
split true false e = absurd (true≢false (sym e))
split false b e = absurd (true≢false (sym e))

pub degree_most : (m_max : ℕ) (arg : Float) (i : ℕ) → admissible m_max arg i ≡ true → degree i ≤ m_max
unfolding admissible
degree_most m_max arg i a = leb-true (degree i) m_max (split (leb (degree i) m_max) (quotient arg i ⩽ nat 4294967295) a).0

chosen : (t : Bool) (k : ℕ) → (t ≡ false → (1 ≤ k) × (k ≤ 4294967295)) → (1 ≤ cond t 1 k) × (cond t 1 k ≤ 4294967295)
chosen true k h = (le_refl 1, lit≤ tt)
chosen false k h = h refl

pub sweeps_bounds : (m_max : ℕ) (arg : Float) (i : ℕ) → admissible m_max arg i ≡ true → (1 ≤ sweeps arg i) × (sweeps arg i ≤ 4294967295)
unfolding admissible sweeps quotient
sweeps_bounds m_max arg i a =
    let most = (split (leb (degree i) m_max) (quotient arg i ⩽ nat 4294967295) a).1 in
    chosen (quotient arg i ⋖ 1f) _ (λ e. let k = counted (arg ⊘ get_or thetas i nan) most e in (k.some, k.most))
