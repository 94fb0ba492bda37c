-- A result is finite only where its operands are. Assumes nothing.
use mathlib.Core.Bool.{Bool, true, false, cond}
use mathlib.Core.Logic.{inl, inr}
use mathlib.Core.Path.{◌≡◌, refl, sym, subst}
use Prim.Native.Nat.{ℕ, zero, suc, ◌≤◌, ◌<◌}
use native.Mathlib.Nat.{eq-or-lt_of_le}
use native.Mathlib.Omega.{arith}
use lib.Dec.{T, eqb}
use lib.Ieee.{Float, nan, inf, fin, unlike, neg, add, mul}
use Rattle.lists.specs.Loop.{iter}
use Rattle.doubles.specs.F64.{◌⊕◌, ◌⊗◌, abs, is_finite}
use Rattle.doubles.specs.Sum.{sum}

-- what is tested is so
pub holds : {b : Bool} → b ≡ true → T b
holds e = subst T (sym e) tt

pub neg_finite : (x : Float) → T (is_finite (neg x)) → T (is_finite x)
unfolding neg
neg_finite nan h = h
neg_finite (inf s) h = h
neg_finite (fin s m e) h = tt

pub finite_neg : (x : Float) → T (is_finite x) → T (is_finite (neg x))
unfolding neg
finite_neg nan h = h
finite_neg (inf s) h = h
finite_neg (fin s m e) h = tt

pub add_finite : (x y : Float) → T (is_finite (x ⊕ y)) → T (is_finite x) × T (is_finite y)
unfolding add
add_finite nan y h = absurd h
add_finite (inf s) nan h = absurd h
add_finite (inf true) (inf true) h = absurd h
add_finite (inf true) (inf false) h = absurd h
add_finite (inf false) (inf true) h = absurd h
add_finite (inf false) (inf false) h = absurd h
add_finite (inf s) (fin t n d) h = absurd h
add_finite (fin s m e) nan h = absurd h
add_finite (fin s m e) (inf t) h = absurd h
add_finite (fin s m e) (fin t n d) h = (tt, tt)

-- an infinity times a number is a NaN or an infinity
not_finite : (b s : Bool) → T (is_finite (cond b nan (inf s))) → ⊥
not_finite true s h = h
not_finite false s h = h

pub mul_finite : (x y : Float) → T (is_finite (x ⊗ y)) → T (is_finite x) × T (is_finite y)
unfolding mul
mul_finite nan y h = absurd h
mul_finite (inf s) nan h = absurd h
mul_finite (inf s) (inf t) h = absurd h
mul_finite (inf s) (fin t n d) h = absurd (not_finite (eqb n 0) (unlike s t) h)
mul_finite (fin s m e) nan h = absurd h
mul_finite (fin s m e) (inf t) h = absurd (not_finite (eqb m 0) (unlike s t) h)
mul_finite (fin s m e) (fin t n d) h = (tt, tt)

-- of a sum from the left: the sums before it, and its terms
pub sums_finite : (n : ℕ) (f : ℕ → Float) → T (is_finite (sum n f)) → (k : ℕ) → k ≤ n → T (is_finite (sum k f))
unfolding sum iter
sums_finite zero f h k l = let e : 0 ≡ k = omega arith in subst (λ (z : ℕ). T (is_finite (sum z f))) e h
sums_finite (suc n) f h k l = elim (eq-or-lt_of_le l) [
  | inl e ↦ let d : suc n ≡ k = omega arith in subst (λ (z : ℕ). T (is_finite (sum z f))) d h
  | inr g ↦ sums_finite n f (add_finite (sum n f) (f n) h).0 k (omega arith)
]

pub terms_finite : (n : ℕ) (f : ℕ → Float) → T (is_finite (sum n f)) → (k : ℕ) → k < n → T (is_finite (f k))
unfolding sum iter
terms_finite n f h k l = (add_finite (sum k f) (f k) (sums_finite n f h (suc k) l)).1

pub size_finite : (x : Float) → T (is_finite (abs x)) → is_finite x ≡ true
size_finite nan h = absurd h
size_finite (inf s) h = absurd h
size_finite (fin s m e) h = refl
