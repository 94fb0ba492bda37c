-- `greatest` finds the greatest number that passes a test. Assumes nothing.
use mathlib.Core.Path.{◌≡◌, refl, sym, subst}
use Prim.Native.Nat.{ℕ, zero, suc, ◌+◌, ◌*◌, ◌^◌, ◌≤◌, ◌<◌, zero-le}
use native.Mathlib.Nat.{le_refl, lt_of_not-le, pow-succ', zero-add, le_antisymm}
use native.Mathlib.Numerals.{add-one-le}
use native.Mathlib.Omega.{arith, by_contra}
use mathlib.Core.Bool.{Bool, true, false, cond}
use lib.Dec.{T}
use Rattle.lists.specs.Greatest.{greatest}

-- g passes p, and no number above it and below `end` does
pub record Greatest (p : ℕ → Bool) (lo end g : ℕ) : Type 0 where
  pub from : lo ≤ g
  pub under : g < end
  pub passes : T (p g)
  pub last : (n : ℕ) → g < n → n < end → T (p n) → ⊥

up_to : (lo k : ℕ) → lo + 2 ^ suc k ≡ lo + 2 ^ k + 2 ^ k
up_to lo k = go lo (2 ^ k) (2 ^ suc k) (pow-succ' 2 k)
  where
    go : (lo a b : ℕ) → b ≡ 2 * a → lo + b ≡ lo + a + a
    go lo a b e = omega arith

greatest_from : (p : ℕ → Bool) → ((a b : ℕ) → a ≤ b → T (p b) → T (p a)) → (k lo : ℕ) → T (p lo) → Greatest p lo (lo + 2 ^ k) (greatest p k lo)
unfolding greatest
greatest_from p down zero lo t = record { from = le_refl lo; under = omega arith; passes = t; last = λ n a b u. none lo n a b }
  where
    none : (lo n : ℕ) → lo < n → n < lo + 1 → ⊥
    none lo n a b = omega arith
greatest_from p down (suc k) lo t = go (p (lo + 2 ^ k)) refl (λ u. greatest_from p down k (lo + 2 ^ k) u) (greatest_from p down k lo t)
  where
    low : (lo a g : ℕ) → lo + a ≤ g → lo ≤ g
    low lo a g h = omega arith

    wide : (g a b : ℕ) → g < a → g < a + b
    wide g a b h = omega arith

    go : (b : Bool) → p (lo + 2 ^ k) ≡ b → (T (p (lo + 2 ^ k)) → Greatest p (lo + 2 ^ k) (lo + 2 ^ k + 2 ^ k) (greatest p k (lo + 2 ^ k))) → Greatest p lo (lo + 2 ^ k) (greatest p k lo)
        → Greatest p lo (lo + 2 ^ suc k) (greatest p k (cond b (lo + 2 ^ k) lo))
    go true e f r' =
        let r = f (subst T (sym e) tt) in
        subst (λ (z : ℕ). Greatest p lo z (greatest p k (lo + 2 ^ k))) (sym (up_to lo k))
        (record { from = low lo (2 ^ k) (greatest p k (lo + 2 ^ k)) r.from; under = r.under; passes = r.passes; last = r.last })
    go false e f r =
        subst (λ (z : ℕ). Greatest p lo z (greatest p k lo)) (sym (up_to lo k))
        (record {
          from = r.from;
          under = wide (greatest p k lo) (lo + 2 ^ k) (2 ^ k) r.under;
          passes = r.passes;
          last = λ n a b u. r.last n a (lt_of_not-le (λ (g : lo + 2 ^ k ≤ n). subst T e (down (lo + 2 ^ k) n g u))) u;
        })

pub greatest_is : (p : ℕ → Bool) → ((a b : ℕ) → a ≤ b → T (p b) → T (p a)) → (k : ℕ) → T (p 0) → Greatest p 0 (2 ^ k) (greatest p k 0)
greatest_is p down k t = subst (λ (n : ℕ). Greatest p 0 n (greatest p k 0)) (zero-add (2 ^ k)) (greatest_from p down k 0 t)

-- the last number that passes a test which only the numbers from some point on fail
pub greatest_last : (p : ℕ → Bool) → ((a b : ℕ) → a ≤ b → T (p b) → T (p a)) → (k n : ℕ) → n < 2 ^ k → T (p n) → p (n + 1) ≡ false → n ≡ greatest p k 0
greatest_last p down k n h t f =
    let g = greatest p k 0 in
    let r : Greatest p 0 (2 ^ k) g = greatest_is p down k (down 0 n zero-le t) in
    le_antisymm
    (by_contra n g (λ (l : g < n). r.last n l h t))
    (by_contra g n (λ (l : n < g). subst T f (down (n + 1) g (add-one-le l) r.passes)))
