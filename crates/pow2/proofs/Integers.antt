-- Signed integers of 32 bits, as a proof about exponents needs them: `mag z < n` says that z lies from -n up and below n. Assumes nothing.
use mathlib.Core.Path.{◌≡◌, refl, ap, ◌∙◌}
use mathlib.Core.Bool.{Bool, true, false, cond}
use Prim.Native.Nat.{ℕ, zero, suc, ◌+◌, ◌-◌, ◌*◌, ◌/◌, ◌≤◌, ◌<◌}
use native.Mathlib.Omega.{arith}
use lib.Dec.{ltb}
use lib.IntN.{ℤ, pos, negsuc, neg_ℤ, nat_abs, sub_ℕ, ◌+ℤ◌, ◌-ℤ◌, +ℤ_idl, neg_ℤ-neg_ℤ}
use lib.Signed.{mag, lt_z, quot_z}
use mir.Syntax.{w32}
use mir.Val.{SFits, to_z, of_z}
use mir.Facts.{to_z-of_z}
use borrow.Author.Tests.{ltb-false, lt-ltb, le-ltb}
use Rattle.std.specs.Int.{int_max, int_min}
use Rattle.pow2.specs.Pow2.{clamp, field}

pub small : (z : ℤ) → mag z < 2147483648 → SFits w32 z
small z h = record { sfits = h }

-- what the bits of z are read as
pub held : (z : ℤ) → mag z < 2147483648 → to_z w32 (of_z w32 z) ≡ z
held z h = to_z-of_z (small z h)

-- ---- a sum lies no further out than its terms together
pub mag_sub : (a b n : ℕ) → a ≤ b + n → b ≤ n + 1 → mag (sub_ℕ a b) ≤ n
mag_sub a b n h k = go (ltb a b)
  where
    go : (t : Bool) → mag (cond t (negsuc (b - suc a)) (pos (a - b))) ≤ n
    go true = omega arith
    go false = omega arith

pub mag_sum : (a b : ℤ) → mag (a +ℤ b) ≤ mag a + mag b + 1
mag_sum (pos a) (pos b) = omega arith
mag_sum (pos a) (negsuc b) = mag_sub a (suc b) (a + b + 1) (omega arith) (omega arith)
mag_sum (negsuc a) (pos b) = mag_sub b (suc a) (a + b + 1) (omega arith) (omega arith)
mag_sum (negsuc a) (negsuc b) = omega arith

-- the code's `a + b` and `a - b`
pub sum_fits : (a b : ℤ) → mag a + mag b < 2147483647 → SFits w32 (to_z w32 (of_z w32 a) +ℤ b)
sum_fits a b h = rw (held a (omega arith)) (small (a +ℤ b) (omega (arith, mag_sum a b)))

pub sum_is : (a b : ℤ) → mag a + mag b < 2147483647 → to_z w32 (of_z w32 (to_z w32 (of_z w32 a) +ℤ b)) ≡ a +ℤ b
sum_is a b h = to_z-of_z (sum_fits a b h) ∙ ap (λ (z : ℤ). z +ℤ b) (held a (omega arith))

pub mag_neg : (z : ℤ) → mag (neg_ℤ z) ≤ mag z + 1
mag_neg (pos zero) = omega arith
mag_neg (pos (suc n)) = omega arith
mag_neg (negsuc n) = omega arith

pub mag_abs : (z : ℤ) → (mag z ≤ nat_abs z) × (nat_abs z ≤ mag z + 1)
mag_abs (pos n) = (omega arith, omega arith)
mag_abs (negsuc n) = (omega arith, omega arith)

-- the code's `-e`
pub negated_fits : (z : ℤ) → mag z < 2147483647 → SFits w32 (pos 0 -ℤ to_z w32 (of_z w32 z))
negated_fits z h = rw (held z (omega arith), +ℤ_idl (neg_ℤ z)) (small (neg_ℤ z) (omega (arith, mag_neg z)))

pub negated : (z : ℤ) → mag z < 2147483647 → to_z w32 (of_z w32 (pos 0 -ℤ to_z w32 (of_z w32 z))) ≡ neg_ℤ z
negated z h =
    to_z-of_z (negated_fits z h) ∙ ap (λ (y : ℤ). pos 0 -ℤ y) (held z (omega arith)) ∙ +ℤ_idl (neg_ℤ z)

-- ---- a half toward 0, and what is left
pos_minus : (a b : ℕ) → b ≤ a → pos a -ℤ pos b ≡ pos (a - b)
pos_minus a zero h = ap pos (omega arith)
pos_minus a (suc b) h = rw (le-ltb a (suc b) h)

neg_minus : (a b : ℕ) → b ≤ a → negsuc a -ℤ neg_ℤ (pos b) ≡ negsuc (a - b)
neg_minus a b h = rw (neg_ℤ-neg_ℤ (pos b), lt-ltb b (suc a) (omega arith)) (ap negsuc (omega arith))

pub halves : (k : ℤ) (n : ℕ) → mag k < 2 * n → (mag (quot_z k (pos 2)) ≤ n) × (mag (k -ℤ quot_z k (pos 2)) ≤ n)
halves (pos a) n h = (omega arith, rw (pos_minus a (a / 2) (omega arith)) (omega arith))
halves (negsuc a) n h = (omega (arith, mag_neg_pos (suc a / 2)), rw (neg_minus a (suc a / 2) (omega arith)) (omega arith))
  where
    mag_neg_pos : (m : ℕ) → mag (neg_ℤ (pos m)) ≤ m
    mag_neg_pos zero = omega arith
    mag_neg_pos (suc m) = omega arith

-- ---- a comparison, and what is clamped
pub less : {a b : ℤ} {t : Bool} → SFits w32 a → SFits w32 b → lt_z (to_z w32 (of_z w32 a)) (to_z w32 (of_z w32 b)) ≡ t → lt_z a b ≡ t
less f g e = rw (to_z-of_z f, to_z-of_z g) at e

-- `i32::clamp` at bounds of which one is below 0 and one above
pub clamp_is : (c : ℕ) (e : ℤ) → int_max (negsuc c) (int_min e (pos (suc c))) ≡ clamp e (negsuc c) (pos (suc c))
unfolding clamp
clamp_is c (pos n) = go (ltb (suc c) n)
  where
    go : (t : Bool) → int_max (negsuc c) (cond t (pos (suc c)) (pos n)) ≡ cond t (pos (suc c)) (pos n)
    go true = refl
    go false = refl
clamp_is c (negsuc n) = refl

pub clamp_mag : (c : ℕ) (e : ℤ) → mag (clamp e (negsuc c) (pos (suc c))) ≤ suc c
unfolding clamp
clamp_mag c (pos n) = go (ltb (suc c) n) refl
  where
    go : (t : Bool) → ltb (suc c) n ≡ t → mag (cond t (pos (suc c)) (pos n)) ≤ suc c
    go true e = omega arith
    go false e = ltb-false (suc c) n e
clamp_mag c (negsuc n) = go (ltb c n) refl
  where
    go : (t : Bool) → ltb c n ≡ t → mag (cond t (negsuc c) (negsuc n)) ≤ suc c
    go true e = omega arith
    go false e = omega (arith, ltb-false c n e)

-- ---- the code's `field - 1023`, and that plus k
abbrev pub exp_of : ℤ → ℤ
exp_of r = to_z w32 (of_z w32 (to_z w32 (of_z w32 r) -ℤ pos 1023))

module _ (b : ℕ) (r : ℤ) (e : r ≡ pos (field b)) where
  pub exp_fits : SFits w32 (to_z w32 (of_z w32 r) -ℤ pos 1023)
  exp_fits = rw e (sum_fits (pos (field b)) (negsuc 1022) (omega arith))

  pub exp_is : exp_of r ≡ pos (field b) -ℤ pos 1023
  exp_is = ap exp_of e ∙ sum_is (pos (field b)) (negsuc 1022) (omega arith)

  pub next_fits : (k : ℤ) → mag k < 1000 → SFits w32 (exp_of r +ℤ k)
  next_fits k h = rw exp_is (small _ (omega (arith, mag_sum (pos (field b) -ℤ pos 1023) k, mag_sum (pos (field b)) (negsuc 1022))))

  pub next_is : (k : ℤ) → mag k < 1000 → to_z w32 (of_z w32 (exp_of r +ℤ k)) ≡ pos (field b) -ℤ pos 1023 +ℤ k
  next_is k h = to_z-of_z (next_fits k h) ∙ ap (λ (z : ℤ). z +ℤ k) exp_is
