-- Two numbers, and bounds on products, which `omega` takes as unknowns. Assumes nothing.
use lib.Arith.{digits_lt}
use native.Mathlib.Omega.{arith}
use mathlib.Core.Logic.{◌⊎◌, inl, inr, ⊎_elim}
use mathlib.Core.Path.{◌≡◌, ap, ◌∙◌}
use Prim.Native.Nat.{ℕ, zero, suc, ◌+◌, ◌-◌, ◌*◌, ◌^◌, ◌≤◌, ◌<◌}
use native.Mathlib.Nat.{mul-le-mul, mul-le-mul_right, suc-mul, pow-succ'}
use Rattle.lists.specs.Bounds.{Disjoint, Apart}

-- a product of two numbers with known bounds: at numerals A * B computes
pub product_within : {a b : ℕ} (A B : ℕ) → a ≤ A → b ≤ B → a * b ≤ A * B
product_within A B p q = mul-le-mul p q

-- column i of n elements ends within j columns
pub column_within : (i j n : ℕ) → i < j → i * n + n ≤ j * n
column_within i j n h = rw suc-mul at (mul-le-mul_right n h)

-- of two numbers
pub lt_or_le : (k n : ℕ) → (k < n) ⊎ (n ≤ k)
lt_or_le zero zero = inr (omega arith)
lt_or_le zero (suc n) = inl (omega arith)
lt_or_le (suc k) zero = inr (omega arith)
lt_or_le (suc k) (suc n) = ⊎_elim (λ (g : k < n). inl (omega arith)) (λ (g : n ≤ k). inr (omega arith)) (lt_or_le k n)

-- the number before, and the one after: `omega` knows them, and here they have names for terms that it need not read
pub pred_lt : (n : ℕ) → 0 < n → n - 1 < n
pred_lt n h = omega arith

pub suc_pred : (n : ℕ) → 0 < n → n ≡ suc (n - 1)
suc_pred n h = omega arith

pub pow_pred : (k : ℕ) → 0 < k → 2 ^ k ≡ 2 * 2 ^ (k - 1)
pow_pred k h = ap (λ (n : ℕ). 2 ^ n) (suc_pred k h) ∙ pow-succ' 2 (k - 1)

pub le_of_lt_next : (m n : ℕ) → m < n + 1 → m ≤ n
le_of_lt_next m n h = omega arith

pub lt_of_le_of_ne : (m n : ℕ) → m ≤ n → (m ≡ n → ⊥) → m < n
lt_of_le_of_ne m n h e = omega arith

-- row i, column j of r rows of s
pub cell_within : (i r s j : ℕ) → i < r → j < s → i * s + j < r * s
cell_within i r s j h l = digits_lt h l

pub disjoint_cases : (p n q m : ℕ) → Disjoint p n q m → (p + n ≤ q) ⊎ (q + m ≤ p)
disjoint_cases p n q m h = ⊎_elim (λ (g : q < p + n). inr (h g)) (λ (g : p + n ≤ q). inl g) (lt_or_le q (p + n))

-- a part of the first of two, seen from the second
pub part_apart : (p n q m r k : ℕ) → Disjoint p n q m → p ≤ r → r + k ≤ p + n → Disjoint q m r k
part_apart p n q m r k h a b =
    ⊎_elim (λ (g : p + n ≤ q) (l : r < q + m). omega arith) (λ (g : q + m ≤ p) (l : r < q + m). omega arith) (disjoint_cases p n q m h)

-- the same parts of two windows that are apart
pub within_apart : (p q n i m : ℕ) → Apart p q n → i + m ≤ n → Apart (p + i) (q + i) m
within_apart p q n i m h l =
    ⊎_elim (λ (g : p + n ≤ q) (t : q + i < p + i + m). omega arith) (λ (g : q + n ≤ p) (t : q + i < p + i + m). omega arith) (disjoint_cases p n q n h)
