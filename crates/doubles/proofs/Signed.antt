-- Whole numbers with a sign: their products, and the differences of two natural numbers that they are, where linear arithmetic reaches them. Assumes nothing.
use mathlib.Core.Path.{◌≡◌, refl, sym, ap, ◌∙◌}
use Prim.Native.Nat.{ℕ, zero, suc, ◌+◌, ◌-◌, ◌*◌, ◌≤◌, ◌<◌}
use native.Mathlib.Nat.{mul-zero, zero-mul}
use native.Mathlib.Omega.{arith}
use mathlib.Core.Bool.{Bool, true, false, not, cond}
use lib.IntN.{ℤ, pos, negsuc, neg_ℤ, nat_abs, sub_ℕ, ◌+ℤ◌, ◌*ℤ◌}
use lib.Dec.{T, ltb, ltb→lt, nltb→le}
use lib.Ieee.{unlike}
use Rattle.doubles.specs.Units.{signed}
use Rattle.doubles.proofs.Total.{over, under}

-- its size
pub size_signed : (s : Bool) (a : ℕ) → nat_abs (signed s a) ≡ a
size_signed false a = refl
size_signed true zero = refl
size_signed true (suc a) = refl

zero_signed : (x : ℕ) → x ≡ 0 → pos x ≡ neg_ℤ (pos x)
zero_signed x e = ap pos e ∙ sym (ap (λ (y : ℕ). neg_ℤ (pos y)) e)

-- a product has the sign that is set where one of the two is
pub times_signed : (s t : Bool) (a b : ℕ) → signed s a *ℤ signed t b ≡ signed (unlike s t) (a * b)
times_signed false false a b = refl
times_signed true false zero b = zero_signed (0 * b) (zero-mul b)
times_signed true false (suc a) b = refl
times_signed false true a zero = zero_signed (a * 0) (mul-zero a)
times_signed false true a (suc b) = refl
times_signed true true zero zero = refl
times_signed true true zero (suc b) = sym (zero_signed (0 * suc b) (zero-mul (suc b)))
times_signed true true (suc a) zero = sym (zero_signed (suc a * 0) (mul-zero (suc a)))
times_signed true true (suc a) (suc b) = refl

-- ---- as differences
-- z is p - m
abbrev pub Diff : ℤ → ℕ → ℕ → Type 0
Diff (pos n) p m = n + m ≡ p
Diff (negsuc n) p m = suc n + p ≡ m

pub sub_diff : (a b : ℕ) → Diff (sub_ℕ a b) a b
sub_diff a b = go (ltb a b) (ltb→lt a b) (nltb→le a b)
  where
    go : (t : Bool) → (T t → a < b) → (T (not t) → b ≤ a) → Diff (cond t (negsuc (b - suc a)) (pos (a - b))) a b
    go true h k = let l = h tt in omega arith
    go false h k = let l = k tt in omega arith

pub moved : (z : ℤ) (a b p m : ℕ) → Diff z a b → a + m ≡ p + b → Diff z p m
moved (pos n) a b p m d e = omega arith
moved (negsuc n) a b p m d e = omega arith

pub diff_add : (z w : ℤ) (p m q l : ℕ) → Diff z p m → Diff w q l → Diff (z +ℤ w) (p + q) (m + l)
diff_add (pos a) (pos b) p m q l d e = omega arith
diff_add (pos a) (negsuc b) p m q l d e = moved (sub_ℕ a (suc b)) a (suc b) (p + q) (m + l) (sub_diff a (suc b)) (omega arith)
diff_add (negsuc a) (pos b) p m q l d e = moved (sub_ℕ b (suc a)) b (suc a) (p + q) (m + l) (sub_diff b (suc a)) (omega arith)
diff_add (negsuc a) (negsuc b) p m q l d e = omega arith

pub diff_signed : (s : Bool) (a : ℕ) → Diff (signed s a) (over s a) (under s a)
diff_signed false a = omega arith
diff_signed true zero = refl
diff_signed true (suc a) = omega arith

-- its size is at most B / K where the two are no further apart
pub diff_size : (z : ℤ) (K B p m : ℕ) → Diff z p m → K * p ≤ K * m + B → K * m ≤ K * p + B → K * nat_abs z ≤ B
diff_size (pos n) K B p m d h k = let e = ap (λ (x : ℕ). K * x) d in omega arith
diff_size (negsuc n) K B p m d h k = let e = ap (λ (x : ℕ). K * x) d in omega arith
