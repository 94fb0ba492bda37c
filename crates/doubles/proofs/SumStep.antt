-- One more term of a sum: how the errors add up, in natural numbers. A signed number is a difference of two. Assumes nothing.
use mathlib.Core.Path.{◌≡◌, ap, ◌∙◌}
use mathlib.Core.Logic.{◌⊎◌, inl, inr}
use Prim.Native.Nat.{ℕ, suc, ◌+◌, ◌*◌, ◌≤◌, ◌<◌}
use native.Mathlib.Nat.{mul-le-mul_right, mul_assoc, le_of_mul-le-mul_right, add-mul}
use native.Mathlib.Omega.{arith}
use mathlib.Core.Bool.{Bool, true, false}
use Rattle.doubles.proofs.Total.{over, under}
use Rattle.doubles.proofs.RelativeError.{Close}

-- p - q is n - m, but for B / K at most
abbrev pub Apart : ℕ → ℕ → ℕ → ℕ → ℕ → ℕ → Type 0
Apart K p q n m B = (K * (p + m) ≤ K * (q + n) + B) × (K * (q + n) ≤ K * (p + m) + B)

-- ---- `Close` with a sign, and with a common factor
pub close_signed : (s : Bool) (p n : ℕ) → Close p n → Apart 9007199254740992 (over s p) (under s p) (over s n) (under s n) n
close_signed false p n c =
    let a = c.0 in
    let b = c.1 in
    (omega arith, omega arith)
close_signed true p n c =
    let a = c.0 in
    let b = c.1 in
    (omega arith, omega arith)

times_out : (K n x : ℕ) → (K * n + n) * x ≡ K * (n * x) + n * x
times_out K n x = add-mul (K * n) n x ∙ ap (λ (z : ℕ). z + n * x) (mul_assoc K n x)

pub close_times : (p n x : ℕ) → Close p n → Close (p * x) (n * x)
close_times p n x c =
    let a = mul-le-mul_right x c.0 in
    let b = mul-le-mul_right x c.1 in
    (omega arith, omega arith)

pub close_cancel : (p n x : ℕ) → 0 < x → Close (p * x) (n * x) → Close p n
close_cancel p n x X c =
    let a = c.0 in
    let b = c.1 in
    (le_of_mul-le-mul_right (omega arith) X, le_of_mul-le-mul_right (omega arith) X)

-- ---- one more term
-- S is the sum so far, P the rounded term, M = S + P exactly and T what that rounds to; E and e are the exact sum and term, of sizes A and a at most
module _
    (SP SN PP PN MP MN TP TN EP EN ep en B : ℕ)
    (exact : MP + (SN + PN) ≡ MN + (SP + PP))
    (one : (MP ≡ 0) ⊎ (MN ≡ 0))
    (hT : Apart 9007199254740992 TP TN MP MN (MP + MN))
    (hP : Apart 9007199254740992 PP PN ep en (ep + en))
    (hS : Apart 4503599627370496 SP SN EP EN B)
    (small : B ≤ 4503599627370496 * (EP + EN)) where
  before_near : (SP + EN ≤ SN + EP + (EP + EN)) × (SN + EP ≤ SP + EN + (EP + EN))
  before_near =
      let a = hS.0 in
      let b = hS.1 in
      (omega arith, omega arith)

  term_near : (PP + en ≤ PN + ep + (ep + en)) × (PN + ep ≤ PP + en + (ep + en))
  term_near =
      let a = hP.0 in
      let b = hP.1 in
      (omega arith, omega arith)

  -- |S + P| is at most 2 (A + a)
  total_near : MP + MN ≤ 2 * (EP + EN) + 2 * (ep + en)
  total_near =
      let a = before_near.0 in
      let b = before_near.1 in
      let c = term_near.0 in
      let d = term_near.1 in
      elim one [ inl z ↦ omega arith | inr z ↦ omega arith ]

  result_near : Apart 4503599627370496 TP TN MP MN ((EP + EN) + (ep + en))
  result_near =
      let a = hT.0 in
      let b = hT.1 in
      let c = total_near in
      (omega arith, omega arith)

  rounded_near : Apart 4503599627370496 PP PN ep en (ep + en)
  rounded_near =
      let a = hP.0 in
      let b = hP.1 in
      (omega arith, omega arith)

  pub added : Apart 4503599627370496 TP TN (EP + ep) (EN + en) (B + (EP + EN) + 2 * (ep + en))
  added =
      let a = result_near.0 in
      let b = result_near.1 in
      let c = rounded_near.0 in
      let d = rounded_near.1 in
      let e = hS.0 in
      let f = hS.1 in
      (omega arith, omega arith)

-- the bound of k + 1 terms, from that of k, for k from 1
pub bound_more : (k A a : ℕ) → 0 < k → k * A + A + 2 * a ≤ suc k * (A + a)
bound_more k A a h = let b = mul-le-mul_right a h in omega arith

pub widened : (K p q n m B B' : ℕ) → B ≤ B' → Apart K p q n m B → Apart K p q n m B'
widened K p q n m B B' h e =
    let a = e.0 in
    let b = e.1 in
    (omega arith, omega arith)
