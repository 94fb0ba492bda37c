-- The search of `root_bits`: what lies between the two ends of the bracket. Assumes nothing.
use Rattle.std.proofs.Common.{◌≡◌, ℕ, ◌+◌, ◌<◌, ◌≤◌, Bool, true, false, ◌&&◌, T, sym, ap, subst, le_refl, lt_of_lt_of_le, arith, lit<, lit≤, le-ltb}
use lib.Ieee.Bits.{is_true}
use lib.Ieee.{Float, binary64, of_bits, le}
use Rattle.lists.specs.Greatest.{greatest}
use Rattle.lists.proofs.Greatest.{greatest_last}
use Rattle.doubles.specs.F64.{nonneg}
use Rattle.power.specs.Power.{power, within}
use Rattle.power.proofs.Roots.{down_closed, zero_passes}

pub test_past : (t : Float) (q b : ℕ) → 9218868437227405312 ≤ b → within t q b ≡ false
test_past t q b h = ap (λ (x : Bool). x && le (power (of_bits binary64 b) q) t) (le-ltb b 9218868437227405312 h)

-- lo is within and hi is not; the next trial is between, where there is a pattern between
pub record Bracket (t : Float) (q lo hi trial : ℕ) : Type 0 where
  pub within_low : within t q lo ≡ true
  pub past_high : within t q hi ≡ false
  pub order : lo < hi
  pub top : hi ≤ 9218868437227405312
  pub between : lo + 1 < hi → (lo < trial) × (trial < hi)

pub bracket_begin : (t : Float) (q b : ℕ) → T (nonneg t) → 0 < b → b < 9218868437227405312 → Bracket t q 0 9218868437227405312 b
bracket_begin t q b tp l h = record { within_low = is_true (within t q 0) (zero_passes t q tp); past_high = test_past t q 9218868437227405312 (le_refl 9218868437227405312); order = lit< tt; top = le_refl 9218868437227405312; between = λ _. (l, h) }

-- with nothing between, lo is the answer
pub bracket_end : (t : Float) (q lo hi trial : ℕ) → T (nonneg t) → Bracket t q lo hi trial → hi ≤ lo + 1 → (lo ≡ greatest (within t q) 63 0) × (lo < 9218868437227405312)
bracket_end t q lo hi trial tp s h =
    let l : lo < 9218868437227405312 = lt_of_lt_of_le s.order s.top in (
      greatest_last (within t q) (down_closed t q tp) 63 lo (lt_of_lt_of_le l (lit≤ tt)) (subst T (sym s.within_low) tt)
          (subst (λ (n : ℕ). within t q n ≡ false) (next lo hi s.order h) s.past_high),
      l,
    )
  where
    next : (lo hi : ℕ) → lo < hi → hi ≤ lo + 1 → hi ≡ lo + 1
    next lo hi a b = omega arith
