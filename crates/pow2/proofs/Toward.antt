-- An exponent that has no factors is 1024 or more from 0, and a step toward 0 keeps what it is clamped to. Assumes nothing.
use mathlib.Core.Path.{◌≡◌, refl, ap}
use mathlib.Core.Logic.{inl, inr}
use mathlib.Core.Bool.{Bool, true, false, cond}
use Prim.Native.Nat.{ℕ, zero, suc, ◌≤◌, ◌<◌}
use native.Mathlib.Omega.{arith}
use lib.Dec.{ltb}
use lib.IntN.{ℤ, pos, negsuc, nat_abs, ◌-ℤ◌, +ℤ_one, -ℤ_one}
use borrow.Author.Tests.{ltb-false, lt-ltb, le-ltb}
use Rattle.std.specs.Prelude.{min, Some, None}
use Rattle.std.specs.Int.{int_signum}
use Rattle.lists.proofs.Bounds.{lt_or_le}
use Rattle.pow2.specs.declared.Scale.{Scale}
use Rattle.pow2.specs.Pow2.{clamp, factors, scale_of}
use Rattle.pow2.proofs.Rounded.{factors_inside, factors_outside}

-- what the walk ends at
abbrev pub end : ℤ → ℤ
end e = clamp e (negsuc 1022) (pos 1023)

end_inside : (e : ℤ) → nat_abs e < 1024 → end e ≡ e
unfolding clamp
end_inside (pos n) h = rw (le-ltb 1023 n (omega arith))
end_inside (negsuc n) h = rw (le-ltb 1022 n (omega arith))

-- the factors of an exponent that has them are those of the walk's end
pub found : (e : ℤ) (s : Scale) → factors e ≡ Some s → s ≡ scale_of (end e)
found e s p = elim (lt_or_le (nat_abs e) 1024) [
  | inl l ↦ let q = factors_inside e l in rw (end_inside e l) (cc)
  | inr g ↦ let q = factors_outside e g in cc
]

pub none_outside : (e : ℤ) → factors e ≡ None → 1024 ≤ nat_abs e
none_outside e p = elim (lt_or_le (nat_abs e) 1024) [
  | inl l ↦ let q = factors_inside e l in let z : ◌≡◌ {A = ℕ} 0 1 = cc in omega arith
  | inr g ↦ g
]

-- a step toward 0
pub record Step (e d : ℤ) : Type 0 where
  pub same : end d ≡ end e
  pub nearer : suc (nat_abs d) ≡ nat_abs e

above_step : (n : ℕ) → 1023 ≤ n → end (pos n) ≡ end (pos (suc n))
unfolding clamp
above_step n h = rw (lt-ltb 1023 (suc n) (omega arith)) (go (ltb 1023 n) refl)
  where
    go : (t : Bool) → ltb 1023 n ≡ t → cond t (pos 1023) (pos n) ≡ pos 1023
    go true e = refl
    go false e = let l = ltb-false 1023 n e in ap pos (omega arith)

below_step : (n : ℕ) → 1022 ≤ n → end (negsuc n) ≡ end (negsuc (suc n))
unfolding clamp
below_step n h = rw (lt-ltb 1022 (suc n) (omega arith)) (go (ltb 1022 n) refl)
  where
    go : (t : Bool) → ltb 1022 n ≡ t → cond t (negsuc 1022) (negsuc n) ≡ negsuc 1022
    go true e = refl
    go false e = let l = ltb-false 1022 n e in ap negsuc (omega arith)

min_one : (n : ℕ) → min (suc n) 1 ≡ 1
min_one n = omega arith

pub stepped : (e : ℤ) → 1024 ≤ nat_abs e → Step e (e -ℤ int_signum e)
stepped (pos zero) h = absurd (omega arith)
stepped (pos (suc n)) h = rw (min_one n, -ℤ_one (pos (suc n))) (record { same = above_step n (omega arith); nearer = refl })
stepped (negsuc zero) h = absurd (omega arith)
stepped (negsuc (suc n)) h = rw (+ℤ_one (negsuc (suc n))) (record { same = below_step n (omega arith); nearer = refl })
