-- The ways out of `root`. Assumes nothing.
use Rattle.std.proofs.Common.{◌≡◌, ℕ, zero, suc, true, false, sym, refl, ◌∙◌, true≢false}
use lib.Ieee.{Float, nan, inf, fin, binary64, lt, eq, of_bits}
use Rattle.lists.specs.Greatest.{greatest}
use Rattle.doubles.specs.F64.{+0, +∞}
use Rattle.doubles.proofs.Compare.{zero_cases, is_above, below_cases, endless_not, number_under}
use Rattle.power.specs.Power.{within, root}

pub when_zero : (t : Float) (q : ℕ) → eq t +0 ≡ true → +0 ≡ root t q
unfolding root
when_zero t q = zero_cases (λ t. +0 ≡ root t q) (λ s e. refl) t

pub when_number : (t : Float) (q : ℕ) → lt +0 t ≡ true → lt t +∞ ≡ true → of_bits binary64 (greatest (within t q) 63 0) ≡ root t q
unfolding root
when_number nan q h k = absurd (is_above nan h)
when_number (inf s) q h k = absurd (true≢false (sym (endless_not s k) ∙ is_above (inf s) h))
when_number (fin s zero e) q h k = absurd (is_above (fin s zero e) h)
when_number (fin true (suc m) e) q h k = absurd (true≢false (is_above (fin true (suc m) e) h))
when_number (fin false (suc m) e) q h k = refl

pub when_endless : (t : Float) (q : ℕ) → lt +0 t ≡ true → lt t +∞ ≡ false → t ≡ root t q
unfolding root
when_endless nan q h k = refl
when_endless (inf true) q h k = absurd (true≢false (is_above (inf true) h))
when_endless (inf false) q h k = refl
when_endless (fin s m e) q h k = absurd (true≢false (sym (number_under s m e) ∙ k))

pub when_not : (t : Float) (q : ℕ) → eq t +0 ≡ false → lt +0 t ≡ false → nan ≡ root t q
unfolding root
when_not t q = below_cases (λ t. nan ≡ root t q) refl refl (λ m e. refl) t
