-- A number in range passes the test of 14, and the norm of a generator whose checks passed is one: 23 would never refuse (document 02, N14). Assumes nothing.
use mathlib.Core.Path.{◌≡◌, refl, sym, subst}
use mathlib.Core.Bool.{Bool, true, false}
use lib.Dec.{T}
use lib.Ieee.{Float}
use Rattle.doubles.specs.F64.{◌⋖◌, +0, is_finite, nonneg}
use Rattle.doubles.proofs.Order.{nonneg_zero}
use Rattle.doubles.proofs.Total.{⋖_not}
use Rattle.checks.specs.First.{first}
use Rattle.general_operator.specs.Csr.{Csr, row_sum_norm}
use Rattle.generator_action.specs.Mass.{Mass, quotients, generator_checks}
use Rattle.generator_action.proofs.Norm.{norm_in_range}
use Rattle.combination.specs.Checks.{out_of_range}
use Rattle.checks.specs.Reasons.{Sound}

not_below : (x : Float) (b : Bool) → (x ⋖ +0) ≡ b → T (nonneg x) → b ≡ false
not_below x true e p = absurd (⋖_not x +0 (subst T (sym e) tt) (nonneg_zero x p))
not_below x false e p = refl

pub in_range : (x : Float) → is_finite x ≡ true → T (nonneg x) → out_of_range x ≡ false
unfolding out_of_range
in_range x f p = rw (f, not_below x _ refl p) refl

pub no_23 : (a : Csr) (mass : Mass) → Sound ≡ first (generator_checks a mass) → out_of_range (row_sum_norm (quotients a mass)) ≡ false
no_23 a mass e = let h = norm_in_range a mass e in in_range _ h.0 h.1
