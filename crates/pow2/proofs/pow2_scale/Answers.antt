-- `pow2::pow2_scale` meets its contract. Assumes nothing.
use mathlib.Core.Path.{◌≡◌, sym, subst, ◌∙◌}
use native.Mathlib.Omega.{arith}
use lib.Dec.{T}
use mir.Syntax.{w32}
use mir.Val.{to_z, of_z}
use Rattle.doubles.specs.F64.{◌⋖◌, +0}
use Rattle.pow2.specs.Pow2.{sup, exponent, pow2_scale}
use Rattle.pow2.proofs.Integers.{held}
use Rattle.pow2.proofs.Leading.{positive_plain, exponent_mag}
use Rattle.pow2.proofs.Largest.{nonneg_sup, above_zero}
use Rattle.pow2.proofs.pow2_scale.Goals as goal

pub returns-then-bmax : goal.returns-then-bmax
unfolding pow2_scale
returns-then-bmax c = rw (rw c.sup-bmax.ensures at c.if-bmax.true)

pub exponent-requires : goal.exponent-requires
exponent-requires c =
    let positive : T (+0 ⋖ c.sup-bmax.result) = rw c.sup-bmax.ensures (above_zero (sup _) (nonneg_sup _) (rw c.sup-bmax.ensures at c.if-bmax.false)) in
    positive

pub walk-requires : goal.walk-requires
walk-requires c =
    let positive : T (+0 ⋖ c.sup-bmax.result) = rw c.sup-bmax.ensures (above_zero (sup _) (nonneg_sup _) (rw c.sup-bmax.ensures at c.if-bmax.false)) in
    let exp_is : to_z w32 (of_z w32 c.exponent.result) ≡ exponent c.sup-bmax.result = held c.exponent.result c.exponent.type_inv ∙ c.exponent.ensures in
    let b = c.sup-bmax.result in
    rw exp_is (omega (arith, exponent_mag b (subst T (sym c.sup-bmax.type_inv) tt) (positive_plain b positive)))

pub returns : goal.returns
unfolding pow2_scale
returns c =
    let exp_is : to_z w32 (of_z w32 c.exponent.result) ≡ exponent c.sup-bmax.result = held c.exponent.result c.exponent.type_inv ∙ c.exponent.ensures in
    let s = c.sup-bmax.ensures in
    rw (c.walk.ensures, exp_is, s, rw s at c.if-bmax.false)
