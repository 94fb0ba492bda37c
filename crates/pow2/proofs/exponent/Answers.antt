-- `pow2::exponent` meets its contract. Assumes nothing.
use mathlib.Core.Path.{sym, subst, ◌∙◌}
use lib.Dec.{T, lit<}
use lib.IntN.{negsuc}
use lib.Ieee.{binary64, fits}
use Rattle.pow2.proofs.Integers.{exp_fits, exp_is, next_fits, next_is}
use Rattle.pow2.proofs.Leading.{positive_plain, exponent_normal, lifted_plain, exponent_subnormal}
use Rattle.pow2.proofs.exponent.Goals as goal

pub float_to_bits-mag : goal.float_to_bits-mag
float_to_bits-mag c = (positive_plain c.args.mag c.requires).number

pub float_to_bits-mag-then-normal-eq0 : goal.float_to_bits-mag-then-normal-eq0
float_to_bits-mag-then-normal-eq0 c =
    let is_fit : T (fits binary64 c.args.mag) = subst T (sym c.well_formed.0.1) tt in
    (lifted_plain _ is_fit c.requires (rw c.field-normal.ensures at c.if-normal-eq0.true)).number

pub overflow_sub-result : goal.overflow_sub-result
overflow_sub-result c = exp_fits _ _ c.field.ensures

pub overflow_sub-result-then-normal-eq0 : goal.overflow_sub-result-then-normal-eq0
overflow_sub-result-then-normal-eq0 c = next_fits _ _ c.field.ensures (negsuc 53) (lit< tt)

pub overflow_sub-result-2 : goal.overflow_sub-result-2
overflow_sub-result-2 c = exp_fits _ _ c.field-normal.ensures

pub returns-then-normal-eq0 : goal.returns-then-normal-eq0
returns-then-normal-eq0 c =
    let is_fit : T (fits binary64 c.args.mag) = subst T (sym c.well_formed.0.1) tt in
    next_is _ _ c.field.ensures (negsuc 53) (lit< tt) ∙ exponent_subnormal _ is_fit c.requires (rw c.field-normal.ensures at c.if-normal-eq0.true)

pub returns : goal.returns
returns c =
    let is_fit : T (fits binary64 c.args.mag) = subst T (sym c.well_formed.0.1) tt in
    exp_is _ _ c.field-normal.ensures ∙ exponent_normal _ is_fit (positive_plain c.args.mag c.requires) (rw c.field-normal.ensures at c.if-normal-eq0.false)
