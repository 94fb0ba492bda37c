-- `hess_rows::left_product` meets its contract. Assumes nothing.
use native.Mathlib.Omega.{arith}
use borrow.Author.Tests.{eq-eqb, ne_eqb}
use Rattle.hess_rows.specs.Parts.{left_product}
use Rattle.hess_rows.proofs.left_product.Goals as goal

pub returns-then-r-eq0 : goal.returns-then-r-eq0
unfolding left_product
returns-then-r-eq0 c = rw (eq-eqb _ _ c.if-r-eq0.true)

pub overflow_mul-result : goal.overflow_mul-result
overflow_mul-result c = omega (arith, c.requires (omega arith))

pub overflow_add-result : goal.overflow_add-result
overflow_add-result c = omega (arith, c.requires (omega arith))

pub offset_bounds-h-r : goal.offset_bounds-h-r
offset_bounds-h-r c = omega (arith, c.requires (omega arith))

pub bounds-h-r : goal.bounds-h-r
bounds-h-r c = omega (arith, c.requires (omega arith))

pub returns : goal.returns
unfolding left_product
returns c = rw (ne_eqb _ _ c.if-r-eq0.false)
