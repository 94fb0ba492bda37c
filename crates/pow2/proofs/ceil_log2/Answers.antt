-- `pow2::ceil_log2` meets its contract. Assumes nothing.
use borrow.Author.Tests.{eq-eqb, ne_eqb}
use mathlib.Core.Path.{◌≡◌, refl, sym, ◌∙◌}
use mathlib.Core.Bool.{true, true≢false}
use Prim.Native.Nat.{◌%◌}
use lib.Dec.{lit<}
use lib.IntN.{ℤ, pos, negsuc, ◌+ℤ◌}
use lib.Ieee.{Float, nan, inf, fin, is_nan, binary64, to_bits}
use mir.Syntax.{w32}
use mir.Val.{to_z, of_z}
use Rattle.pow2.specs.Pow2.{ceil_log2, field}
use Rattle.pow2.proofs.Integers.{exp_of, exp_fits, exp_is, next_fits, next_is}
use Rattle.pow2.proofs.ceil_log2.Goals as goal

module _ (x : Float) (r : ℤ) (e : r ≡ pos (field (to_bits binary64 x))) where
  zero-way : of_z w32 r ≡ 0 → negsuc 999 ≡ ceil_log2 x
  unfolding ceil_log2
  zero-way h = rw (eq-eqb (field (to_bits binary64 x)) 0 (rw e at h))

  module _ (n : of_z w32 r ≡ 0 → ⊥) where
    exact-way : to_bits binary64 x % 4503599627370496 ≡ 0 → exp_of r ≡ ceil_log2 x
    unfolding ceil_log2
    exact-way h = exp_is (to_bits binary64 x) r e ∙ rw (ne_eqb (field (to_bits binary64 x)) 0 (rw e at n), eq-eqb (to_bits binary64 x % 4503599627370496) 0 h)

    next_way : (to_bits binary64 x % 4503599627370496 ≡ 0 → ⊥) → to_z w32 (of_z w32 (exp_of r +ℤ pos 1)) ≡ ceil_log2 x
    unfolding ceil_log2
    next_way h =
        next_is (to_bits binary64 x) r e (pos 1) (lit< tt)
        ∙ rw (ne_eqb (field (to_bits binary64 x)) 0 (rw e at n), ne_eqb (to_bits binary64 x % 4503599627370496) 0 h)

no_number : (x : Float) → is_nan x ≡ true → pos 1025 ≡ ceil_log2 x
unfolding is_nan ceil_log2 to_bits
no_number nan h = refl
no_number (inf s) h = absurd (true≢false (sym h))
no_number (fin s m e) h = absurd (true≢false (sym h))

pub returns-then-is_nan : goal.returns-then-is_nan
returns-then-is_nan c = no_number c.args.x (sym c.is_nan.ensures.value ∙ c.if-is_nan.true)

pub returns-then-field-eq0 : goal.returns-then-field-eq0
returns-then-field-eq0 c = zero-way c.args.x _ c.field-field.ensures c.if-field-eq0.true

pub overflow_sub-exp : goal.overflow_sub-exp
overflow_sub-exp c = exp_fits _ _ c.field-field.ensures

pub returns-then-bits-eq0 : goal.returns-then-bits-eq0
returns-then-bits-eq0 c = exact-way c.args.x _ c.field-field.ensures c.if-field-eq0.false c.if-bits-eq0.true

pub overflow_add-result : goal.overflow_add-result
overflow_add-result c = next_fits _ _ c.field-field.ensures _ (lit< tt)

pub returns : goal.returns
returns c = next_way c.args.x _ c.field-field.ensures c.if-field-eq0.false c.if-bits-eq0.false
