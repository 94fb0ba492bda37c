-- `pow2::pow2_f64` meets its contract. Assumes nothing.
use mathlib.Core.Path.{◌≡◌, ap, ◌∙◌}
use Prim.Native.Nat.{◌<◌}
use native.Mathlib.Omega.{arith}
use lib.Dec.{lit<}
use lib.IntN.{ℤ, pos, ◌-ℤ◌, +ℤ_comm, -ℤ-+ℤ_cancel}
use lib.Signed.{mag, quot_z}
use lib.Ieee.{Float, binary64, mul}
use mir.Syntax.{w32}
use mir.Val.{SFits, to_z, of_z}
use mir.Facts.{to_z-of_z}
use Rattle.pow2.specs.Pow2.{exact_pow2, pow2_f64}
use Rattle.pow2.proofs.Integers.{small, held, halves}
use Rattle.pow2.proofs.Rounded.{pow2_product}
use Rattle.pow2.proofs.pow2_f64.Goals as goal

-- the code's `half` and `k - half`
abbrev half : ℤ → ℤ
half k = to_z w32 (of_z w32 (quot_z (to_z w32 (of_z w32 k)) (pos 2)))

module _ (k : ℤ) (h : mag k < 2042) where
  half-fits : SFits w32 (quot_z (to_z w32 (of_z w32 k)) (pos 2))
  half-fits = rw (held k (omega arith)) (small (quot_z k (pos 2)) (omega (arith, (halves k 1021 h).0)))

  half_is : half k ≡ quot_z k (pos 2)
  half_is = to_z-of_z half-fits ∙ ap (λ (z : ℤ). quot_z z (pos 2)) (held k (omega arith))

  rest-fits : SFits w32 (to_z w32 (of_z w32 k) -ℤ half k)
  rest-fits = rw (half_is, held k (omega arith)) (small (k -ℤ quot_z k (pos 2)) (omega (arith, (halves k 1021 h).1)))

  rest-is : to_z w32 (of_z w32 (to_z w32 (of_z w32 k) -ℤ half k)) ≡ k -ℤ quot_z k (pos 2)
  rest-is = to_z-of_z rest-fits ∙ rw (half_is, held k (omega arith))

  product : (a b : Float) → a ≡ exact_pow2 (half k) → b ≡ exact_pow2 (to_z w32 (of_z w32 (to_z w32 (of_z w32 k) -ℤ half k))) → mul binary64 a b ≡ pow2_f64 k
  product a b p q =
      let i = quot_z k (pos 2) in
      (λ j. mul binary64 ((p ∙ ap exact_pow2 half_is) j) ((q ∙ ap exact_pow2 rest-is) j))
      ∙ pow2_product i (k -ℤ i) ∙ ap pow2_f64 (+ℤ_comm i (k -ℤ i) ∙ -ℤ-+ℤ_cancel k i)

pub nonzero_div-half : goal.nonzero_div-half
nonzero_div-half c = (lit< tt, half-fits c.args.k c.requires)

pub exact_pow2-requires : goal.exact_pow2-requires
exact_pow2-requires c = rw (half_is c.args.k c.requires) (omega (arith, (halves c.args.k 1021 c.requires).0))

pub overflow_sub-k : goal.overflow_sub-k
overflow_sub-k c = rest-fits c.args.k c.requires

pub exact_pow2-requires-2 : goal.exact_pow2-requires-2
exact_pow2-requires-2 c = rw (rest-is c.args.k c.requires) (omega (arith, (halves c.args.k 1021 c.requires).1))

pub returns : goal.returns
returns c = product c.args.k c.requires _ _ c.exact_pow2.ensures c.exact_pow2-2.ensures
