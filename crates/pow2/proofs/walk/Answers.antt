-- `pow2::walk` meets its contract: each step keeps what the exponent is clamped to, and comes nearer to 0. Assumes nothing.
use mathlib.Core.Path.{◌≡◌, sym, ap, ◌∙◌}
use Prim.Native.Nat.{ℕ, ◌<◌}
use native.Mathlib.Omega.{arith}
use lib.Dec.{lit<}
use lib.IntN.{ℤ, pos, negsuc, nat_abs, ◌-ℤ◌}
use lib.Signed.{mag}
use lib.Ieee.{of_bits}
use mir.Syntax.{w32}
use mir.Val.{to_z, of_z}
use Rattle.std.specs.Prelude.{Option, None}
use Rattle.std.specs.Int.{int_signum}
use Rattle.pow2.specs.declared.Scale.{Scale}
use Rattle.pow2.specs.Pow2.{clamp, factors, scale_of}
use Rattle.pow2.proofs.Integers.{held, mag_abs}
use Rattle.pow2.proofs.Toward.{end, found, none_outside, Step, stepped}
use Rattle.pow2.proofs.walk.Goals as goal

-- a turn: z is the exponent, f its factors and r its sign
module _ (z : ℤ) (f : Option Scale) (r : ℤ) (h : nat_abs z < 2041) (q : f ≡ factors z) (n : f ≡ None) (p : r ≡ int_signum z) where
  step : Step z (z -ℤ int_signum z)
  step = stepped z (none_outside z (sym q ∙ n))

  moved : z -ℤ to_z w32 (of_z w32 r) ≡ z -ℤ int_signum z
  moved = rw p (ap (λ (s : ℤ). z -ℤ s) (held (int_signum z) (sign_small z)))
    where
      sign_small : (z : ℤ) → mag (int_signum z) < 2147483648
      sign_small (pos n) = omega arith
      sign_small (negsuc n) = lit< tt

  turn : Step z (to_z w32 (of_z w32 (z -ℤ to_z w32 (of_z w32 r))))
  turn = rw (moved, held (z -ℤ int_signum z) (omega (arith, mag_abs (z -ℤ int_signum z), step.nearer))) step

pub returns-in-Some : goal.returns-in-Some
returns-in-Some c =
    let ends : end (to_z w32 c.loop-e.e-bits) ≡ end c.args.exp = c.loop-e.invariant.1 ∙ ap end (held c.args.exp (omega arith)) in
    found (to_z w32 c.loop-e.e-bits) _ (sym c.factors.ensures ∙ c.in-Some.is) ∙ ap scale_of ends

pub loop-e-preserved : goal.loop-e-preserved
loop-e-preserved c =
    let turned : Step (to_z w32 c.loop-e.e-bits) (to_z w32 (of_z w32 ((to_z w32 c.loop-e.e-bits) -ℤ to_z w32 (of_z w32 c.signum-e.result)))) = turn (to_z w32 c.loop-e.e-bits) _ _ c.loop-e.invariant.0 c.factors.ensures c.in_default.is c.signum-e.ensures.value in
    (omega (arith, turned.nearer, c.loop-e.invariant.0), turned.same ∙ c.loop-e.invariant.1)

pub returns : goal.returns
unfolding of_bits clamp
returns c =
    let ends : end (to_z w32 c.loop-e.e-bits) ≡ end c.args.exp = c.loop-e.invariant.1 ∙ ap end (held c.args.exp (omega arith)) in
    ap (λ (b : ℕ). scale_of (end (to_z w32 b))) (sym c.loop-e-test.false) ∙ ap scale_of ends
