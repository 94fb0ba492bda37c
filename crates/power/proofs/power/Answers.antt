-- `power::power` meets its contract. Assumes nothing.
use Rattle.std.proofs.Common.{◌≡◌, ℕ, suc, ◌+◌, ◌-◌, ◌≤◌, sym, refl, ap, ◌∙◌, arith}
use lib.Ieee.{Float, binary64, mul}
use Rattle.power.specs.Power.{times}
use Rattle.power.proofs.power.Goals as goal

more : (y : Float) (i : ℕ) → 1 ≤ i → mul binary64 (times y (i - 1)) y ≡ times y (i + 1 - 1)
unfolding times
more y i h = sym (ap (times y) (next i h))
  where
    next : (i : ℕ) → 1 ≤ i → i + 1 - 1 ≡ suc (i - 1)
    next i h = omega arith

pub loop-init : goal.loop-init
unfolding times
loop-init c = (omega arith, refl)

pub loop-preserved : goal.loop-preserved
loop-preserved c = (omega arith, ap (λ (x : Float). mul binary64 x c.args.y) c.loop.invariant.1 ∙ more c.args.y c.loop.counter (omega arith))

pub returns : goal.returns
returns c =
    let last : c.loop.counter - 1 ≡ c.args.q - 1 = omega (arith, c.loop.invariant.0) in
    c.loop.invariant.1 ∙ ap (times c.args.y) last
