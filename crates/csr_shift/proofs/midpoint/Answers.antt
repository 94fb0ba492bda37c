-- `csr_shift::midpoint` meets its contract. Assumes nothing.
use native.Mathlib.Omega.{arith}
use mathlib.Core.Path.{◌≡◌, sym, ◌∙◌}
use lib.Ieee.{div, neg, of_bits}
use Rattle.lists.proofs.Loop.{iter_none, iter_turn}
use Rattle.csr_shift.specs.Shift.{high, low, midpoint}
use Rattle.csr_shift.proofs.midpoint.Goals as goal

pub loop-i-init : goal.loop-i-init
unfolding high low of_bits div neg
loop-i-init c = (omega arith, sym (iter_none _ _), sym (iter_none _ _))

pub loop-i-preserved : goal.loop-i-preserved
unfolding high low
loop-i-preserved c = (
  omega arith,
  iter_turn _ _ _ _ _ c.loop-i.invariant.1 (c.max-high.ensures ∙ rw c.generator_row-g.ensures),
  iter_turn _ _ _ _ _ c.loop-i.invariant.2 (c.min-low.ensures ∙ rw c.generator_row-g.ensures),
)

pub returns : goal.returns
unfolding midpoint
returns c =
    let e : c.loop-i.i ≡ c.args.q.n = omega arith in
    rw (c.loop-i.invariant.1, c.loop-i.invariant.2, e)
