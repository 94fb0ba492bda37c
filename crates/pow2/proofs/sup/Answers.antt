-- `pow2::sup` meets its contract: the loop carries the fold of the elements passed. Assumes nothing.
use mathlib.Core.Path.{◌≡◌, sym, ap, ◌∙◌}
use native.Mathlib.Omega.{arith}
use lib.ListN.{length}
use Rattle.lists.proofs.Loop.{iter_none, iter_turn}
use Rattle.doubles.specs.F64.{max_num}
use Rattle.pow2.specs.Pow2.{sup}
use Rattle.pow2.proofs.sup.Goals as goal

pub loop-v-init : goal.loop-v-init
loop-v-init c = sym (iter_none _ _)

pub loop-v-preserved : goal.loop-v-preserved
loop-v-preserved c = iter_turn _ _ _ _ _ c.loop-v.invariant (c.max-m.ensures ∙ ap (max_num c.loop-v.m) c.abs.ensures)

pub returns : goal.returns
unfolding sup
returns c =
    let e : c.loop-v.v-index ≡ length c.args.x.now = omega arith in
    rw e at c.loop-v.invariant
