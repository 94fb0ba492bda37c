-- `hess_exp::hess_sweeps` meets its contract. Assumes nothing.
use native.Mathlib.Omega.{arith}
use mathlib.Core.Path.{◌≡◌, sym}
use Rattle.lists.proofs.Loop.{iter_none, iter_turn}
use Rattle.hess_exp.proofs.hess_sweeps.Goals as goal

pub loop-init : goal.loop-init
loop-init c = (sym (iter_none _ _), omega arith, omega arith)

pub loop-preserved : goal.loop-preserved
loop-preserved c = (iter_turn _ _ _ _ _ c.loop.invariant.0 c.hess_sweep.ensures, omega arith, omega arith)

pub returns : goal.returns
returns c =
    let e : c.loop.counter ≡ c.args.s = omega arith in
    rw e at c.loop.invariant.0
