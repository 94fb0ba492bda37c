-- `taylor_sweeps::run_sweeps` meets its contract. Assumes nothing.
use borrow.Author.Rules.{rules}
use native.Mathlib.Omega.{arith}
use Prim.Native.Nat.{◌+◌, ◌-◌, ◌≤◌}
use mathlib.Core.Path.{◌≡◌}
use Rattle.lists.proofs.Bounds.{product_within}
use Rattle.phi_action_helpers.specs.Sweeps.{rescale, run_sweeps}
use Rattle.phi_action_helpers.proofs.Sweeps.{run_began, run_turn, running_counted, ready_kept}
use Rattle.taylor_sweeps.proofs.run_sweeps.Goals as goal

pub loop-init : goal.loop-init
loop-init c = run_began _

pub sweep-applied-requires : goal.sweep-applied-requires
unfolding rescale
sweep-applied-requires c =
    let fit : c.loop.applied + c.args.x.p.m ≤ 18446744073709551615 = let many = product_within {a = c.loop.counter} 4294967295 30 (omega arith) c.requires.lined.1 in
    omega (arith, running_counted c.loop.invariant, many, c.requires.lined) in
    record { ready = ready_kept _ _ _ c.args.x.o.vectors.now c.loop.invariant.kept c.requires.ready; lined = (c.requires.lined.0, c.dense_exp-f.ensures, fit) }

pub loop-preserved : goal.loop-preserved
loop-preserved c = run_turn c.loop.invariant c.sweep-applied.ensures.work_after c.sweep-applied.ensures.kept

pub returns : goal.returns
unfolding run_sweeps
returns c =
    let e : c.loop.counter ≡ c.args.x.p.s = omega arith in
    record { work_after = rw e at c.loop.invariant.view; kept = c.loop.invariant.kept }
