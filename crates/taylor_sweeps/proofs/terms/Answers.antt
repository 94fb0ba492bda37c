-- `taylor_sweeps::terms` meets its contract. Assumes nothing.
use native.Mathlib.Omega.{arith}
use mathlib.Core.Path.{◌≡◌}
use Rattle.phi_action_helpers.proofs.Sweeps.{began, turn, state_counted, ready_kept}
use Rattle.taylor_sweeps.proofs.terms.Goals as goal

pub loop-k-init : goal.loop-k-init
loop-k-init c = (omega arith, began _)

pub horner_step-applied-requires : goal.horner_step-applied-requires
horner_step-applied-requires c =
    record { ready = ready_kept _ _ _ c.args.x.o.vectors.now c.loop-k.invariant.1.kept c.requires.ready; lined = (c.requires.lined, c.loop-k-test.true, omega (arith, state_counted c.loop-k.invariant.1)) }

pub loop-k-preserved : goal.loop-k-preserved
loop-k-preserved c = (omega arith, turn c.loop-k.invariant.1 c.horner_step-applied.ensures.work_after c.horner_step-applied.ensures.kept)

pub returns : goal.returns
returns c =
    let e : c.loop-k.k ≡ c.args.x.p.m = omega arith in
    record { work_after = rw e at c.loop-k.invariant.1.view; kept = c.loop-k.invariant.1.kept }
