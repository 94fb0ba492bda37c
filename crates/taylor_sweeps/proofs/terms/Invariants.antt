-- `taylor_sweeps::terms` meets its contract. Assumes nothing.
use Prim.Native.Nat.{◌-◌, ◌≤◌}
use Rattle.phi_action_helpers.proofs.Sweeps.{State}
use Rattle.taylor_sweeps.proofs.terms.Given as goal

abbrev pub invariant-loop-k : goal.invariant-loop-k
invariant-loop-k l = (l.k ≤ l.m) × State l.x.o.l l.x.o.b l.x.o.starts.now l.x.o.cols.now l.x.o.vals.now l.x.o.vectors.now l.x.tau l.x.p l.k l.applied l.initial.work l.work

abbrev pub decreases-loop-k : goal.decreases-loop-k
decreases-loop-k l = l.m - l.k
