-- `phi_batch::sweep_batch` meets its contract. Assumes nothing.
use Prim.Native.Nat.{◌-◌, ◌≤◌}
use Rattle.phi_batch.proofs.Batch.{Batch}
use Rattle.phi_batch.proofs.sweep_batch.Given as goal

abbrev pub invariant-loop-k : goal.invariant-loop-k
invariant-loop-k l = (l.k ≤ l.count) × Batch l.x.o.l l.x.o.b l.x.o.starts.now l.x.o.cols.now l.x.o.vals.now l.x.o.vectors.now l.x.tau l.inv l.x.p l.k l.applied l.initial.work l.work l.initial.out l.out

abbrev pub decreases-loop-k : goal.decreases-loop-k
decreases-loop-k l = l.count - l.k
