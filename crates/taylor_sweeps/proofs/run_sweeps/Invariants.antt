-- `taylor_sweeps::run_sweeps` meets its contract. Assumes nothing.
use borrow.Author.Rules.{rules}
use Prim.Native.Nat.{◌-◌}
use Rattle.phi_action_helpers.specs.Sweeps.{run_sweeps}
use Rattle.phi_action_helpers.proofs.Sweeps.{Running}
use Rattle.taylor_sweeps.proofs.run_sweeps.Given as goal

abbrev pub invariant-loop : goal.invariant-loop
invariant-loop l = Running l.x.o.l l.x.o.b l.x.o.starts.now l.x.o.cols.now l.x.o.vals.now l.x.o.vectors.now l.x.tau l.x.p l.counter l.applied l.initial.work l.work
