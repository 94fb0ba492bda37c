-- `exports_rotation::write_places` meets its contract. Assumes nothing.
use Rattle.lists.proofs.Stack.{Stacked}
use Rattle.rotation.specs.Unit.{run_at}
use Rattle.exports_paused.specs.Told.{numbers_of, counts_of}
use Rattle.exports_rotation.proofs.write_places.Given as goal

abbrev pub invariant-loop-p : goal.invariant-loop-p
invariant-loop-p l =
    Stacked 0 10 l.p (λ q. numbers_of (run_at l.fn.unit q)) l.initial.numbers l.numbers × Stacked 0 8 l.p (λ q. counts_of (run_at l.fn.unit q)) l.initial.counts l.counts
