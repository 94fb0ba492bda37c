-- `record_start::start_record` meets its contract. Assumes nothing.
use native.Mathlib.Omega.{arith}
use Rattle.record_start.proofs.start_record.Goals as goal

pub combination_start-requires : goal.combination_start-requires
combination_start-requires c =
    let l = rw c.if-initial.true at c.requires.0 in
    (omega (arith, l), c.requires.1)

pub returns-then-initial : goal.returns-then-initial
returns-then-initial c = rw c.if-initial.true c.combination_start.ensures

pub combination_start-requires-2 : goal.combination_start-requires-2
combination_start-requires-2 c =
    let l = rw c.if-initial.false at c.requires.0 in
    (omega (arith, l), c.requires.1)

pub returns : goal.returns
returns c = rw c.if-initial.false c.combination_start-2.ensures
