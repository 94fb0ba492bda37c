-- `stage_turns::start_field` meets its contract. Assumes nothing.
use native.Mathlib.Omega.{arith}
use Rattle.stage_turns.proofs.start_field.Goals as goal

pub start_in-requires : goal.start_in-requires
start_in-requires c =
    let l = rw c.if-initial.true at c.requires.0 in
    (omega (arith, l), c.requires.1)

pub returns-then-initial : goal.returns-then-initial
returns-then-initial c = rw c.if-initial.true c.start_in.ensures

pub start_in-requires-2 : goal.start_in-requires-2
start_in-requires-2 c =
    let l = rw c.if-initial.false at c.requires.0 in
    (omega (arith, l), c.requires.1)

pub returns : goal.returns
returns c = rw c.if-initial.false c.start_in-2.ensures
