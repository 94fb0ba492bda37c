-- `stage_turns::field_length` meets its contract. Assumes nothing.

use Rattle.stage_turns.proofs.field_length.Goals as goal

pub returns-then-initial : goal.returns-then-initial
returns-then-initial c xs ys e f = rw c.if-initial.true e

pub returns : goal.returns
returns c xs ys e f = rw c.if-initial.false f
