-- `generator_checks::larger` meets its contract. Assumes nothing.

use Rattle.generator_checks.proofs.larger.Goals as goal

pub returns-then-s-l : goal.returns-then-s-l
returns-then-s-l c = (rw c.if-s-l.true, rw c.if-s-l.true)

pub returns : goal.returns
returns c = (rw c.if-s-l.false, rw c.if-s-l.false)
