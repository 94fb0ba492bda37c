-- `csr_matvec::factored` meets its contract. Assumes nothing.
use Rattle.csr_matvec.specs.Values.{factored}
use Rattle.csr_matvec.proofs.factored.Goals as goal

pub returns-then-scaled : goal.returns-then-scaled
unfolding factored
returns-then-scaled c = rw c.if-scaled.true

pub returns : goal.returns
unfolding factored
returns c = rw c.if-scaled.false
