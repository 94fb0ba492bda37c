-- `krylov_advance::unfinished` meets its contract. Assumes nothing.
use mathlib.Core.Path.{refl}
use lib.Ieee.{ne}
use Rattle.krylov_advance.specs.Run.{unfinished}
use Rattle.krylov_advance.proofs.unfinished.Goals as goal

pub returns-then-c : goal.returns-then-c
unfolding unfinished ne
returns-then-c c = λ report y. rw c.if-c.true refl

pub returns-else-c : goal.returns-else-c
unfolding unfinished ne
returns-else-c c = λ report y. rw c.if-c.false refl
