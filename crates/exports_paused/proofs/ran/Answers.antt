-- `exports_paused::ran` meets its contract. Assumes nothing.
use mathlib.Core.Path.{refl}
use borrow.Author.Tests.{lt-ltb, le-ltb}
use Rattle.exports_paused.proofs.ran.Goals as goal

pub returns-then-k-gt26 : goal.returns-then-k-gt26
returns-then-k-gt26 c = rw (lt-ltb _ _ c.if-k-gt26.true) refl

pub returns-else-k-gt26 : goal.returns-else-k-gt26
returns-else-k-gt26 c = rw (le-ltb _ _ c.if-k-gt26.false) refl
