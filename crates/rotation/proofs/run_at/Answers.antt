-- `rotation::run_at` meets its contract. Assumes nothing.
use mathlib.Core.Path.{refl, ◌∙◌}
use borrow.Author.Tests.{lt-ltb, le-ltb}
use Rattle.rotation.proofs.run_at.Goals as goal

-- src/lib.rt:90:9
pub returns-then-p-lt16 : goal.returns-then-p-lt16
returns-then-p-lt16 c = rw (lt-ltb _ _ c.if-p-lt16.true) refl

-- src/lib.rt:86:1
pub returns : goal.returns
returns c = c.vacant.ensures ∙ rw (le-ltb _ _ c.if-p-lt16.false) refl
