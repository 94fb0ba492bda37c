-- `krylov_advance::shorter` meets its contract. Assumes nothing.
use borrow.Author.Tests.{eq-eqb, ne_eqb}
use mathlib.Core.Path.{refl}
use Rattle.krylov_advance.specs.Run.{shorter}
use Rattle.krylov_advance.proofs.shorter.Goals as goal

pub returns-then-substeps-eq0 : goal.returns-then-substeps-eq0
unfolding shorter
returns-then-substeps-eq0 c = rw (eq-eqb _ _ c.if-substeps-eq0.true) refl

pub returns-else-substeps-eq0 : goal.returns-else-substeps-eq0
unfolding shorter
returns-else-substeps-eq0 c = rw (ne_eqb _ _ c.if-substeps-eq0.false, c.min.ensures) refl
