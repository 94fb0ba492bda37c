-- `exports_rotation::unit_fits` meets its contract. Assumes nothing.
use mathlib.Core.Path.{refl}
use borrow.Author.Tests.{eq-eqb, ne_eqb}
use Rattle.exports_rotation.specs.Told.{unit_fits}
use Rattle.exports_rotation.proofs.unit_fits.Goals as goal

pub returns-then-numbers-eq160 : goal.returns-then-numbers-eq160
unfolding unit_fits
returns-then-numbers-eq160 c = rw (eq-eqb _ _ c.if-numbers-eq160.true) refl

pub returns-else-numbers-eq160 : goal.returns-else-numbers-eq160
unfolding unit_fits
returns-else-numbers-eq160 c = rw (ne_eqb _ _ c.if-numbers-eq160.false) refl
