-- `exports_paused::fits` meets its contract. Assumes nothing.
use mathlib.Core.Path.{refl}
use borrow.Author.Tests.{eq-eqb, ne_eqb}
use Rattle.exports_paused.specs.Told.{fits}
use Rattle.exports_paused.proofs.fits.Goals as goal

pub returns-then-numbers-eq10 : goal.returns-then-numbers-eq10
unfolding fits
returns-then-numbers-eq10 c = rw (eq-eqb _ _ c.if-numbers-eq10.true) refl

pub returns-else-numbers-eq10 : goal.returns-else-numbers-eq10
unfolding fits
returns-else-numbers-eq10 c = rw (ne_eqb _ _ c.if-numbers-eq10.false) refl
