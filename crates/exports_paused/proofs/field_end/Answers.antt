-- `exports_paused::field_end` meets its contract. Assumes nothing.
use mathlib.Core.Path.{refl}
use Rattle.exports_paused.proofs.field_end.Goals as goal

pub returns-then-fits : goal.returns-then-fits
returns-then-fits c = rw (← c.fits.ensures, c.if-fits.true) refl

pub returns : goal.returns
returns c = rw (← c.fits.ensures, c.if-fits.false) refl
