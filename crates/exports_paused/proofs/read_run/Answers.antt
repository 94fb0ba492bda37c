-- `exports_paused::read_run` meets its contract. Assumes nothing.
use mathlib.Core.Path.{refl, sym, ◌∙◌}
use Rattle.exports_paused.specs.Told.{run_of}
use Rattle.exports_paused.proofs.Slices.{fitting}
use Rattle.exports_paused.proofs.read_run.Goals as goal

pub held-requires : goal.held-requires
held-requires c = fitting _ _ (sym c.fits.ensures ∙ c.if-fits.true)

pub returns-then-fits : goal.returns-then-fits
unfolding run_of
returns-then-fits c = c.held.ensures ∙ rw (← c.fits.ensures, c.if-fits.true) refl

pub returns : goal.returns
unfolding run_of
returns c = c.no_run.ensures ∙ rw (← c.fits.ensures, c.if-fits.false) refl
