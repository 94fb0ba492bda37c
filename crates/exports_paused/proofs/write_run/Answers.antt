-- `exports_paused::write_run` meets its contract. Assumes nothing.
use mathlib.Core.Path.{sym, ◌∙◌}
use Rattle.exports_paused.proofs.Slices.{fitting, written_fits, written_not}
use Rattle.exports_paused.proofs.write_run.Goals as goal

pub write_numbers-requires : goal.write_numbers-requires
write_numbers-requires c = (fitting _ _ (sym c.fits.ensures ∙ c.if-fits.true)).0

pub write_counts-requires : goal.write_counts-requires
write_counts-requires c = (fitting _ _ (sym c.fits.ensures ∙ c.if-fits.true)).1

pub returns-then-fits : goal.returns-then-fits
returns-then-fits c = written_fits _ _ _ (sym c.fits.ensures ∙ c.if-fits.true) c.write_numbers.ensures c.write_counts.ensures

pub returns-else-fits : goal.returns-else-fits
returns-else-fits c = written_not _ _ _ (sym c.fits.ensures ∙ c.if-fits.false)
