-- `exports_rotation::hazhendu_rotation_clear` meets its contract. Assumes nothing.
use mathlib.Core.Path.{sym, ◌∙◌}
use Rattle.exports_rotation.proofs.Calls.{clear_is, clear_not}
use Rattle.exports_rotation.proofs.hazhendu_rotation_clear.Goals as goal

pub returns-then-unit_fits : goal.returns-then-unit_fits
returns-then-unit_fits c =
    let a = c.args in
    clear_is a.units.now a.queues.now (sym c.unit_fits.ensures ∙ c.if-unit_fits.true) c.empty-unit.ensures c.keep_unit.ensures.numbers_after c.keep_unit.ensures.counts_after

pub returns : goal.returns
returns c =
    let a = c.args in
    clear_not a.units.now a.queues.now (sym c.unit_fits.ensures ∙ c.if-unit_fits.false)
