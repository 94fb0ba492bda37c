-- `exports_rotation::keep_unit` meets its contract. Assumes nothing.
use mathlib.Core.Path.{sym, ap, ◌∙◌}
use lib.Dec.{ltb}
use lib.ListN.{length}
use borrow.Author.Tests.{lt-ltb, le-ltb}
use Rattle.lists.proofs.Window.{length_splice}
use Rattle.exports_rotation.specs.Told.{unit_numbers, unit_counts}
use Rattle.exports_rotation.proofs.Units.{fitting_unit, counts_whole, kept_all, kept_not, kept_none}
use Rattle.exports_rotation.proofs.keep_unit.Goals as goal

pub write_places-requires : goal.write_places-requires
write_places-requires c = fitting_unit _ _ (sym c.unit_fits.ensures ∙ c.if-unit_fits.true)

pub write_queue-requires : goal.write_queue-requires
write_queue-requires c =
    let a = c.args in
    let l = fitting_unit a.numbers.now a.counts.now (sym c.unit_fits.ensures ∙ c.if-unit_fits.true) in
    ap length c.write_places.ensures.counts_after ∙ length_splice 0 _ a.counts.now ∙ l.1

pub returns-then-unit_fits : goal.returns-then-unit_fits
returns-then-unit_fits c =
    let a = c.args in
    let low = lt-ltb _ _ c.if-place-lt16.true in
    let fit = sym c.unit_fits.ensures ∙ c.if-unit_fits.true in
    let l = fitting_unit a.numbers.now a.counts.now fit in
    record { numbers_after = kept_all a.numbers.now low fit c.write_places.ensures.numbers_after; counts_after = kept_all a.counts.now low fit (counts_whole a.unit a.counts.now l.1 c.write_places.ensures.counts_after c.write_queue.ensures) }

pub returns-else-unit_fits : goal.returns-else-unit_fits
returns-else-unit_fits c =
    let a = c.args in
    let e = sym c.unit_fits.ensures ∙ c.if-unit_fits.false in
    record { numbers_after = kept_not (ltb a.place 16) (unit_numbers a.unit) a.numbers.now e; counts_after = kept_not (ltb a.place 16) (unit_counts a.unit) a.counts.now e }

pub returns-else-place-lt16 : goal.returns-else-place-lt16
returns-else-place-lt16 c =
    let a = c.args in
    let e = le-ltb _ _ c.if-place-lt16.false in
    record { numbers_after = kept_none _ _ a.numbers.now e; counts_after = kept_none _ _ a.counts.now e }
