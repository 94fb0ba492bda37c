-- `exports_rotation::read_unit` meets its contract. Assumes nothing.
use mathlib.Core.Path.{refl, sym, ◌∙◌}
use Rattle.exports_rotation.specs.Told.{unit_of}
use Rattle.exports_rotation.proofs.Units.{fitting_unit}
use Rattle.exports_rotation.proofs.read_unit.Goals as goal

pub held_places-requires : goal.held_places-requires
held_places-requires c = fitting_unit _ _ (sym c.unit_fits.ensures ∙ c.if-unit_fits.true)

pub held_queue-requires : goal.held_queue-requires
held_queue-requires c = (fitting_unit c.args.numbers.now _ (sym c.unit_fits.ensures ∙ c.if-unit_fits.true)).1

pub returns-then-unit_fits : goal.returns-then-unit_fits
unfolding unit_of
returns-then-unit_fits c = (λ k. record { places = c.held_places.ensures k; queue = c.held_queue.ensures k }) ∙ rw (← c.unit_fits.ensures, c.if-unit_fits.true) refl

pub returns : goal.returns
unfolding unit_of
returns c = c.no_unit.ensures ∙ rw (← c.unit_fits.ensures, c.if-unit_fits.false) refl
