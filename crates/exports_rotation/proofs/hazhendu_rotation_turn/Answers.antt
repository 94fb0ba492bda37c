-- `exports_rotation::hazhendu_rotation_turn` meets its contract. Assumes nothing.
use mathlib.Core.Path.{refl}
use Rattle.exports_rotation.proofs.Calls.{told_turn}
use Rattle.exports_rotation.proofs.hazhendu_rotation_turn.Goals as goal

pub returns : goal.returns
returns c =
    let a = c.args in
    let k = c.keep_unit.ensures in
    told_turn a.units.now a.queues.now _ a.field.now a.numbers.now a.counts.now c.read_unit-unit.ensures c.tolerance-t.ensures c.turn-turned.ensures refl k.numbers_after k.counts_after c.step_state.ensures
