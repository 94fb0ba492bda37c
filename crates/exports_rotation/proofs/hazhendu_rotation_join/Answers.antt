-- `exports_rotation::hazhendu_rotation_join` meets its contract. Assumes nothing.
use mathlib.Core.Path.{refl}
use lib.ListN.{length}
use Rattle.exports_paused.proofs.Slices.{end_within}
use Rattle.exports_paused.proofs.Calls.{lent_back, some_rows}
use Rattle.exports_rotation.proofs.Calls.{join_is}
use Rattle.exports_rotation.proofs.hazhendu_rotation_join.Goals as goal

pub slice_bounds-join-end : goal.slice_bounds-join-end
slice_bounds-join-end c = end_within _ _ _ c.field_end-to.ensures

pub returns : goal.returns
returns c =
    let a = c.args in
    let end = c.field_end-to.ensures in
    let kept = c.join-joined.auto.field in
    let k = c.keep_unit.ensures in
    join_is a.units.now a.queues.now _ _ a.out.now a.work.now a.field.now a.numbers.now a.counts.now c.read_unit-unit.ensures end kept (some_rows _ _ _ _ _ _ _ _) (rw c.options-o.ensures at c.join-joined.ensures) (lent_back _ _ a.field.now (end_within a.numbers.now a.counts.now (length a.field.now) end) kept) refl k.numbers_after k.counts_after c.start_state.ensures
