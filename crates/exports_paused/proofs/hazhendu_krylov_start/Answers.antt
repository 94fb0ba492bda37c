-- `exports_paused::hazhendu_krylov_start` meets its contract. Assumes nothing.
use lib.ListN.{length}
use Rattle.exports_paused.proofs.Calls.{start_is, lent_back, some_rows}
use Rattle.exports_paused.proofs.Slices.{end_within}
use Rattle.exports_paused.proofs.hazhendu_krylov_start.Goals as goal

pub slice_bounds-start-end : goal.slice_bounds-start-end
slice_bounds-start-end c = end_within _ _ _ c.field_end-to.ensures

pub returns : goal.returns
returns c =
    let a = c.args in
    start_is _ _ a.out.now a.work.now a.field.now a.numbers.now a.counts.now c.field_end-to.ensures c.start-answer.auto.field (some_rows _ _ _ _ _ _ _ _) (rw c.options-o.ensures at c.start-answer.ensures) (lent_back _ _ a.field.now (end_within a.numbers.now a.counts.now (length a.field.now) c.field_end-to.ensures) c.start-answer.auto.field) c.start_state.ensures
