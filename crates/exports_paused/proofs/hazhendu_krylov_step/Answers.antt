-- `exports_paused::hazhendu_krylov_step` meets its contract. Assumes nothing.
use Rattle.exports_paused.proofs.Calls.{told_step}
use Rattle.exports_paused.proofs.hazhendu_krylov_step.Goals as goal

pub returns : goal.returns
returns c =
    let a = c.args in
    told_step _ a.field.now a.numbers.now a.counts.now c.read_run-run.ensures c.tolerance-t.ensures c.step-answer.ensures c.step_state.ensures
