-- `exports_paused_bytes::hazhendu_krylov_start_bytes` meets its contract. Assumes nothing.
use mathlib.Core.Path.{sym, ◌∙◌}
use Rattle.paused_byte_calls.specs.Inner.{called_run}
use Rattle.paused_byte_calls.proofs.Reply.{refused_large, not_large}
use Rattle.exports_paused_bytes.proofs.hazhendu_krylov_start_bytes.Goals as goal

pub returns-then-large : goal.returns-then-large
returns-then-large c = refused_large _ _ (sym c.large.ensures.value ∙ c.if-large.true)

pub answer-r-requires : goal.answer-r-requires
answer-r-requires c = c.large.ensures.n_bound c.if-large.false

pub returns : goal.returns
unfolding called_run
returns c = not_large _ _ (sym c.large.ensures.value ∙ c.if-large.false) c.answer-r.ensures
