-- `exports_transposed_bytes::hazhendu_check_transposed_bytes` meets its contract. Assumes nothing.
use mathlib.Core.Path.{sym, ◌∙◌}
use Rattle.transposed_byte_calls.specs.Inner.{checked_transposed}
use Rattle.transposed_byte_calls.proofs.Reply.{matrix_large, matrix_not_large}
use Rattle.exports_transposed_bytes.proofs.hazhendu_check_transposed_bytes.Goals as goal

pub returns-then-large : goal.returns-then-large
returns-then-large c = matrix_large _ _ (sym c.large.ensures.value ∙ c.if-large.true)

pub check_answer-t-requires : goal.check_answer-t-requires
check_answer-t-requires c = let l = c.large.ensures.n_bound c.if-large.false in (l.0, l.1)

pub returns : goal.returns
unfolding checked_transposed
returns c = matrix_not_large _ _ (sym c.large.ensures.value ∙ c.if-large.false) c.check_answer-t.ensures
