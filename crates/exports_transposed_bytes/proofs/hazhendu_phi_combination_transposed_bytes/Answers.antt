-- `exports_transposed_bytes::hazhendu_phi_combination_transposed_bytes` meets its contract. Assumes nothing.
use mathlib.Core.Path.{sym, ◌∙◌}
use Rattle.transposed.specs.Transposed.{phi_combination_transposed}
use Rattle.byte_calls.specs.Inner.{told, called}
use Rattle.transposed_byte_calls.specs.Inner.{called_transposed}
use Rattle.transposed_byte_calls.proofs.Reply.{refused_large, not_large, telling}
use Rattle.exports_transposed_bytes.proofs.hazhendu_phi_combination_transposed_bytes.Goals as goal

pub returns-then-large : goal.returns-then-large
returns-then-large c = refused_large _ _ (sym c.large.ensures.value ∙ c.if-large.true)

pub answer-t-requires : goal.answer-t-requires
answer-t-requires c = c.large.ensures.n_bound c.if-large.false

pub returns : goal.returns
unfolding told called called_transposed phi_combination_transposed
returns c = not_large _ _ (sym c.large.ensures.value ∙ c.if-large.false) (telling c.taylor_numbers.ensures c.answer-t.ensures)
