-- `exports_bytes::hazhendu_phi_combination_krylov_bytes` meets its contract. Assumes nothing.
use mathlib.Core.Path.{sym, ◌∙◌}
use Rattle.byte_calls.specs.Inner.{told, called}
use Rattle.array_calls.proofs.Reply.{refused_large, not_large, telling}
use Rattle.exports_bytes.proofs.hazhendu_phi_combination_krylov_bytes.Goals as goal

pub returns-then-large : goal.returns-then-large
returns-then-large c = refused_large _ _ (sym c.large.ensures.value ∙ c.if-large.true)

pub answer-t-requires : goal.answer-t-requires
answer-t-requires c = c.large.ensures.n_bound c.if-large.false

pub returns : goal.returns
unfolding told called
returns c = not_large _ _ (sym c.large.ensures.value ∙ c.if-large.false) (telling c.krylov_numbers.ensures c.answer-t.ensures)
