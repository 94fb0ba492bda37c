-- `exports_transposed_matrix::hazhendu_check_transposed` meets its contract. Assumes nothing.
use mathlib.Core.Path.{ap, ◌∙◌}
use Rattle.answers.specs.Told.{matrix_numbers}
use Rattle.transposed_told.proofs.Telling.{matrix_told_of}
use Rattle.exports_transposed_matrix.proofs.hazhendu_check_transposed.Goals as goal

pub returns : goal.returns
returns c =
    matrix_told_of (c.matrix_numbers.ensures ∙ ap matrix_numbers c.check_transposed-answer.ensures.value) c.check_transposed-answer.ensures.t_vals_after
