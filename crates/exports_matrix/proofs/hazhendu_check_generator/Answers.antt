-- `exports_matrix::hazhendu_check_generator` meets its contract. Assumes nothing.
use mathlib.Core.Path.{ap, ◌∙◌}
use Rattle.answers.specs.Told.{matrix_numbers}
use Rattle.exports_matrix.proofs.hazhendu_check_generator.Goals as goal

pub returns : goal.returns
returns c = c.matrix_numbers.ensures ∙ ap matrix_numbers c.check_generator-answer.ensures
