-- `answers::matrix_numbers` meets its contract. Assumes nothing.
use mathlib.Core.Path.{ap, sym}
use Rattle.answers.specs.Told.{matrix_numbers}
use Rattle.answers.proofs.matrix_numbers.Goals as goal

pub returns-in-Err : goal.returns-in-Err
unfolding matrix_numbers
returns-in-Err c = rw c.number.ensures (sym (ap matrix_numbers c.in-Err.is))

pub returns-in-Ok : goal.returns-in-Ok
unfolding matrix_numbers
returns-in-Ok c = sym (ap matrix_numbers c.in-Ok.is)
