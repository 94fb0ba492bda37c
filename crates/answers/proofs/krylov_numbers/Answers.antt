-- `answers::krylov_numbers` meets its contract. Assumes nothing.
use mathlib.Core.Path.{ap, sym}
use Rattle.answers.specs.Told.{krylov_numbers}
use Rattle.answers.proofs.krylov_numbers.Goals as goal

pub returns-in-Err : goal.returns-in-Err
unfolding krylov_numbers
returns-in-Err c = rw c.number.ensures (sym (ap krylov_numbers c.in-Err.is))

pub returns-in-Ok : goal.returns-in-Ok
unfolding krylov_numbers
returns-in-Ok c = sym (ap krylov_numbers c.in-Ok.is)
