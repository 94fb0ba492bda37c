-- `answers::join_numbers` meets its contract. Assumes nothing.
use mathlib.Core.Path.{ap, sym}
use Rattle.answers.specs.Told.{join_numbers}
use Rattle.answers.proofs.join_numbers.Goals as goal

pub returns-in-Err : goal.returns-in-Err
unfolding join_numbers
returns-in-Err c = rw c.number.ensures (sym (ap join_numbers c.in-Err.is))

pub returns-in-Ok : goal.returns-in-Ok
unfolding join_numbers
returns-in-Ok c = sym (ap join_numbers c.in-Ok.is)
