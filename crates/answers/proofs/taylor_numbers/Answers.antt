-- `answers::taylor_numbers` meets its contract. Assumes nothing.
use mathlib.Core.Path.{ap, sym}
use Rattle.answers.specs.Told.{taylor_numbers}
use Rattle.answers.proofs.taylor_numbers.Goals as goal

pub returns-in-Err : goal.returns-in-Err
unfolding taylor_numbers
returns-in-Err c = rw c.number.ensures (sym (ap taylor_numbers c.in-Err.is))

pub returns-in-Ok : goal.returns-in-Ok
unfolding taylor_numbers
returns-in-Ok c = sym (ap taylor_numbers c.in-Ok.is)
