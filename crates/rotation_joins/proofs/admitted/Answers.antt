-- `rotation_joins::admitted` meets its contract. Assumes nothing.
use mathlib.Core.Path.{refl}
use Rattle.rotation_joins.proofs.Calls.{told_ended, told_seated}
use Rattle.rotation_joins.proofs.admitted.Goals as goal

pub returns-then-run : goal.returns-then-run
returns-then-run c = told_ended c.args.unit _ c.in-Ok.is c.if-run.true

pub returns-in-Err : goal.returns-in-Err
returns-in-Err c = rw c.in-Err.is refl

pub returns-else-run : goal.returns-else-run
returns-else-run c = told_seated c.args.unit _ c.in-Ok.is c.if-run.false c.seated-seat.ensures
