-- `rotation_turns::run_left` meets its contract. Assumes nothing.
use mathlib.Core.Path.{refl}
use Rattle.rotation_turns.proofs.run_left.Goals as goal

pub returns-in-Err : goal.returns-in-Err
returns-in-Err c = rw c.in-Err.is refl

pub returns-in-Ok : goal.returns-in-Ok
returns-in-Ok c = rw c.in-Ok.is refl
