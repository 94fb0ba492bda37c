-- `exports_stages::staged_told` meets its contract. Assumes nothing.
use mathlib.Core.Path.{ap, sym}
use Rattle.exports_stages.specs.Told.{staged_told}
use Rattle.exports_stages.proofs.staged_told.Goals as goal

pub returns-in-Err : goal.returns-in-Err
unfolding staged_told
returns-in-Err c = rw c.number.ensures (sym (ap staged_told c.in-Err.is))

pub returns-in-Ok : goal.returns-in-Ok
unfolding staged_told
returns-in-Ok c = sym (ap staged_told c.in-Ok.is)
