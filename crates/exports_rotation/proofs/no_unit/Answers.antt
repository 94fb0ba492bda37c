-- `exports_rotation::no_unit` meets its contract. Assumes nothing.
use mathlib.Core.Path.{refl}
use Rattle.exports_rotation.proofs.no_unit.Goals as goal

pub returns : goal.returns
returns c = rw c.unread-run.ensures refl
