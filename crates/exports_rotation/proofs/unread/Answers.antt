-- `exports_rotation::unread` meets its contract. Assumes nothing.
use mathlib.Core.Path.{refl}
use Rattle.exports_rotation.proofs.unread.Goals as goal

pub returns : goal.returns
returns c = rw c.not_a_number-x.ensures refl
