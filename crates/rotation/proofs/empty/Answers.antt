-- `rotation::empty` meets its contract. Assumes nothing.
use mathlib.Core.Path.{refl}
use Rattle.rotation.specs.Unit.{empty}
use Rattle.rotation.proofs.empty.Goals as goal

pub returns : goal.returns
unfolding empty
returns c = rw c.vacant.ensures refl
