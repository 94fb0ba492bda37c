-- `rotation::next_place` meets its contract. Assumes nothing.
use mathlib.Core.Path.{◌∙◌}
use Rattle.rotation.proofs.Queue.{next_is}
use Rattle.rotation.proofs.next_place.Goals as goal

pub returns : goal.returns
returns c = c.min.ensures ∙ next_is c.args.unit
