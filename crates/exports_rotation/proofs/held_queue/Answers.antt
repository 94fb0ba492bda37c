-- `exports_rotation::held_queue` meets its contract. Assumes nothing.
use Rattle.lists.specs.Window.{window}
use Rattle.exports_rotation.proofs.held_queue.Goals as goal

pub returns : goal.returns
unfolding window
returns c = c.copy_from_slice.ensures.after
