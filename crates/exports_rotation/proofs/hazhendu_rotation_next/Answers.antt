-- `exports_rotation::hazhendu_rotation_next` meets its contract. Assumes nothing.
use mathlib.Core.Path.{refl}
use borrow.Author.Tests.{ne_eqb}
use Rattle.exports_rotation.specs.Told.{next_told}
use Rattle.exports_rotation.proofs.Calls.{next_by}
use Rattle.exports_rotation.proofs.hazhendu_rotation_next.Goals as goal

pub returns-then-queues-eq144 : goal.returns-then-queues-eq144
returns-then-queues-eq144 c = next_by c.args.queues.now _ c.if-queues-eq144.true c.held_queue.ensures c.next_place.ensures

pub returns : goal.returns
unfolding next_told
returns c = rw (ne_eqb _ _ c.if-queues-eq144.false) refl
