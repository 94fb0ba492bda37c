-- `exports_rotation::held_places` meets its contract. Assumes nothing.
use Prim.Native.Nat.{◌*◌}
use Rattle.lists.specs.Window.{window}
use Rattle.lists.proofs.Loop.{Filled}
use Rattle.exports_paused.specs.Told.{held}
use Rattle.exports_rotation.proofs.held_places.Given as goal

abbrev pub invariant-loop-p : goal.invariant-loop-p
invariant-loop-p l = Filled 0 l.p (λ q. held (window (10 * q) 10 l.numbers) (window (8 * q) 8 l.counts)) l.initial.place-items l.place-items
