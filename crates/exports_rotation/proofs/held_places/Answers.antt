-- `exports_rotation::held_places` meets its contract. Assumes nothing.
use native.Mathlib.Omega.{arith}
use mathlib.Core.Path.{refl}
use Rattle.lists.proofs.Loop.{started, turned₀, finished_all}
use Rattle.exports_rotation.proofs.held_places.Goals as goal

pub loop-p-init : goal.loop-p-init
loop-p-init c = started 0 _ _

pub held_at-requires : goal.held_at-requires
held_at-requires c = (omega arith, c.requires.0, c.requires.1)

pub loop-p-preserved : goal.loop-p-preserved
loop-p-preserved c = turned₀ c.loop-p.invariant c.held_at.ensures

pub returns : goal.returns
returns c = finished_all c.loop-p.invariant 16 (omega arith) (omega arith) refl
