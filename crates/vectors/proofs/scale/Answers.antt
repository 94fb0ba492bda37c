-- `vectors::scale` meets its contract. After i turns the first i elements are written. Assumes nothing.
use native.Mathlib.Omega.{arith}
use mathlib.Core.Path.{◌∙◌}
use lib.Ieee.{nan}
use Rattle.lists.proofs.Loop.{started, turned₀, finished₀, read_after, map_tabulate}
use Rattle.vectors.specs.Vectors.{scale}
use Rattle.vectors.proofs.scale.Goals as goal

pub loop-x-init : goal.loop-x-init
loop-x-init c = started _ _ _

pub loop-x-preserved : goal.loop-x-preserved
loop-x-preserved c = turned₀ c.loop-x.invariant (rw (read_after c.loop-x.invariant c.loop-x.x-index nan (omega arith)))

pub returns : goal.returns
unfolding scale
returns c = finished₀ c.loop-x.invariant (omega arith) (omega arith) ∙ rw (map_tabulate _ _ nan)
