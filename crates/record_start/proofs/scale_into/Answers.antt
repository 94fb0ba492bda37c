-- `record_start::scale_into` meets its contract. Assumes nothing.
use native.Mathlib.Omega.{arith}
use mathlib.Core.Path.{refl, sym, ◌∙◌}
use lib.ListN.{length}
use lib.Ieee.{nan}
use Rattle.lists.proofs.Loop.{started, turned₀, finished_all, map_tabulate}
use Rattle.doubles.specs.F64.{◌⊗◌}
use Rattle.vectors.specs.Vectors.{scale}
use Rattle.record_start.proofs.scale_into.Goals as goal

pub loop-i-init : goal.loop-i-init
loop-i-init c = started _ _ _

pub loop-i-preserved : goal.loop-i-preserved
loop-i-preserved c = turned₀ c.loop-i.invariant refl

pub returns : goal.returns
unfolding scale
returns c =
    let a = c.args in
    finished_all c.loop-i.invariant (length a.load.now) (omega arith) (omega arith) (omega arith) ∙ sym (map_tabulate (λ e. e ⊗ a.level) a.load.now nan)
