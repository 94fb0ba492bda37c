-- `weighted_columns::scaled_gains` meets its contract. Assumes nothing.
use native.Mathlib.Omega.{arith}
use mathlib.Core.Path.{refl, ◌∙◌}
use Rattle.lists.proofs.Loop.{started, turned₀, finished, front_filled}
use Rattle.doubles.specs.F64.{1f}
use Rattle.weighted_columns.proofs.scaled_gains.Goals as goal

pub loop-j-init : goal.loop-j-init
loop-j-init c = (omega arith, started _ _ _)

pub loop-j-preserved : goal.loop-j-preserved
loop-j-preserved c = (omega arith, turned₀ c.loop-j.invariant.1 refl)

pub returns : goal.returns
returns c =
    let a = c.args in
    finished c.loop-j.invariant.1 a.d (omega arith) (omega arith) ∙ front_filled 3 a.d _ 1f (omega arith)
