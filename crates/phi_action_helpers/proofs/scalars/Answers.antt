-- `phi_action_helpers::scalars` meets its contract. Assumes nothing.
use native.Mathlib.Omega.{arith}
use mathlib.Core.Path.{refl, ◌∙◌}
use Rattle.lists.proofs.Loop.{started, turned₀, finished, front_filled}
use Rattle.phi_action_helpers.specs.Augmented.{scalars}
use Rattle.phi_action_helpers.proofs.scalars.Goals as goal

pub loop-j-init : goal.loop-j-init
loop-j-init c = (omega arith, started _ _ _)

pub loop-j-preserved : goal.loop-j-preserved
loop-j-preserved c = (omega arith, turned₀ c.loop-j.invariant.1 refl)

pub returns : goal.returns
unfolding scalars
returns c = finished c.loop-j.invariant.1 c.args.count (omega arith) (omega arith) ∙ front_filled 3 _ _ _ (omega arith)
