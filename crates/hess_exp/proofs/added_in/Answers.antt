-- `hess_exp::added_in` meets its contract. Assumes nothing.
use native.Mathlib.Omega.{arith}
use mathlib.Core.Path.{refl, sym, ◌∙◌}
use lib.Ieee.{nan}
use Rattle.lists.proofs.Loop.{started, turned₀, finished₀, read_after, zip_with_tabulate}
use Rattle.doubles.specs.F64.{◌⊕◌}
use Rattle.hess_exp.proofs.added_in.Goals as goal

pub loop-i-init : goal.loop-i-init
loop-i-init c = started _ _ _

pub loop-i-preserved : goal.loop-i-preserved
loop-i-preserved c = turned₀ c.loop-i.invariant (rw (read_after c.loop-i.invariant c.loop-i.i nan (omega arith)))

pub returns : goal.returns
returns c = finished₀ c.loop-i.invariant (omega arith) (omega arith) ∙ sym (zip_with_tabulate ◌⊕◌ _ _ _ nan refl c.requires)
