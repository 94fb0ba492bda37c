-- `weighted_columns::sup_of` meets its contract. Assumes nothing.
use mathlib.Core.Path.{ap, ◌∙◌}
use Rattle.pow2.specs.Pow2.{sup}
use Rattle.lists.proofs.Window.{part_window}
use Rattle.combination.specs.Combination.{vector}
use Rattle.weighted_columns.proofs.sup_of.Goals as goal

pub returns : goal.returns
unfolding vector
returns c = c.sup.ensures ∙ ap sup (part_window _ _ _)
