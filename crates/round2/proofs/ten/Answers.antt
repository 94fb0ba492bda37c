-- `round2::ten` meets its contract. Assumes nothing.
use mathlib.Core.List.{List}
use mathlib.Core.Path.{ap, ◌∙◌}
use lib.ListN.{get_or}
use lib.Ieee.{Float, nan}
use Rattle.round2.specs.Ten.{ten}
use Rattle.lists.proofs.Loop.{get_d_tabulate}
use Rattle.round2.proofs.Table.{table_is}
use Rattle.round2.proofs.ten.Goals as goal

pub returns : goal.returns
returns c = ap (λ (w : List Float). get_or w c.args.i nan) table_is ∙ get_d_tabulate 632 ten c.args.i nan c.requires
