-- `taylor_terms::scales_of` meets its contract. Assumes nothing.
use mathlib.Core.Path.{refl}
use lib.Ieee.{ne}
use borrow.Author.Rules.{rules}
use Rattle.phi_action_helpers.specs.Sweeps.{scales}
use Rattle.taylor_terms.proofs.scales_of.Goals as goal

pub returns : goal.returns
unfolding scales ne
returns c = refl
