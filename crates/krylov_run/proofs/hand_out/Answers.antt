-- `krylov_run::hand_out` meets its contract. Assumes nothing.
use borrow.Author.Rules.{rules}
use Rattle.combination.specs.Call.{cleared}
use Rattle.krylov_run.proofs.hand_out.Goals as goal

pub returns : goal.returns
unfolding cleared
returns c = search rules
