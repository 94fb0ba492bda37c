-- `expmv::cheaper` meets its contract. Assumes nothing.
use borrow.Author.Rules.{rules}
use borrow.Author.Tests.{lt-ltb, le-ltb}
use Rattle.expmv.specs.Select.{cheaper}
use Rattle.expmv.proofs.cheaper.Goals as goal

pub returns-in_default : goal.returns-in_default
unfolding cheaper
returns-in_default c = search rules

pub returns-then-cost : goal.returns-then-cost
unfolding cheaper
returns-then-cost c = search (rules, lt-ltb)

pub returns-else-cost : goal.returns-else-cost
unfolding cheaper
returns-else-cost c = search (rules, le-ltb)
