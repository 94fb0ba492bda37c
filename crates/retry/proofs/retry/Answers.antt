-- `retry::retry` meets its contract. Assumes nothing.
use borrow.Author.Rules.{rules}
use Rattle.retry.specs.Retry.{retry}
use Rattle.retry.proofs.retry.Goals as goal

pub returns : goal.returns
unfolding retry
returns c = rw (← c.root.ensures) c.round2.ensures
