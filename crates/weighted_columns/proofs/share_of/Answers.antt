-- `weighted_columns::share_of` meets its contract. Assumes nothing.
use Rattle.combination.specs.Combination.{gain, weighed}
use Rattle.weighted_columns.proofs.share_of.Goals as goal

pub returns-then-w_sup : goal.returns-then-w_sup
unfolding gain weighed
returns-then-w_sup c = rw (← c.sup_of-w_sup.ensures, c.if-w_sup.true)

pub returns : goal.returns
unfolding gain weighed
returns c = rw (c.power-gain.ensures, ← c.sup_of-w_sup.ensures, c.if-w_sup.false)
