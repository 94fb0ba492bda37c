-- `weighted_columns::weigh` meets its contract. Assumes nothing.
use Rattle.weighted_columns.proofs.Gains.{own_weights}
use Rattle.weighted_columns.proofs.weigh.Goals as goal

pub returns : goal.returns
returns c =
    let e = c.powers_of-p.ensures in
    search (own_weights, c.weigh_by.ensures _ _ e)
