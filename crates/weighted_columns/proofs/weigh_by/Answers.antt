-- `weighted_columns::weigh_by` meets its contract. Assumes nothing.
use Rattle.checks.proofs.First.{passed_on}
use Rattle.weighted_columns.proofs.Gains.{weighed_err, weighed_is}
use Rattle.weighted_columns.proofs.weigh_by.Goals as goal

pub returns-in_err-check_magnitude : goal.returns-in_err-check_magnitude
returns-in_err-check_magnitude c f tau e =
    let a = c.args in
    rw (passed_on c.from_residual.ensures.1)
    (weighed_err a.n f tau a.d c.requires.1 a.eta e c.check_magnitude.ensures c.in_err-check_magnitude.was)

pub returns : goal.returns
returns c f tau e =
    let a = c.args in
    weighed_is a.n f tau a.d c.requires.1 a.eta e c.check_magnitude.ensures c.in_ok-check_magnitude.was c.column_places.ensures c.scaled_gains.ensures
