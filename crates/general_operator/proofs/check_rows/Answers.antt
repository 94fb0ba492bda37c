-- `general_operator::check_rows` meets its contract. Assumes nothing.
use Rattle.checks.proofs.First.{ends_sound, passes_none, stops_place}
use Rattle.general_operator.specs.Checks.{row_checks}
use Rattle.general_operator.proofs.check_rows.Goals as goal

pub returns-in-Some : goal.returns-in-Some
unfolding row_checks
returns-in-Some c = stops_place _ _ _ _ c.in-Some.ensures c.count.ensures

pub returns : goal.returns
unfolding row_checks
returns c = passes_none _ _ _ _ _ c.in_default.ensures ends_sound
