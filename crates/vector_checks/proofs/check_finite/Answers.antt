-- `vector_checks::check_finite` meets its contract. Assumes nothing.
use Rattle.checks.proofs.First.{ends_sound, passes_none, stops_position}
use Rattle.combination.specs.Checks.{finite_checks}
use Rattle.vector_checks.proofs.check_finite.Goals as goal

pub returns-in-Some : goal.returns-in-Some
unfolding finite_checks
returns-in-Some c = stops_position _ _ _ _ _ c.in-Some.ensures

pub returns : goal.returns
unfolding finite_checks
returns c = passes_none _ _ _ _ _ c.in_default.ensures ends_sound
