-- `generator_checks::check_mass` meets its contract. Assumes nothing.
use Rattle.checks.proofs.First.{chain, passes_none}
use Rattle.generator_action.specs.Mass.{mass_checks}
use Rattle.generator_checks.proofs.check_mass.Goals as goal

pub returns-then-mass-n : goal.returns-then-mass-n
unfolding mass_checks
returns-then-mass-n c columns entries = search chain

pub returns-in-Some : goal.returns-in-Some
unfolding mass_checks
returns-in-Some c columns entries = search (chain, c.in-Some.ensures)

pub returns-then-starts-ne0 : goal.returns-then-starts-ne0
unfolding mass_checks
returns-then-starts-ne0 c columns entries = search (chain, passes_none, c.in_default.ensures)

pub returns : goal.returns
unfolding mass_checks
returns c columns entries = search (chain, passes_none, c.in_default.ensures)
