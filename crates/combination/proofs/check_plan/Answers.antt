-- `combination::check_plan` meets its contract. Assumes nothing.
use Rattle.checks.proofs.First.{passed_on, refused_up, sound_on}
use mathlib.Core.Path.{refl}
use Rattle.combination.specs.Checks.{plan_checks}
use Rattle.combination.proofs.check_plan.Goals as goal

pub returns-in_err-check_time : goal.returns-in_err-check_time
unfolding plan_checks
returns-in_err-check_time c = rw (passed_on c.from_residual.ensures.1) (refused_up _ _ refl c.in_err-check_time.ensures)

pub returns : goal.returns
unfolding plan_checks
returns c = sound_on _ _ refl c.in_ok-check_time.ensures c.check_degree.ensures
