-- `krylov_job::check_options` meets its contract. Assumes nothing.
use Rattle.checks.proofs.First.{chain}
use Rattle.krylov_job.specs.KrylovCall.{option_checks}
use Rattle.krylov_job.proofs.check_options.Goals as goal

pub returns-then-not-in_unit : goal.returns-then-not-in_unit
unfolding option_checks
returns-then-not-in_unit c = search chain

pub returns-then-o-eq0 : goal.returns-then-o-eq0
unfolding option_checks
returns-then-o-eq0 c = search chain

pub returns-then-too_many : goal.returns-then-too_many
unfolding option_checks
returns-then-too_many c = search chain

pub returns : goal.returns
unfolding option_checks
returns c = search chain
