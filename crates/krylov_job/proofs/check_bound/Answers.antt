-- `krylov_job::check_bound` meets its contract. Assumes nothing.
use Rattle.checks.proofs.First.{chain}
use Rattle.krylov_job.specs.KrylovCall.{bound_checks}
use Rattle.krylov_job.proofs.check_bound.Goals as goal

pub returns-then-not-is_finite : goal.returns-then-not-is_finite
unfolding bound_checks
returns-then-not-is_finite c = search chain

pub returns : goal.returns
unfolding bound_checks
returns c = search chain
