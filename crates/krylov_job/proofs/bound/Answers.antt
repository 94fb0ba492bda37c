-- `krylov_job::bound` meets its contract. Assumes nothing.
use mathlib.Core.Path.{refl}
use Rattle.krylov_job.specs.KrylovCall.{bound}
use Rattle.krylov_job.proofs.bound.Goals as goal

pub returns : goal.returns
unfolding bound
returns c = refl
