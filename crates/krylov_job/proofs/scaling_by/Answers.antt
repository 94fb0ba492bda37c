-- `krylov_job::scaling_by` meets its contract. Assumes nothing.
use mathlib.Core.Path.{refl}
use Rattle.krylov_job.specs.Inner.{scaling_by}
use Rattle.krylov_job.proofs.scaling_by.Goals as goal

pub returns-in-None : goal.returns-in-None
unfolding scaling_by
returns-in-None c = rw c.in-None.is c.eta_scaling.ensures

pub returns-in-Some : goal.returns-in-Some
unfolding scaling_by
returns-in-Some c = rw c.in-Some.is refl
