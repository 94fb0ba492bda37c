-- `krylov_job::krylov_need` meets its contract. Assumes nothing.
use native.Mathlib.Omega.{arith}
use mathlib.Core.Path.{refl}
use Rattle.krylov_job.specs.KrylovCall.{krylov_need}
use Rattle.krylov_job.proofs.Places.{within}
use Rattle.krylov_job.proofs.krylov_need.Goals as goal

pub overflow_mul-result : goal.overflow_mul-result
overflow_mul-result c = omega (arith, within c.requires.0 c.requires.1 c.requires.2)

pub overflow_add-result-3 : goal.overflow_add-result-3
overflow_add-result-3 c = omega (arith, within c.requires.0 c.requires.1 c.requires.2)

pub overflow_mul-result-2 : goal.overflow_mul-result-2
overflow_mul-result-2 c = omega (arith, within c.requires.0 c.requires.1 c.requires.2)

pub overflow_add-result-6 : goal.overflow_add-result-6
overflow_add-result-6 c = omega (arith, within c.requires.0 c.requires.1 c.requires.2)

pub overflow_add-result-7 : goal.overflow_add-result-7
overflow_add-result-7 c = omega (arith, within c.requires.0 c.requires.1 c.requires.2)

pub returns : goal.returns
unfolding krylov_need
returns c = refl
