-- `krylov_job::krylov` meets its contract. Assumes nothing.
use native.Mathlib.Omega.{arith}
use Rattle.krylov_job.proofs.Places.{within}
use Rattle.krylov_job.proofs.krylov.Goals as goal

pub overflow_mul-h : goal.overflow_mul-h
overflow_mul-h c = omega (arith, within c.requires.0 c.requires.1 c.requires.2)

pub overflow_mul-result : goal.overflow_mul-result
overflow_mul-result c = omega (arith, within c.requires.0 c.requires.1 c.requires.2)

pub overflow_add-result-3 : goal.overflow_add-result-3
overflow_add-result-3 c = omega (arith, within c.requires.0 c.requires.1 c.requires.2)
