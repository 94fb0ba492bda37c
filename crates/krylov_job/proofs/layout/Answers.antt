-- `krylov_job::layout` meets its contract. Assumes nothing.
use native.Mathlib.Omega.{arith}
use Rattle.krylov_job.proofs.Places.{within}
use Rattle.krylov_job.proofs.layout.Goals as goal

pub overflow_mul-av : goal.overflow_mul-av
overflow_mul-av c = omega (arith, within c.requires.0 c.requires.1 c.requires.2)

pub overflow_mul-av-2 : goal.overflow_mul-av-2
overflow_mul-av-2 c = omega (arith, within c.requires.0 c.requires.1 c.requires.2)

pub overflow_add-av-5 : goal.overflow_add-av-5
overflow_add-av-5 c = omega (arith, within c.requires.0 c.requires.1 c.requires.2)

pub overflow_mul-result : goal.overflow_mul-result
overflow_mul-result c = omega (arith, within c.requires.0 c.requires.1 c.requires.2)

pub overflow_add-result-3 : goal.overflow_add-result-3
overflow_add-result-3 c = omega (arith, within c.requires.0 c.requires.1 c.requires.2)
