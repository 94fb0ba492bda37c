-- `krylov_job::too_many` meets its contract. Assumes nothing.
use borrow.Author.Tests.{lt-ltb, le-ltb}
use Rattle.krylov_job.proofs.too_many.Goals as goal

pub returns-then-m-gt128 : goal.returns-then-m-gt128
returns-then-m-gt128 c = rw (lt-ltb _ _ c.if-m-gt128.true)

pub returns-else-m-gt128 : goal.returns-else-m-gt128
returns-else-m-gt128 c = rw (le-ltb _ _ c.if-m-gt128.false)
