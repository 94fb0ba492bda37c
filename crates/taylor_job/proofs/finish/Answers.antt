-- `taylor_job::finish` meets its contract. Assumes nothing.
use mathlib.Core.Path.{refl}
use Rattle.combination.specs.Call.{cleared}
use Rattle.taylor_job.proofs.finish.Goals as goal

pub returns : goal.returns
unfolding cleared
returns c = record { value = refl; work_after = c.clear_in.ensures }
