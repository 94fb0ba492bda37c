-- `krylov_run::answer_of` meets its contract. Assumes nothing.
use mathlib.Core.Path.{refl}
use Rattle.krylov_job.specs.Inner.{answer_of}
use Rattle.krylov_run.proofs.answer_of.Goals as goal

pub returns-in-Finished : goal.returns-in-Finished
unfolding answer_of
returns-in-Finished c = rw c.in-Finished.is refl

pub returns-in-Refused : goal.returns-in-Refused
unfolding answer_of
returns-in-Refused c = rw c.in-Refused.is refl
