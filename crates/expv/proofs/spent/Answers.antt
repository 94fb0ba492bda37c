-- `expv::spent` meets its contract. Assumes nothing.
use mathlib.Core.Path.{refl}
use Rattle.krylov_advance.specs.Run.{spent}
use Rattle.krylov_advance.specs.Memory.{progress_at, end_at}
use Rattle.expv.proofs.spent.Goals as goal

pub returns-in-On : goal.returns-in-On
unfolding spent progress_at end_at
returns-in-On c = λ l k w. rw c.in-On.is refl

pub returns-in-Finished : goal.returns-in-Finished
unfolding spent progress_at end_at
returns-in-Finished c = λ l k w. rw c.in-Finished.is refl

pub returns-in-Refused : goal.returns-in-Refused
unfolding spent progress_at end_at
returns-in-Refused c = λ l k w. rw c.in-Refused.is refl
