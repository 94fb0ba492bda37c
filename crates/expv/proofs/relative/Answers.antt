-- `expv::relative` meets its contract. Assumes nothing.
use mathlib.Core.Path.{refl}
use Rattle.krylov_advance.specs.Run.{scaled_back, back}
use Rattle.krylov_advance.specs.Memory.{end_at}
use Rattle.expv.proofs.relative.Goals as goal

pub returns-in-Finished : goal.returns-in-Finished
unfolding scaled_back back end_at
returns-in-Finished c = λ l k up w w₁ e. rw (c.in-Finished.is, c.relative_report.ensures, e) refl

pub returns-in-Refused : goal.returns-in-Refused
unfolding scaled_back back end_at
returns-in-Refused c = λ l k up w w₁ e. rw (c.in-Refused.is, c.relative_report-in-Refused.ensures, e) refl
