-- `phi_krylov_arnoldi::relative_report` meets its contract. Assumes nothing.
use mathlib.Core.Path.{refl}
use Rattle.krylov_advance.specs.Run.{relative_report}
use Rattle.phi_krylov_arnoldi.proofs.relative_report.Goals as goal

pub returns : goal.returns
unfolding relative_report
returns c = refl
