-- `phi_krylov_arnoldi::first_length` meets its contract. Assumes nothing.
use Rattle.krylov_advance.specs.Run.{first_length}
use Rattle.phi_krylov_arnoldi.proofs.first_length.Goals as goal

pub returns : goal.returns
unfolding first_length
returns c = rw (← c.count-m1.ensures, ← c.power.ensures, ← c.sqrt.ensures, ← c.max.ensures, ← c.max-2.ensures, ← c.root.ensures) c.round2.ensures
