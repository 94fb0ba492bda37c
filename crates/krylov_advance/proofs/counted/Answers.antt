-- `krylov_advance::counted` meets its contract. Assumes nothing.
use native.Mathlib.Omega.{arith}
use mathlib.Core.Path.{◌≡◌, refl}
use Prim.Native.Nat.{suc, ◌+◌}
use Rattle.krylov_advance.specs.Run.{counted}
use Rattle.krylov_advance.proofs.counted.Goals as goal

pub returns : goal.returns
unfolding counted
returns c = let one : c.args.r.substeps + 1 ≡ suc c.args.r.substeps = omega arith in rw (one, c.shorter.ensures) refl
