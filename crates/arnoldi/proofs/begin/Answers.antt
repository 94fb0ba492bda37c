-- `arnoldi::begin` meets its contract. Assumes nothing.
use native.Mathlib.Omega.{arith}
use Prim.Native.Nat.{◌*◌}
use mathlib.Core.Path.{refl}
use lib.ListN.{replicate, length-replicate}
use Rattle.lists.proofs.Frame.{wrote, untouched}
use Rattle.lists.proofs.Window.{part_filled}
use Rattle.doubles.specs.F64.{+0}
use Rattle.arnoldi.proofs.begin.Goals as goal

pub returns : goal.returns
returns c =
    let a = c.args in
    let dd = a.dim * a.dim in
    rw (c.scaled_in.ensures, part_filled a.h_at dd +0 _ a.work.now (omega arith) c.clear.auto.w c.clear.ensures, untouched (wrote a.h_at dd (replicate dd +0) a.work.now _ (length-replicate dd +0) refl) a.y_at a.len (omega arith))
