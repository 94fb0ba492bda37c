-- `arnoldi::end` meets its contract. Assumes nothing.
use native.Mathlib.Omega.{arith}
use Prim.Native.Nat.{◌+◌, ◌*◌}
use Rattle.doubles.specs.F64.{1f}
use lib.ListN.{length-set}
use Rattle.gram_schmidt.proofs.Turns.{room_kept, cornered, ended}
use Rattle.arnoldi.proofs.end.Goals as goal

pub apply_in-requires : goal.apply_in-requires
apply_in-requires c =
    let a = c.args in
    record { room = room_kept _ _ _ (cornered a.o.l a.o.b a.k _ _ _ a.o.vectors.now _ c.requires).kept c.requires; j_le_m = omega arith }

pub shape_of-work : goal.shape_of-work
shape_of-work c =
    let a = c.args in
    omega (arith, length-set a.work.now (a.k.h + (a.k.m * (a.k.m + 2) + (a.k.m + 1))) 1f)

pub returns : goal.returns
returns c = ended _ _ _ _ _ _ _ _ _ _ c.requires c.apply_in.ensures c.norm2.ensures
