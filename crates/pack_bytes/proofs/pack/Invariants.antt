-- `pack_bytes::pack` meets its contract. Assumes nothing.
use Prim.Native.Nat.{◌*◌}
use Rattle.lists.proofs.Loop.{Filled}
use Rattle.pack_bytes.proofs.Packing.{byte_of}
use Rattle.pack_bytes.proofs.pack.Given as goal

abbrev pub invariant-loop-k : goal.invariant-loop-k
invariant-loop-k g l =
    let m = g.T.LittleEndian.SIZE in
    Filled 0 (m * l.k) (byte_of m g.T.Packed.byte g.T.Packed.beyond l.src l.initial.dst) l.initial.dst l.dst
