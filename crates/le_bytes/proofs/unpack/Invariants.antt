-- `le_bytes::unpack` meets its contract. Assumes nothing.
use Prim.Native.Nat.{◌*◌}
use Rattle.lists.proofs.Loop.{Filled}
use Rattle.le_bytes.proofs.unpack.Given as goal

abbrev pub invariant-loop-k : goal.invariant-loop-k
invariant-loop-k g l = Filled 0 l.k (λ j. g.T.LittleEndian.read l.src (g.T.LittleEndian.SIZE * j)) l.initial.dst l.dst
