-- `le_bytes::unpack` meets its contract. Assumes nothing.
use mathlib.Core.Path.{sym, ◌∙◌}
use native.Mathlib.Omega.{arith}
use Rattle.lists.proofs.Loop.{started, turned₀, finished_all}
use Rattle.le_bytes.proofs.unpack.Goals as goal

pub loop-k-init : goal.loop-k-init
loop-k-init g c = started _ _ _

pub loop-k-preserved : goal.loop-k-preserved
loop-k-preserved g c = turned₀ c.loop-k.invariant (rw (← c.SIZE.ensures) c.read.ensures)

pub returns : goal.returns
returns g c = finished_all c.loop-k.invariant _ (omega arith) (omega arith) c.requires ∙ sym (g.met.T.LittleEndian.read_each c.args.src.now)
