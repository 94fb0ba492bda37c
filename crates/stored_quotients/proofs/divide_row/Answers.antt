-- `stored_quotients::divide_row` meets its contract. Assumes nothing.
use native.Mathlib.Omega.{arith}
use Prim.Native.Nat.{◌-◌}
use lib.Ieee.{nan}
use Rattle.lists.proofs.Loop.{started, turned, finished}
use Rattle.lists.proofs.Slices.{part_length, part_at}
use Rattle.stored_quotients.proofs.divide_row.Goals as goal

pub loop-k-init : goal.loop-k-init
loop-k-init c = started _ _ _

pub loop-k-preserved : goal.loop-k-preserved
loop-k-preserved c =
    let a = c.args in
    let long = part_length a.from (a.to - a.from) a.vals.now (omega arith) in
    turned c.loop-k.invariant (rw (part_at a.from (a.to - a.from) a.vals.now c.loop-k.k nan (omega arith)))

pub returns : goal.returns
returns c =
    let a = c.args in
    let long = part_length a.from (a.to - a.from) a.vals.now (omega arith) in
    finished c.loop-k.invariant _ (omega arith) (omega arith)
