-- `phi_action_helpers::add_column_in` meets its contract. Assumes nothing.
use native.Mathlib.Omega.{arith}
use Prim.Native.Nat.{◌+◌, ◌-◌}
use lib.Ieee.{nan}
use Rattle.lists.proofs.Loop.{started, turned, finished, read_here}
use Rattle.lists.proofs.Slices.{part_length, part_at}
use Rattle.phi_action_helpers.proofs.add_column_in.Goals as goal

pub loop-i-init : goal.loop-i-init
loop-i-init c = started _ _ _

pub loop-i-preserved : goal.loop-i-preserved
loop-i-preserved c =
    let a = c.args in
    let long = part_length a.p (a.p + a.n - a.p) a.vectors.now (omega arith) in
    turned c.loop-i.invariant (cc (read_here c.loop-i.invariant nan, part_at a.p (a.p + a.n - a.p) a.vectors.now c.loop-i.i nan (omega arith)))

pub returns : goal.returns
returns c =
    let a = c.args in
    let long = part_length a.p (a.p + a.n - a.p) a.vectors.now (omega arith) in
    finished c.loop-i.invariant a.n (omega arith) (omega arith)
