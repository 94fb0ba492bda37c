-- `stored_quotients::normalise_rows` meets its contract. Assumes nothing.
use native.Mathlib.Omega.{arith}
use Prim.Native.Nat.{◌-◌}
use Rattle.lists.proofs.Loop.{started, finished}
use Rattle.general_operator.proofs.Rows.{rises, start_le, row_within}
use Rattle.generator_action.specs.Mass.{normalise}
use Rattle.generator_action.proofs.Quotients.{row_filled}
use Rattle.stored_quotients.proofs.normalise_rows.Goals as goal

pub loop-i-init : goal.loop-i-init
loop-i-init c = (omega arith, rw c.requires.starts_value.0 (started _ _ _))

pub overflow_add-q_at : goal.overflow_add-q_at
overflow_add-q_at c = omega (arith, row_within c.requires.valid c.loop-i.i (omega arith))

pub divide_row-requires : goal.divide_row-requires
divide_row-requires c = omega (arith, row_within c.requires.valid c.loop-i.i (omega arith))

pub loop-i-preserved : goal.loop-i-preserved
loop-i-preserved c = (omega arith, row_filled c.requires.valid c.args.mass.now (omega arith) c.loop-i.invariant.1 c.divide_row.ensures)

pub returns : goal.returns
unfolding normalise
returns c =
    let v = c.requires.valid in
    finished c.loop-i.invariant.1 _ (start_le v c.loop-i.i c.loop-i.invariant.0) (omega (arith, v.last, rises v c.args.q.n c.loop-i.i (omega arith) c.loop-i.invariant.0))
