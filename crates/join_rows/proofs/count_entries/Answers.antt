-- `join_rows::count_entries` meets its contract. Assumes nothing.
use native.Mathlib.Omega.{arith}
use Prim.Native.Nat.{◌-◌}
use Rattle.join_rows.proofs.Passes.{counted_rows_start, counted_rows_fit, counted_rows_next, counted_rows_end}
use Rattle.join_rows.proofs.count_entries.Goals as goal

pub loop-i-init : goal.loop-i-init
loop-i-init c = counted_rows_start _ _ _ _ _

pub count_row-count-requires : goal.count_row-count-requires
count_row-count-requires c =
    let p = c.requires in
    record { ordered = p.ordered; ordered_2 = p.ordered_2; i_lt_n = omega arith }

pub overflow_add-count : goal.overflow_add-count
overflow_add-count c = omega (arith, counted_rows_fit c.loop-i.invariant (omega arith) c.count_row-count.ensures c.requires.ordered.rows.few)

pub loop-i-preserved : goal.loop-i-preserved
loop-i-preserved c = counted_rows_next c.loop-i.invariant (omega arith) c.count_row-count.ensures

pub returns : goal.returns
returns c = counted_rows_end c.loop-i.invariant (omega arith)
