-- `join_rows::count_row` meets its contract. Assumes nothing.
use Rattle.join_rows.proofs.Passes.{places_within, ends_within, counted_start, counted_few, counted_next, counted_end}
use Rattle.join_rows.proofs.Steps.{less}
use native.Mathlib.Omega.{arith}
use Rattle.join_rows.proofs.count_row.Goals as goal

pub row_start-m-requires : goal.row_start-m-requires
row_start-m-requires c =
    let p = c.requires in
    omega (arith, p.ordered.rows.rows, p.ordered_2.rows.rows)

pub loop-m-init : goal.loop-m-init
loop-m-init c =
    let p = c.requires in
    counted_start p.ordered p.ordered_2 p.i_lt_n c.row_start-m.ensures

pub next_column-x-requires : goal.next_column-x-requires
next_column-x-requires c =
    let p = c.requires in
    ends_within p.ordered p.ordered_2 p.i_lt_n c.loop-m.invariant.merging

pub returns-then-x-n : goal.returns-then-x-n
returns-then-x-n c =
    let p = c.requires in
    counted_end p.ordered p.ordered_2 p.i_lt_n c.loop-m.invariant c.next_column-x.ensures c.if-x-n.true

pub overflow_add-count : goal.overflow_add-count
overflow_add-count c =
    let p = c.requires in
    omega (arith, counted_few p.ordered p.ordered_2 p.i_lt_n c.loop-m.invariant, p.ordered.rows.few)

pub advance-m-requires : goal.advance-m-requires
advance-m-requires c =
    let p = c.requires in
    omega (arith, places_within p.ordered p.ordered_2 p.i_lt_n c.loop-m.invariant.merging)

pub loop-m-smaller : goal.loop-m-smaller
loop-m-smaller c =
    let p = c.requires in
    less p.ordered p.ordered_2 p.i_lt_n c.loop-m.invariant.merging c.next_column-x.ensures (omega (arith, c.if-x-n.false)) c.advance-m.ensures

pub loop-m-preserved : goal.loop-m-preserved
loop-m-preserved c =
    let p = c.requires in
    counted_next p.ordered p.ordered_2 p.i_lt_n c.loop-m.invariant c.next_column-x.ensures (omega (arith, c.if-x-n.false)) c.advance-m.ensures
