-- `join_rows::check_row_values` meets its contract. Assumes nothing.
use mathlib.Core.Path.{sym, ap, ◌∙◌}
use mathlib.Core.Bool.{not}
use native.Mathlib.Omega.{arith}
use Rattle.join_rows.proofs.Steps.{less}
use Rattle.join_rows.proofs.Passes.{fine_start, fine_next, fine_end, fine_stop, ends_within, places_within, value_asked}
use Rattle.join_rows.proofs.check_row_values.Goals as goal

pub row_start-m-requires : goal.row_start-m-requires
row_start-m-requires c =
    let p = c.requires in
    omega (arith, p.joinable.is_in_a.rows.rows, p.joinable.is_in_b.rows.rows)

pub loop-m-init : goal.loop-m-init
loop-m-init c =
    let p = c.requires in
    fine_start p.joinable p.i_lt_n c.row_start-m.ensures

pub next_column-x-requires : goal.next_column-x-requires
next_column-x-requires c =
    let p = c.requires in
    ends_within p.joinable.is_in_a p.joinable.is_in_b p.i_lt_n c.loop-m.invariant.merging

pub returns-then-x-n : goal.returns-then-x-n
returns-then-x-n c =
    let p = c.requires in
    fine_end p.joinable p.i_lt_n c.loop-m.invariant c.next_column-x.ensures c.if-x-n.true

pub value_at-value-requires : goal.value_at-value-requires
value_at-value-requires c =
    let p = c.requires in
    let r = value_asked p.joinable p.i_lt_n c.loop-m.invariant.merging c.next_column-x.ensures (omega (arith, c.if-x-n.false)) in record { p_in_bounds = r.0; q_in_bounds = r.1.0; in_b_value = r.1.1 }

pub returns-then-not-is_finite : goal.returns-then-not-is_finite
returns-then-not-is_finite c =
    let p = c.requires in
    fine_stop p.joinable p.i_lt_n c.loop-m.invariant c.next_column-x.ensures (omega (arith, c.if-x-n.false)) c.value_at-value.ensures (ap not (sym c.is_finite.ensures) ∙ (ap not c.if-not-is_finite.true))

pub advance-m-requires : goal.advance-m-requires
advance-m-requires c =
    let p = c.requires in
    omega (arith, places_within p.joinable.is_in_a p.joinable.is_in_b p.i_lt_n c.loop-m.invariant.merging)

pub loop-m-smaller : goal.loop-m-smaller
loop-m-smaller c =
    let p = c.requires in
    less p.joinable.is_in_a p.joinable.is_in_b p.i_lt_n c.loop-m.invariant.merging c.next_column-x.ensures (omega (arith, c.if-x-n.false)) c.advance-m.ensures

pub loop-m-preserved : goal.loop-m-preserved
loop-m-preserved c =
    let p = c.requires in
    fine_next p.joinable p.i_lt_n c.loop-m.invariant c.next_column-x.ensures (omega (arith, c.if-x-n.false)) c.value_at-value.ensures (ap not (sym c.is_finite.ensures) ∙ (ap not c.if-not-is_finite.false)) c.advance-m.ensures
