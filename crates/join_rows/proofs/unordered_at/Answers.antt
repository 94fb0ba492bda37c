-- `join_rows::unordered_at` meets its contract. Assumes nothing.
use native.Mathlib.Omega.{arith}
use Rattle.join_rows.proofs.Order.{row_told}
use Rattle.join_rows.proofs.unordered_at.Goals as goal

pub slice_bounds-row_unordered-start : goal.slice_bounds-row_unordered-start
slice_bounds-row_unordered-start c = omega (arith, c.requires.rows.rising c.args.i c.requires.i_lt_n)

pub slice_bounds-row_unordered-end : goal.slice_bounds-row_unordered-end
slice_bounds-row_unordered-end c = omega (arith, c.requires.rows.within c.args.i c.requires.i_lt_n)

pub returns : goal.returns
returns c = row_told c.args.cols.now _ _ (c.requires.rows.rising c.args.i c.requires.i_lt_n) (c.requires.rows.within c.args.i c.requires.i_lt_n) _ c.row_unordered.ensures
