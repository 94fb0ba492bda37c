-- `hess_product::hess_product_in` meets its contract. Assumes nothing.
use native.Mathlib.Omega.{arith}
use Prim.Native.Nat.{◌+◌, ◌*◌, ◌/◌}
use mathlib.Core.Path.{◌≡◌}
use Rattle.hess_rows.proofs.InPlace.{placed_start, row_turn, rows_turn, placed_end}
use Rattle.hess_product.proofs.hess_product_in.Goals as goal

pub loop-b-init : goal.loop-b-init
loop-b-init c = placed_start _ _ _ _ _ _

pub loop-b-preserved : goal.loop-b-preserved
loop-b-preserved c =
    let e = c.eight_rows-s.ensures in
    let next : 8 * (c.loop-b.b + 1) ≡ 8 * c.loop-b.b + 8 = omega arith in
    rw (next, c.put_four-in-loop-b.ensures, c.put_four.ensures) (rows_turn _ _ _ _ _ c.loop-b.invariant (omega arith) e.upper_value e.lower_value)

pub loop-r-init : goal.loop-r-init
loop-r-init c =
    let e : c.loop-b.b ≡ c.args.mx / 8 = omega arith in
    rw e at c.loop-b.invariant

pub loop-r-preserved : goal.loop-r-preserved
loop-r-preserved c = row_turn _ _ _ _ _ c.loop-r.invariant (omega arith) c.row_part-s.ensures

pub returns : goal.returns
returns c = placed_end _ _ _ _ _ c.loop-r.invariant (omega arith) c.requires.w_len
