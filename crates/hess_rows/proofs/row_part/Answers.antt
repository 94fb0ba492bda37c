-- `hess_rows::row_part` meets its contract. Assumes nothing.
use native.Mathlib.Omega.{arith}
use Prim.Native.Nat.{◌+◌, ◌-◌}
use mathlib.Core.Path.{◌≡◌, sym, ◌∙◌}
use Rattle.lists.proofs.Bounds.{cell_within}
use Rattle.lists.proofs.Folds.{length_part}
use Rattle.hess_rows.proofs.Rows.{part_none, part_more, row_within}
use Rattle.hess_rows.proofs.row_part.Goals as goal

pub left_product-s-requires : goal.left_product-s-requires
left_product-s-requires c = λ l. omega (arith, cell_within (c.args.r - 1) c.args.to c.args.dim c.args.r (omega arith) (omega arith), c.requires.leading.down)

pub loop-k-init : goal.loop-k-init
loop-k-init c =
    let e : c.args.r + 0 ≡ c.args.r = omega arith in
    rw e (c.left_product-s.ensures ∙ sym (part_none _ _ _ _ _))

pub bounds-h-r : goal.bounds-h-r
bounds-h-r c = row_within c.requires.leading c.args.w.now _ _ (omega arith) (omega arith) c.loop-k-test.true

pub loop-k-preserved : goal.loop-k-preserved
loop-k-preserved c = part_more _ _ _ _ _ _ _ c.loop-k-test.true (omega arith) c.loop-k.invariant

pub returns : goal.returns
returns c =
    let a = c.args in
    let e : a.r + c.loop-k.k ≡ a.to = omega (arith, length_part a.r a.to a.w.now (omega arith)) in
    rw e at c.loop-k.invariant
