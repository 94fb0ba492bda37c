-- `gram_schmidt::apply_in` meets its contract. Assumes nothing.
use borrow.Author.Rules.{rules}
use native.Mathlib.Omega.{arith}
use Prim.Native.Nat.{◌+◌, ◌*◌, ◌≤◌}
use mathlib.Core.Path.{refl}
use Rattle.lists.proofs.Bounds.{column_within}
use Rattle.gram_schmidt.specs.Basis.{apply}
use Rattle.gram_schmidt.specs.Memory.{column}
use Rattle.gram_schmidt.proofs.apply_in.Goals as goal

pub overflow_mul-j : goal.overflow_mul-j
overflow_mul-j c =
    let col : (let a = c.args in a.j * (a.o.l.n + a.o.l.d) + (a.o.l.n + a.o.l.d) ≤ a.o.l.w) = omega (arith, column_within c.args.j (c.args.k.m + 1) (c.args.o.l.n + c.args.o.l.d) (omega arith)) in
    omega (arith, col)

pub aug_product-requires : goal.aug_product-requires
aug_product-requires c =
    let col : (let a = c.args in a.j * (a.o.l.n + a.o.l.d) + (a.o.l.n + a.o.l.d) ≤ a.o.l.w) = omega (arith, column_within c.args.j (c.args.k.m + 1) (c.args.o.l.n + c.args.o.l.d) (omega arith)) in
    record { ready = c.requires.room.laid; d_bound = (col, omega arith, refl) }

pub returns : goal.returns
unfolding apply column
returns c = c.aug_product.ensures
