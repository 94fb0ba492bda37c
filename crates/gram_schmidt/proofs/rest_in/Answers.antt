-- `gram_schmidt::rest_in` meets its contract. Assumes nothing.
use borrow.Author.Rules.{rules}
use native.Mathlib.Omega.{arith}
use Prim.Native.Nat.{◌+◌}
use Rattle.lists.proofs.Bounds.{column_within}
use Rattle.gram_schmidt.proofs.Turns.{rested}
use Rattle.gram_schmidt.proofs.rest_in.Goals as goal

pub orthogonal-requires : goal.orthogonal-requires
orthogonal-requires c =
    let f = column_within c.args.j (c.args.k.m + 1) (c.args.o.l.n + c.args.o.l.d) (omega arith) in
    record { len_bound = omega arith; len_bound_2 = omega arith; dim_in_bounds = omega arith; j_lt_dim = omega arith }

pub returns : goal.returns
returns c = rested _ _ _ _ _ _ _ _ _ _ _ c.requires.room c.requires.j_le_m c.apply_in.ensures c.orthogonal.ensures
