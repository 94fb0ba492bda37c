-- `basis_column::grow` meets its contract. Assumes nothing.
use native.Mathlib.Omega.{arith}
use Prim.Native.Nat.{◌+◌}
use Rattle.lists.proofs.Bounds.{column_within}
use Rattle.gram_schmidt.proofs.Turns.{at_break, at_column}
use Rattle.basis_column.proofs.grow.Goals as goal

pub returns-then-breaks : goal.returns-then-breaks
returns-then-breaks c =
    let a = c.args in
    let t = c.rest_in.ensures in
    record { work_after = at_break a.o.l a.o.b a.k _ _ a.beta a.j a.applied _ _ _ _ t c.norm2-hn.ensures (c.breaks.ensures _ _ _ _ _) c.if-breaks.true; within = (omega arith, t.spared) }

pub push-requires : goal.push-requires
push-requires c =
    let f = column_within (c.args.j + 1) (c.args.k.m + 1) (c.args.o.l.n + c.args.o.l.d) (omega arith) in
    record { len_bound = omega (arith, c.rest_in.ensures.spared.kept.long); len_bound_2 = omega (arith, c.rest_in.ensures.spared.kept.long); dim_in_bounds = omega (arith, c.rest_in.ensures.spared.kept.long); j_bound = omega (arith, c.rest_in.ensures.spared.kept.long) }

pub overflow_add-result-2 : goal.overflow_add-result-2
overflow_add-result-2 c = omega (arith, c)

pub returns : goal.returns
returns c =
    let a = c.args in
    let g = at_column a.o.l a.o.b a.k _ _ a.beta a.j a.applied _ _ _ _ _ c.requires.room c.requires.j_lt_m.0 c.rest_in.ensures c.norm2-hn.ensures (c.breaks.ensures _ _ _ _ _) c.if-breaks.false c.push.ensures in
    record { work_after = g.0; within = (omega arith, g.1) }
