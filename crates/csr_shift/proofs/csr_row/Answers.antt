-- `csr_shift::csr_row` meets its contract. Assumes nothing.
use native.Mathlib.Omega.{arith}
use mathlib.Core.Path.{◌≡◌, refl, sym, ◌∙◌}
use Prim.Native.Nat.{◌+◌, ◌-◌}
use lib.Ieee.{nan}
use lib.ListN.{length}
use Rattle.std.proofs.lemmas.List.{length_push}
use Rattle.std.proofs.lemmas.Slice.Zip.{zip_turn, zip_end}
use Rattle.lists.proofs.Loop.{iter_none, iter_turn}
use Rattle.lists.specs.Window.{window}
use Rattle.general_operator.specs.Matrix.{matrix}
use Rattle.general_operator.specs.Csr.{start}
use Rattle.general_operator.proofs.Rows.{row_within}
use Rattle.csr_shift.specs.Shift.{csr_row}
use Rattle.csr_shift.proofs.Entry.{part, part_at, part_long, on_diagonal, off_diagonal}
use Rattle.csr_shift.proofs.csr_row.Goals as goal

pub slice_bounds-iter-end : goal.slice_bounds-iter-end
slice_bounds-iter-end c = omega (arith, row_within c.requires.valid c.args.i c.requires.i_lt_n, c.requires.valid.paired)

pub slice_bounds-zip-end : goal.slice_bounds-zip-end
slice_bounds-zip-end c = omega (arith, row_within c.requires.valid c.args.i c.requires.i_lt_n)

pub loop-c-init : goal.loop-c-init
loop-c-init c = sym (iter_none _ _)

pub loop-c-preserved-then-c-i : goal.loop-c-preserved-then-c-i
unfolding window
loop-c-preserved-then-c-i c =
    let a = c.args in
    let q = matrix a.q in
    let v = c.requires.valid in
    let l = c.requires.i_lt_n in
    let w = row_within v a.i l in
    let k = length c.loop-c.yielded in
    let t = zip_turn (part q a.i a.q.cols.now) (part q a.i a.q.vals.now) c.loop-c.yielded _ c.loop-c.c-iterator c.next.new.self _ (cc) (cc) c.loop-c.yielded_by _ c.in-Some.is c.next.ensures.steps in
    let column = part_at v a.i l a.q.cols.now (omega (arith, w.1, v.paired)) k 0 t.0 (t.2 0) in
    let entry = part_at v a.i l a.q.vals.now w.1 k nan t.1 (t.3 nan) in
    rw length_push
    (iter_turn _ _ _ _ _ c.loop-c.invariant (on_diagonal q a.i (start q a.i + k) _ (sym column ∙ c.if-c-i.true) (rw entry) refl))

pub loop-c-preserved : goal.loop-c-preserved
unfolding window
loop-c-preserved c =
    let a = c.args in
    let q = matrix a.q in
    let v = c.requires.valid in
    let l = c.requires.i_lt_n in
    let w = row_within v a.i l in
    let k = length c.loop-c.yielded in
    let t = zip_turn (part q a.i a.q.cols.now) (part q a.i a.q.vals.now) c.loop-c.yielded _ c.loop-c.c-iterator c.next.new.self _ (cc) (cc) c.loop-c.yielded_by _ c.in-Some.is c.next.ensures.steps in
    let column = part_at v a.i l a.q.cols.now (omega (arith, w.1, v.paired)) k 0 t.0 (t.2 0) in
    let entry = part_at v a.i l a.q.vals.now w.1 k nan t.1 (t.3 nan) in
    rw length_push
    (iter_turn _ _ _ _ _ c.loop-c.invariant (off_diagonal q a.i (start q a.i + k) _ (λ e. c.if-c-i.false (column ∙ e)) refl (rw (c.abs-rest.ensures, entry))))

pub returns : goal.returns
unfolding window csr_row
returns c =
    let a = c.args in
    let q = matrix a.q in
    let v = c.requires.valid in
    let l = c.requires.i_lt_n in
    let w = row_within v a.i l in
    let e = zip_end (part q a.i a.q.cols.now) (part q a.i a.q.vals.now) c.loop-c.yielded _ c.loop-c.c-iterator c.next.new.self _ (cc) (cc) c.loop-c.yielded_by c.in-None.is c.next.ensures.steps in
    let all : length c.loop-c.yielded ≡ start q (a.i + 1) - start q a.i = omega (arith, e, part_long v a.i l a.q.cols.now (omega (arith, w.1, v.paired)), part_long v a.i l a.q.vals.now w.1) in
    rw all at c.loop-c.invariant
