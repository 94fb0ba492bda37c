-- `phi_batch::sweep_batch` meets its contract. Assumes nothing.
use native.Mathlib.Omega.{arith}
use mathlib.Core.Path.{◌≡◌, ap, ◌∙◌}
use lib.ListN.{length}
use Rattle.lists.proofs.Bounds.{product_within, column_within}
use Rattle.lists.proofs.Window.{length_splice}
use Rattle.lists.proofs.Frame.{kept_on}
use Rattle.phi_action_helpers.proofs.Sweeps.{ready_kept}
use Rattle.phi_batch.proofs.Batch.{batch_began, batch_turn, batch_made, batch_counted, batch_fits, soak_counted, init_kept, field_within}
use Rattle.phi_batch.proofs.sweep_batch.Goals as goal

pub loop-k-init : goal.loop-k-init
loop-k-init c = (omega arith, batch_began _ _)

pub init_aug_vector-requires : goal.init_aug_vector-requires
init_aug_vector-requires c =
    let p = c.requires in
    (p.v_len.0, omega (arith, field_within p.ready p.lined.0, c.loop-k.invariant.1.kept.long, p.lined.3), omega (arith, c.loop-k-test.true, p.v_len.1))

pub overflow_mul-k : goal.overflow_mul-k
overflow_mul-k c =
    let p = c.requires in
    omega (arith, product_within {a = c.loop-k.k} 4 1000000 (omega (arith, c.loop-k.invariant.0, p.v_len.1)) p.ready.valid.few)

pub swept_out-applied-requires : goal.swept_out-applied-requires
swept_out-applied-requires c =
    let h = c.loop-k.invariant.1 in
    let a = c.args in
    let p = c.requires in
    let lo = ap length h.made ∙ length_splice 0 _ a.out.now in
    let here = column_within c.loop-k.k a.count a.x.o.l.n (omega (arith, c.loop-k-test.true)) in
    record { ready = ready_kept _ _ _ a.x.o.vectors.now (kept_on h.kept (init_kept a.x.o.vectors.now a.inv c.loop-k.k p.lined.0 p.lined.3 p.v_len.0 c.init_aug_vector.ensures)) p.ready; lined = (p.lined.0, p.lined.2, omega (arith, lo, here, p.v_len.2)) }

pub overflow_add-applied : goal.overflow_add-applied
overflow_add-applied c =
    let a = c.args in
    let p = c.requires in
    let so_far = c.loop-k.invariant.1.counted ∙ batch_counted _ a.x.tau a.x.o.vectors.now a.inv a.x.p c.loop-k.k in
    let more = c.swept_out-applied.ensures.value ∙ soak_counted _ a.x.tau _ a.x.p in
    let few = batch_fits a.x.p c.loop-k.k (omega (arith, c.loop-k.invariant.0, p.v_len.1)) p.lined.1 p.lined.2 in
    let one = product_within 4294967295 30 p.lined.1 p.lined.2 in
    omega (arith, so_far, more, few, one)

pub loop-k-preserved : goal.loop-k-preserved
loop-k-preserved c =
    let h = c.loop-k.invariant.1 in
    let p = c.requires in
    let w = c.swept_out-applied.ensures in
    (omega (arith, c.loop-k-test.true), batch_turn h p.lined.0 p.lined.3 p.v_len.0 (omega (arith, field_within p.ready p.lined.0, h.kept.long, p.lined.3)) c.init_aug_vector.ensures w.value w.out_after w.kept)

pub shape_of-out : goal.shape_of-out
shape_of-out c = ap length c.loop-k.invariant.1.made ∙ length_splice 0 _ c.args.out.now

pub returns : goal.returns
returns c =
    let p = c.requires in
    let e : c.loop-k.k ≡ c.args.count = omega arith in
    let d = rw e at c.loop-k.invariant.1 in
    record { value = d.counted; out_after = batch_made d p.lined.3 p.v_len.0 p.v_len.2; kept = d.kept }
