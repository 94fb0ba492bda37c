-- `expv::scaled_run` meets its contract. Assumes nothing.
use native.Mathlib.Omega.{arith}
use mathlib.Core.Path.{ap, ◌∙◌}
use Prim.Native.Nat.{◌+◌, ◌≤◌}
use lib.ListN.{length}
use Rattle.lists.proofs.Frame.{kept_on}
use Rattle.lists.proofs.Window.{part_window, part_back, length_splice}
use Rattle.vectors.specs.Vectors.{scale}
use Rattle.gram_schmidt.specs.Basis.{norm2}
use Rattle.gram_schmidt.proofs.Turns.{room_kept}
use Rattle.krylov_advance.proofs.Whole.{room_absolute, scaled_field, scaled_kept, scaled_is}
use Rattle.expv.proofs.scaled_run.Goals as goal

pub overflow_add-end : goal.overflow_add-end
overflow_add-end c = omega (arith, c.requires.room.then_av, c.requires.room.laid.av_in)

pub overflow_add-end-2 : goal.overflow_add-end-2
overflow_add-end-2 c = omega (arith, c.requires.room.then_av, c.requires.room.laid.av_in)

pub slice_bounds-scale-end : goal.slice_bounds-scale-end
slice_bounds-scale-end c = omega (arith, c.requires.room.then_av, c.requires.room.laid.av_in)

pub slice_bounds-norm2-end : goal.slice_bounds-norm2-end
slice_bounds-norm2-end c =
    let a = c.args in
    let room = c.requires.room in
    let few = c.requires.m_bound in
    let y = a.k.y in
    let len = a.o.l.n + a.o.l.d in
    let fits : y + len ≤ length a.work.now = omega (arith, room.then_av, room.laid.av_in) in
    let inside : y + len ≤ a.o.l.q = omega (arith, room.then_av, room.then_q) in
    let e₁ = part_back y len (scale a.f.down) _ a.work.now fits c.scale.auto.y c.scale.ensures in
    omega (arith, fits, ap length e₁ ∙ length_splice y _ a.work.now)

pub substeps-ended-requires : goal.substeps-ended-requires
substeps-ended-requires c =
    let a = c.args in
    let room = c.requires.room in
    let few = c.requires.m_bound in
    let y = a.k.y in
    let len = a.o.l.n + a.o.l.d in
    let fits : y + len ≤ length a.work.now = omega (arith, room.then_av, room.laid.av_in) in
    let inside : y + len ≤ a.o.l.q = omega (arith, room.then_av, room.then_q) in
    let e₁ = part_back y len (scale a.f.down) _ a.work.now fits c.scale.auto.y c.scale.ensures in
    let kept = scaled_kept a.o.l a.k a.f.down a.work.now _ fits e₁ inside in
    record { room = room_absolute _ (room_kept _ _ _ kept room); m_bound = (few.0, few.1) }

pub offset_bounds-work-y-3 : goal.offset_bounds-work-y-3
offset_bounds-work-y-3 c =
    let a = c.args in
    let room = c.requires.room in
    let few = c.requires.m_bound in
    let y = a.k.y in
    let len = a.o.l.n + a.o.l.d in
    let fits : y + len ≤ length a.work.now = omega (arith, room.then_av, room.laid.av_in) in
    let inside : y + len ≤ a.o.l.q = omega (arith, room.then_av, room.then_q) in
    let e₁ = part_back y len (scale a.f.down) _ a.work.now fits c.scale.auto.y c.scale.ensures in
    let n₁ = ap length e₁ ∙ length_splice y _ a.work.now in
    omega (arith, fits, n₁, c.substeps-ended.ensures.kept.long, c.well_formed.1.1.1.1.0)

pub slice_bounds-scale-end-2 : goal.slice_bounds-scale-end-2
slice_bounds-scale-end-2 c =
    let a = c.args in
    let room = c.requires.room in
    let few = c.requires.m_bound in
    let y = a.k.y in
    let len = a.o.l.n + a.o.l.d in
    let fits : y + len ≤ length a.work.now = omega (arith, room.then_av, room.laid.av_in) in
    let inside : y + len ≤ a.o.l.q = omega (arith, room.then_av, room.then_q) in
    let e₁ = part_back y len (scale a.f.down) _ a.work.now fits c.scale.auto.y c.scale.ensures in
    omega (arith, fits, ap length e₁ ∙ length_splice y _ a.work.now, c.substeps-ended.ensures.kept.long)

pub shape_of-work : goal.shape_of-work
shape_of-work c =
    let a = c.args in
    let room = c.requires.room in
    let few = c.requires.m_bound in
    let y = a.k.y in
    let len = a.o.l.n + a.o.l.d in
    let fits : y + len ≤ length a.work.now = omega (arith, room.then_av, room.laid.av_in) in
    let inside : y + len ≤ a.o.l.q = omega (arith, room.then_av, room.then_q) in
    let e₁ = part_back y len (scale a.f.down) _ a.work.now fits c.scale.auto.y c.scale.ensures in
    let n₁ = ap length e₁ ∙ length_splice y _ a.work.now in
    let r = c.substeps-ended.ensures.kept in
    let e₃ = part_back y len (scale a.f.up) _ _ (omega (arith, fits, n₁, r.long)) c.scale-2.auto.y c.scale-2.ensures in
    ap length e₃ ∙ length_splice y _ _ ∙ r.long ∙ n₁

pub returns : goal.returns
returns c =
    let a = c.args in
    let room = c.requires.room in
    let few = c.requires.m_bound in
    let y = a.k.y in
    let len = a.o.l.n + a.o.l.d in
    let fits : y + len ≤ length a.work.now = omega (arith, room.then_av, room.laid.av_in) in
    let inside : y + len ≤ a.o.l.q = omega (arith, room.then_av, room.then_q) in
    let e₁ = part_back y len (scale a.f.down) _ a.work.now fits c.scale.auto.y c.scale.ensures in
    let n₁ = ap length e₁ ∙ length_splice y _ a.work.now in
    let r = c.substeps-ended.ensures in
    let fits₂ : y + len ≤ length c.substeps-ended.new.work = omega (arith, fits, n₁, r.kept.long) in
    let e₃ = part_back y len (scale a.f.up) _ _ fits₂ c.scale-2.auto.y c.scale-2.ensures in
    let kept₁ = scaled_kept a.o.l a.k a.f.down a.work.now _ fits e₁ inside in
    let kept₃ = scaled_kept a.o.l a.k a.f.up _ _ fits₂ e₃ inside in
    let back = c.relative.ensures a.o.l a.k a.f.up _ _ (scaled_field a.o.l a.k a.f.up _ _ fits₂ e₃) in
    record { work_after = scaled_is a.o.l a.o.b a.k a.o.starts.now a.o.cols.now a.o.vals.now a.o.vectors.now a.limit a.f a.work.now _ few.2 fits inside e₁ (c.norm2-beta.ensures ∙ ap norm2 (part_window _ _ _)) _ _ _ _ back r.work_after; kept = kept_on kept₁ (kept_on r.kept kept₃) }
