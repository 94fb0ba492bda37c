-- `expv::substeps` meets its contract. Assumes nothing.
use native.Mathlib.Omega.{arith}
use mathlib.Core.Path.{refl, ap, ◌∙◌}
use Rattle.lists.proofs.Window.{part_window}
use Rattle.phi_action_helpers.specs.Laid.{matrix_in}
use Rattle.gram_schmidt.specs.Basis.{norm2}
use Rattle.krylov_advance.specs.Run.{spent}
use Rattle.krylov_advance.proofs.Whole.{begins}
use Rattle.expv.proofs.substeps.Goals as goal

pub overflow_add-end : goal.overflow_add-end
overflow_add-end c = omega (arith, c.requires.room.then_av, c.requires.room.laid.av_in)

pub overflow_add-end-2 : goal.overflow_add-end-2
overflow_add-end-2 c = omega (arith, c.requires.room.then_av, c.requires.room.laid.av_in)

pub slice_bounds-norm2-end : goal.slice_bounds-norm2-end
slice_bounds-norm2-end c = omega (arith, c.requires.room.then_av, c.requires.room.laid.av_in)

pub first_length-requires : goal.first_length-requires
first_length-requires c = c.requires.m_bound.0

pub run_substeps-requires : goal.run_substeps-requires
run_substeps-requires c = record { room = c.requires.room; m_bound = (c.requires.m_bound.0, c.requires.m_bound.1, refl, refl, refl) }

pub shape_of-work : goal.shape_of-work
shape_of-work c = c.run_substeps.ensures.kept.long

pub returns : goal.returns
returns c =
    let a = c.args in
    let r = c.run_substeps.ensures in
    let q = matrix_in a.o a.work.now in
    record { work_after = c.spent.ensures a.o.l a.k _ ∙ ap spent r.work_after ∙ begins a.o.l a.o.b a.k q a.o.vectors.now a.work.now a.limit (c.norm2-beta.ensures ∙ ap norm2 (part_window _ _ _)) c.first_length.ensures; kept = r.kept }
