-- `phi_krylov_arnoldi::substep` meets its contract. Assumes nothing.
use native.Mathlib.Omega.{arith}
use mathlib.Core.Path.{refl, sym, ap, subst, ◌∙◌}
use Prim.Native.Nat.{ℕ, ◌+◌, ◌*◌, ◌≤◌}
use lib.ListN.{length}
use Rattle.lists.proofs.Bounds.{product_within}
use Rattle.lists.proofs.Frame.{kept_on}
use Rattle.lists.proofs.Window.{part_window, length_window}
use Rattle.phi_action_helpers.specs.Laid.{matrix_in}
use Rattle.trial_steps.specs.Memory.{Within, columns_in}
use Rattle.krylov_advance.proofs.Settled.{columns_few, columns_within, products_few, after_rejections, after_no_plan, after_step}
use Rattle.phi_krylov_arnoldi.proofs.substep.Goals as goal

two : {m : ℕ} → m ≤ 128 → m + 2 ≤ 130
two p = omega (arith, p)

pub arnoldi-basis-requires : goal.arnoldi-basis-requires
arnoldi-basis-requires c = c.requires.room

pub overflow_mul-to : goal.overflow_mul-to
overflow_mul-to c = let p = c.requires.m_bound.0 in omega (arith, product_within 130 130 (two p) (two p))

pub overflow_add-to-3 : goal.overflow_add-to-3
overflow_add-to-3 c = let p = c.requires.m_bound.0 in omega (arith, c.requires.room.then_y, c.requires.room.then_av, c.requires.room.laid.av_in)

pub trial_steps-trial-requires : goal.trial_steps-trial-requires
trial_steps-trial-requires c =
    let a = c.args in
    let room = c.requires.room in
    let few = c.requires.m_bound in
    let e = c.arnoldi-basis.ensures in
    let w = c.arnoldi-basis.new.work in
    let q = matrix_in a.o a.work.now in
    let dim = a.k.m + 2 in
    record { m_bound = (few.0, e.counted.0); h_len = ap length (part_window a.k.h (dim * dim) w) ∙ length_window a.k.h (dim * dim) w (omega (arith, room.then_y, room.then_av, room.laid.av_in, e.counted.1.kept.long)) }

pub advance-requires : goal.advance-requires
advance-requires c =
    let a = c.args in
    let room = c.requires.room in
    let few = c.requires.m_bound in
    let e = c.arnoldi-basis.ensures in
    let w = c.arnoldi-basis.new.work in
    let q = matrix_in a.o a.work.now in
    let dim = a.k.m + 2 in
    let et = c.trial_steps-trial.ensures.result_value a.o.l a.o.b q a.o.vectors.now w (sym (part_window a.k.h (dim * dim) w)) in
    let s = c.in-Accepted.is in
    let o = subst (Within 11 (columns_in a.k c.arnoldi-basis.result)) s c.trial_steps-trial.ensures.modest.within in
    let n = a.o.l.n + a.o.l.d in
    let wide = columns_few a.k.m a.k c.arnoldi-basis.result refl e.counted.0 in
    record { count_bound = (omega (arith, wide, o.1, few.0), columns_within _ a.k.m n a.k.y (omega (arith, wide, o.1)) (omega (arith, room.columns, room.then_h, room.then_y)), omega (arith, room.then_av, room.then_q), omega (arith, room.then_av, room.laid.av_in, e.counted.1.kept.long), c.trial_steps-trial.ensures.modest.long); matvecs_bound = (few.1, few.2, few.3, omega (arith, products_few a.k.m c.arnoldi-basis.result e.counted.0, c.products.ensures, few.0), o.0) }

pub shape_of-work-in-Next : goal.shape_of-work-in-Next
shape_of-work-in-Next c =
    let a = c.args in
    let room = c.requires.room in
    let few = c.requires.m_bound in
    let e = c.arnoldi-basis.ensures in
    let w = c.arnoldi-basis.new.work in
    let q = matrix_in a.o a.work.now in
    let dim = a.k.m + 2 in
    e.counted.1.kept.long

pub returns-in-Next : goal.returns-in-Next
returns-in-Next c =
    let a = c.args in
    let room = c.requires.room in
    let few = c.requires.m_bound in
    let e = c.arnoldi-basis.ensures in
    let w = c.arnoldi-basis.new.work in
    let q = matrix_in a.o a.work.now in
    let dim = a.k.m + 2 in
    let et = c.trial_steps-trial.ensures.result_value a.o.l a.o.b q a.o.vectors.now w (sym (part_window a.k.h (dim * dim) w)) in
    record { work_after = after_rejections a.o.l a.o.b a.k q a.o.vectors.now a.c a.r c.arnoldi-basis.result a.work.now w e.counted.1.field e.work_after c.trial_steps-trial.result.f c.trial_steps-trial.result.outcome et _ _ c.in-Next.is; kept = e.counted.1.kept }

pub shape_of-work-in-NoPlan : goal.shape_of-work-in-NoPlan
shape_of-work-in-NoPlan c =
    let a = c.args in
    let room = c.requires.room in
    let few = c.requires.m_bound in
    let e = c.arnoldi-basis.ensures in
    let w = c.arnoldi-basis.new.work in
    let q = matrix_in a.o a.work.now in
    let dim = a.k.m + 2 in
    e.counted.1.kept.long

pub returns-in-NoPlan : goal.returns-in-NoPlan
returns-in-NoPlan c =
    let a = c.args in
    let room = c.requires.room in
    let few = c.requires.m_bound in
    let e = c.arnoldi-basis.ensures in
    let w = c.arnoldi-basis.new.work in
    let q = matrix_in a.o a.work.now in
    let dim = a.k.m + 2 in
    let et = c.trial_steps-trial.ensures.result_value a.o.l a.o.b q a.o.vectors.now w (sym (part_window a.k.h (dim * dim) w)) in
    record { work_after = after_no_plan a.o.l a.o.b a.k q a.o.vectors.now a.c a.r c.arnoldi-basis.result a.work.now w e.counted.1.field e.work_after c.trial_steps-trial.result.f c.trial_steps-trial.result.outcome et _ c.in-NoPlan.is; kept = e.counted.1.kept }

pub shape_of-work-in-Accepted : goal.shape_of-work-in-Accepted
shape_of-work-in-Accepted c =
    let a = c.args in
    let room = c.requires.room in
    let few = c.requires.m_bound in
    let e = c.arnoldi-basis.ensures in
    let w = c.arnoldi-basis.new.work in
    let q = matrix_in a.o a.work.now in
    let dim = a.k.m + 2 in
    c.advance.ensures.kept.long ∙ e.counted.1.kept.long

pub returns-in-Accepted : goal.returns-in-Accepted
returns-in-Accepted c =
    let a = c.args in
    let room = c.requires.room in
    let few = c.requires.m_bound in
    let e = c.arnoldi-basis.ensures in
    let w = c.arnoldi-basis.new.work in
    let q = matrix_in a.o a.work.now in
    let dim = a.k.m + 2 in
    let et = c.trial_steps-trial.ensures.result_value a.o.l a.o.b q a.o.vectors.now w (sym (part_window a.k.h (dim * dim) w)) in
    let s = c.in-Accepted.is in
    let o = subst (Within 11 (columns_in a.k c.arnoldi-basis.result)) s c.trial_steps-trial.ensures.modest.within in
    record { work_after = after_step a.o.l a.o.b a.k q a.o.vectors.now a.c a.r c.arnoldi-basis.result a.work.now w e.counted.1.field e.work_after c.trial_steps-trial.result.f c.trial_steps-trial.result.outcome et _ _ _ s o.1 (rw c.products.ensures at (c.advance.ensures.work_after a.o.b q a.o.vectors.now)); kept = kept_on e.counted.1.kept c.advance.ensures.kept }
