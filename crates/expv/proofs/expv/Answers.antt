-- `expv::expv` meets its contract. Assumes nothing.
use native.Mathlib.Omega.{arith}
use mathlib.Core.Path.{refl, sym, ap, ◌∙◌}
use Prim.Native.Nat.{◌+◌}
use Rattle.lists.proofs.Window.{part_window}
use Rattle.pow2.specs.Pow2.{pow2_scale}
use Rattle.krylov_advance.specs.Run.{expv, expv_by, idle}
use Rattle.krylov_advance.specs.Memory.{end_at}
use Rattle.expv.proofs.expv.Goals as goal

pub overflow_add-end : goal.overflow_add-end
overflow_add-end c = omega (arith, c.requires.room.then_av, c.requires.room.laid.av_in)

pub overflow_add-end-2 : goal.overflow_add-end-2
overflow_add-end-2 c = omega (arith, c.requires.room.then_av, c.requires.room.laid.av_in)

pub slice_bounds-pow2_scale-end : goal.slice_bounds-pow2_scale-end
slice_bounds-pow2_scale-end c = omega (arith, c.requires.room.then_av, c.requires.room.laid.av_in)

pub returns-in_default-clause-work_after : goal.returns-in_default-clause-work_after
unfolding expv expv_by idle end_at
returns-in_default-clause-work_after c =
    let a = c.args in
    let p = sym (c.pow2_scale.ensures ∙ ap pow2_scale (part_window a.k.y (a.o.l.n + a.o.l.d) a.work.now)) ∙ c.in_default.is in
    rw p refl

pub returns-clause-work_after : goal.returns-clause-work_after
unfolding expv
returns-clause-work_after c =
    let a = c.args in
    let p = sym (c.pow2_scale.ensures ∙ ap pow2_scale (part_window a.k.y (a.o.l.n + a.o.l.d) a.work.now)) ∙ c.in-Some.is in
    rw p c.scaled_run.ensures.work_after
