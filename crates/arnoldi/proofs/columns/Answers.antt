-- `arnoldi::columns` meets its contract. Assumes nothing.
use native.Mathlib.Omega.{arith}
use mathlib.Core.Path.{refl}
use Rattle.std.proofs.lemmas.Result.{err_from_is_err_and}
use Rattle.lists.proofs.Walk.{left_start, left_turn}
use Rattle.phi_action_helpers.proofs.Sweeps.{values_kept}
use Rattle.gram_schmidt.specs.Memory.{grown_at}
use Rattle.gram_schmidt.proofs.Turns.{spared_all, spared_on, room_kept}
use Rattle.gram_schmidt.proofs.Answers.{left_broken, left_whole}
use Rattle.arnoldi.proofs.columns.Goals as goal

pub loop-j-init : goal.loop-j-init
loop-j-init c = (omega arith, spared_all _, left_start _ _ _)

pub grow-requires : goal.grow-requires
grow-requires c = record { room = room_kept _ _ _ c.loop-j.invariant.1.kept c.requires; j_lt_m = omega arith }

pub loop-j-preserved : goal.loop-j-preserved
unfolding grown_at
loop-j-preserved c =
    let a = c.args in
    let g = c.in_ok-applied.ensures in
    let e = values_kept a.o.l.mass a.o.l.q a.o.vals.now a.work.now c.loop-j.work c.loop-j.invariant.1.kept in
    (g.within.0, spared_on c.loop-j.invariant.1 g.within.1, left_turn c.loop-j.invariant.2 _ _ (omega arith) refl (rw e at g.work_after))

pub returns-in_err-applied : goal.returns-in_err-applied
returns-in_err-applied c =
    let a = c.args in
    let g = c.in_err-applied.ensures in
    let e = values_kept a.o.l.mass a.o.l.q a.o.vals.now a.work.now c.loop-j.work c.loop-j.invariant.1.kept in
    let p = err_from_is_err_and c.from_residual.result c.from_residual.ensures.1 in
    let f = g.within.0 in
    rw (p.1, p.2)
    (record { work_after = left_broken _ _ _ _ _ _ _ _ (left_turn c.loop-j.invariant.2 _ _ (omega arith) refl (rw e at g.work_after)); within = ((omega (arith, f.0), f.1, omega (arith, f.2)), spared_on c.loop-j.invariant.1 g.within.1) })

pub returns : goal.returns
returns c = record { work_after = left_whole _ _ _ _ _ _ _ _ c.loop-j.invariant.2 (omega arith) (omega arith); within = (omega arith, c.loop-j.invariant.1) }
