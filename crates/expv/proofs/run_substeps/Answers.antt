-- `expv::run_substeps` meets its contract. Assumes nothing.
use native.Mathlib.Omega.{arith}
use mathlib.Core.Path.{◌≡◌, refl, subst}
use mathlib.Core.List.{List}
use Prim.Native.Nat.{ℕ}
use lib.Ieee.{Float}
use Rattle.lists.specs.Walk.{Turn, walk}
use Rattle.lists.proofs.Walk.{Left, left_start, left_turn, left_out, left_none}
use Rattle.lists.proofs.Frame.{kept_all, kept_on}
use Rattle.phi_action_helpers.specs.declared.Layout.{Layout}
use Rattle.phi_action_helpers.proofs.Sweeps.{values_kept}
use Rattle.gram_schmidt.specs.declared.Krylov.{Krylov}
use Rattle.gram_schmidt.proofs.Turns.{room_kept}
use Rattle.krylov_advance.specs.Run.{State, End}
use Rattle.krylov_advance.specs.Memory.{progress_at, Moderate}
use Rattle.krylov_advance.specs.declared.Progress.{Progress}
use Rattle.krylov_advance.specs.declared.Progress.TheVariants.{On, Finished, Refused}
use Rattle.krylov_advance.specs.declared.Control.{Control}
use Rattle.krylov_advance.specs.declared.KrylovPhiReport.{KrylovPhiReport}
use Rattle.krylov_advance.proofs.Turns.{seen_on, moderate_turn}
use Rattle.expv.proofs.run_substeps.Goals as goal

-- a run that has ended
over : (l : Layout) (k : Krylov) (o : Progress) (w : List Float) → ((c : Control) (r : KrylovPhiReport) → o ≡ On c r → ⊥)
    → {step : ℕ → State → Turn State End} {n i : ℕ} {o₀ : Turn State End} → Left step n i o₀ (progress_at l k o w) → progress_at l k o w ≡ walk step n 0 o₀
unfolding progress_at
over l k (On c r) w t h = absurd (t c r refl)
over l k (Finished c r) w t h = left_out h _ refl
over l k (Refused n c r) w t h = left_out h _ refl

pub loop-init : goal.loop-init
unfolding progress_at
loop-init c =
    let p = c.requires.m_bound in (omega arith, (omega (arith, p.2), omega (arith, p.3), omega (arith, p.4)), kept_all _ _ _ _, left_start _ _ _)

pub shape_of-work-in_default : goal.shape_of-work-in_default
shape_of-work-in_default c = c.loop.invariant.2.long

pub returns-in_default : goal.returns-in_default
unfolding progress_at
returns-in_default c = record { work_after = over c.args.o.l c.args.k c.loop.reached c.loop.work c.in_default.not-On c.loop.invariant.3; kept = c.loop.invariant.2 }

pub substep-reached-requires : goal.substep-reached-requires
substep-reached-requires c =
    let p = c.requires in
    let f = subst (Moderate c.loop.counter) c.in-On.is c.loop.invariant.1 in
    record { room = room_kept _ _ _ c.loop.invariant.2 p.room; m_bound = (p.m_bound.0, omega (arith, f.0, p.m_bound.1), omega (arith, f.1, p.m_bound.1), omega (arith, f.2, p.m_bound.1)) }

pub loop-preserved : goal.loop-preserved
loop-preserved c =
    let a = c.args in
    let p = c.requires in
    let f = subst (Moderate c.loop.counter) c.in-On.is c.loop.invariant.1 in
    let g = c.substep-reached.ensures in
    let e = values_kept a.o.l.mass a.o.l.q a.o.vals.now a.work.now c.loop.work c.loop.invariant.2 in
    let t = rw e at g.work_after in
    (omega arith, moderate_turn a.o.l a.k _ c.loop.counter _ _ c.loop.work _ _ p.m_bound.0 f t, kept_on c.loop.invariant.2 g.kept, left_turn c.loop.invariant.3 _ _ (omega arith) (seen_on a.o.l a.k _ _ _ _ c.in-On.is) t)

pub shape_of-work : goal.shape_of-work
shape_of-work c = c.loop.invariant.2.long

pub returns : goal.returns
unfolding progress_at
returns c = record { work_after = left_none c.loop.invariant.3 (omega arith); kept = c.loop.invariant.2 }
