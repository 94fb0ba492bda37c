-- When the checks of a schedule and of a stage pass. Assumes nothing.
use mathlib.Core.Path.{◌≡◌, refl}
use mathlib.Core.Bool.{Bool, true, false, ◌&&◌}
use mathlib.Core.List.{[], ◌∷◌}
use Prim.Native.Nat.{ℕ, zero, suc, ◌+◌, ◌-◌, ◌*◌, ◌≤◌}
use native.Mathlib.Omega.{arith}
use lib.Dec.{eqb, ltb}
use lib.Ieee.{Float, nan}
use borrow.Author.Tests.{eq-eqb, ne_eqb, ltb-false, le-ltb}
use Rattle.checks.specs.First.{refuse, first}
use Rattle.checks.proofs.First.{sound_cons, sound_append, sound_on, passes, ends_sound}
use Rattle.doubles.specs.F64.{nat}
use Rattle.general_operator.proofs.Sound.{or_false}
use Rattle.combination.specs.Checks.{count_checks, length_checks, time_checks, degree_checks, plan_checks}
use Rattle.expmv.specs.Select.{M_MAX}
use Rattle.phi_solver.specs.declared.PhiSolver.{PhiSolver}
use Rattle.phi_solver.specs.declared.PhiSolver.TheVariants.{Taylor, Krylov}
use Rattle.schedule_checks.specs.declared.Stage.{Stage}
use Rattle.schedule_checks.specs.Schedule.{Schedule, stages_of, schedule_checks, further_need, wrong_slice, time_checks_of, stage_checks}
use Rattle.schedule_checks.specs.Inner.{Even}
use Rattle.schedule_checks.proofs.Checks.{schedule_known, count_sound, lengths_sound, stage_known}
use Rattle.stages_claims.specs.Passing.{Timed, Passing}
use Rattle.checks.specs.Reasons.{Sound}
use Rattle.checks.specs.declared.Reason.TheVariants.{TauRange, VectorLength, DegreeRange, StageCount}

-- ---- 37 passes exactly where there are 1 to 64 stages and all seven lists have a number for each
pub schedule_passes : (s : Schedule) → (Sound ≡ first (schedule_checks s) → Even s) × (Even s → Sound ≡ first (schedule_checks s))
unfolding schedule_checks
schedule_passes s = (
  λ e. schedule_known s refl e,
  λ h. let k = stages_of s in
      passes StageCount nan []
      (rw (ne_eqb k 0 (λ z. absurd (omega (arith, h.some, z))), le-ltb 64 k h.most, eq-eqb _ k h.counts, eq-eqb _ k h.solvers, eq-eqb _ k h.degrees, eq-eqb _ k h.tols, eq-eqb _ k h.ms, eq-eqb _ k h.limits) refl) ends_sound,
)

-- ---- 12 to 16 of a stage
some_of : (k : ℕ) → eqb k 0 ≡ false → 1 ≤ k
some_of zero e = let z : zero ≡ 1 = cc in absurd (omega (arith, z))
some_of (suc k) e = omega arith

pub timed_known : (s : PhiSolver) (tau : Float) → Sound ≡ first (time_checks_of s tau) → Timed s tau
unfolding plan_checks time_checks degree_checks
timed_known (Taylor cap) tau e =
    let a = sound_cons _ _ _ _ e in
    let c = or_false (eqb cap 0) (ltb M_MAX cap) (sound_cons _ _ _ _ a.1).0 in
    (a.0, some_of cap c.0, ltb-false M_MAX cap c.1)
timed_known (Krylov o) tau e = (sound_cons _ _ _ _ e).0

timed_sound : (s : PhiSolver) (tau : Float) → Timed s tau → Sound ≡ first (time_checks_of s tau)
unfolding plan_checks time_checks degree_checks
timed_sound (Taylor cap) tau h = passes TauRange tau _ h.0 (passes DegreeRange nan [] (rw (ne_eqb cap 0 (λ z. absurd (omega (arith, h.1, z))), le-ltb M_MAX cap h.2) refl) ends_sound)
timed_sound (Krylov o) tau h = passes TauRange tau [] h ends_sound

pub slice_sound : (need : ℕ) (last : Bool) (used further : ℕ) → used + need ≤ further → (last ≡ true → used + need ≡ further) → wrong_slice need last used further ≡ false
slice_sound need false used further h a = rw (le-ltb further (used + need) h) refl
slice_sound need true used further h a = rw (le-ltb further (used + need) h) (le-ltb (used + need) further (omega (arith, a refl)))

slice_known : (need : ℕ) (last : Bool) (used further : ℕ) → wrong_slice need last used further ≡ false → last ≡ true → used + need ≡ further
slice_known need last used further e l =
    let w = or_false (ltb further (used + need)) (last && ltb (used + need) further) e in
    let r : ltb (used + need) further ≡ false = rw l at w.1 in
    omega (arith, ltb-false further _ w.0, ltb-false (used + need) further r)

pub stage_sound : (n : ℕ) (s : Stage) (last : Bool) (output field used further : ℕ) → Passing n s last output field used further → Sound ≡ first (stage_checks n s last output field used further)
unfolding stage_checks
stage_sound n s last output field used further h =
    sound_on (count_checks s.count) _ refl (count_sound h.some h.most)
    (sound_on (time_checks_of s.solver s.tau) _ refl (timed_sound s.solver s.tau h.timed)
    (sound_on (length_checks output n field n) _ refl (lengths_sound h.out h.fielded)
    (passes VectorLength _ [] (slice_sound ((s.count - 1) * n) last used further h.within h.all) ends_sound)))

pub stage_passing : (n : ℕ) (s : Stage) (last : Bool) (output field used further : ℕ) → Sound ≡ first (stage_checks n s last output field used further) → Passing n s last output field used further
unfolding stage_checks
stage_passing n s last output field used further e =
    let k = stage_known n s last output field used further refl e in
    let c = sound_append (count_checks s.count) _ e in
    let t = sound_append (time_checks_of s.solver s.tau) _ c.1 in
    let l = sound_append (length_checks output n field n) (refuse VectorLength (wrong_slice (further_need n s) last used further) (nat further) ∷ []) t.1 in
    record {
      some = k.some;
      most = k.most;
      timed = timed_known s.solver s.tau t.0;
      out = k.out;
      fielded = k.fielded;
      within = k.within;
      all = slice_known ((s.count - 1) * n) last used further (sound_cons _ _ _ _ l.1).0;
    }
