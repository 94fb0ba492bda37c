-- The counts of a stage are far from 2 ^ 64. Assumes nothing.
use mathlib.Core.Path.{◌≡◌, refl, sym}
use mathlib.Core.Bool.{Bool}
use mathlib.Core.List.{List}
use Prim.Native.Nat.{ℕ, zero, suc, ◌-◌, ◌≤◌}
use native.Mathlib.Omega.{arith}
use lib.ListN.{length}
use lib.Ieee.{Float}
use Rattle.lists.proofs.Bounds.{product_within}
use Rattle.checks.specs.First.{first}
use Rattle.checks.specs.First.{Checked}
use Rattle.checks.proofs.First.{sound_append}
use Rattle.general_operator.specs.Csr.{Csr, row_sum_norm}
use Rattle.generator_action.specs.Mass.{Mass, generator_checks, quotients}
use Rattle.generator_action.specs.Generator.{forward}
use Rattle.phi_shift.proofs.Chosen.{plan_bounded}
use Rattle.combination.specs.Combination.{combination_operator}
use Rattle.combination.specs.Call.{Call, unless_refused}
use Rattle.combination.specs.Checks.{vector_checks_by}
use Rattle.taylor_job.specs.Calls.{phi_combination}
use Rattle.taylor_job.specs.declared.TaylorReport.{TaylorReport}
use Rattle.taylor_job.specs.Calls.{TaylorAnswer}
use Rattle.krylov_advance.specs.Run.{clamp_m}
use Rattle.krylov_advance.specs.declared.KrylovPhiReport.{KrylovPhiReport}
use Rattle.krylov_job.specs.KrylovCall.{dimension, option_checks, krylov_checks_by, krylov_checks, phi_combination_krylov}
use Rattle.phi_solver.specs.Combine.{of_taylor, of_krylov, answering, combine}
use Rattle.krylov_job.specs.declared.KrylovPhiOptions.{KrylovPhiOptions}
use Rattle.krylov_job.specs.KrylovCall.{KrylovAnswer}
use Rattle.phi_solver.specs.declared.PhiSolver.{PhiSolver}
use Rattle.phi_solver.specs.declared.PhiSolver.TheVariants as solver
use Rattle.phi_solver.specs.Combine.{PhiAnswer}
use Rattle.phi_solver.specs.declared.PhiReport.TheVariants as phi
use Rattle.krylov_job.proofs.Calls.{options_known}
use Rattle.demand_3.proofs.Demand3.{demand_3}
use Rattle.schedule_checks.specs.declared.Stage.{Stage}
use Rattle.schedule_checks.specs.Schedule.{stage_checks}
use Rattle.schedule_checks.specs.Inner.{Few}
use Rattle.stage_calls.specs.Inner.{stage_end}
use Rattle.schedule_checks.proofs.Checks.{stage_known}
use Rattle.checks.specs.Reasons.{Sound, Refused}
use Rattle.std.specs.Prelude.{Ok, Err}

-- an accepted call has passed its checks
krylov_passed : (x : Checked) (output memory : List Float) (end : Call KrylovAnswer) {r : KrylovPhiReport} → (unless_refused Refused x output memory end).answer ≡ Ok r → x ≡ Sound
unfolding unless_refused
krylov_passed (Ok _) output memory end e = refl
krylov_passed (Err r) output memory end e = let z : zero ≡ 1 = cc in absurd (omega (arith, z))

module _ (a : Csr) (mass : Mass) (tau : Float) (count : ℕ) (w output memory : List Float) where
  few_taylor : (cap : ℕ) {r : TaylorReport} → (phi_combination (forward a mass) tau cap count w output memory).answer ≡ Ok r → r.applications ≤ 128849018850
  unfolding combination_operator
  few_taylor cap {r} e =
      let c = ((demand_3 a mass tau output memory).combination cap count w).accepted e in
      let b = plan_bounded cap tau (quotients a mass) (row_sum_norm (quotients a mass)) c.planned in
      omega (arith, c.counted, product_within 4294967295 30 b.s_most b.m_most)

  few_options : (o : KrylovPhiOptions) {r : KrylovPhiReport} → (phi_combination_krylov (forward a mass) tau count w o output memory).answer ≡ Ok r
      → (dimension (quotients a mass).n (count - 1) o.m ≤ 128) × (o.max_substeps ≤ 1000000)
  unfolding phi_combination_krylov krylov_checks krylov_checks_by
  few_options o e =
      let p = sym (krylov_passed _ output memory _ e) in
      let c = sound_append (generator_checks a mass) _ p in
      let v = sound_append (vector_checks_by _ _ count w) _ c.1 in
      options_known o _ refl (sound_append (option_checks o (dimension (quotients a mass).n (count - 1) o.m)) _ v.1).0

  few_krylov : (o : KrylovPhiOptions) {r : KrylovPhiReport} → (phi_combination_krylov (forward a mass) tau count w o output memory).answer ≡ Ok r
      → (r.matvecs ≤ 129000000) × (r.substeps ≤ 1000000) × (r.rejected ≤ 10000000)
  unfolding dimension clamp_m
  few_krylov o {r} e =
      let c = ((demand_3 a mass tau output memory).krylov count w o e).counted in
      let b = few_options o e in
      let s : r.substeps ≤ 1000000 = omega (arith, c.few_substeps, b.1) in
      let m = product_within {a = suc (dimension (quotients a mass).n (count - 1) o.m)} 129 1000000 (omega (arith, b.0)) s in
      (omega (arith, c.few_applications, m), s, omega (arith, c.few_rejections, s))

  few_combined : (s : PhiSolver) → 1 ≤ count → count ≤ 4 → Few count (combine s (forward a mass) tau count w output memory).answer
  unfolding combine answering of_taylor of_krylov
  few_combined (solver.Taylor cap) l m = go (phi_combination (forward a mass) tau cap count w output memory).answer refl
    where
      go : (x : TaylorAnswer) → (phi_combination (forward a mass) tau cap count w output memory).answer ≡ x → Few count (of_taylor x)
      go (Err r) e = tt
      go (Ok r) e = (l, m, few_taylor cap e)
  few_combined (solver.Krylov o) l m = go (phi_combination_krylov (forward a mass) tau count w o output memory).answer refl
    where
      go : (x : KrylovAnswer) → (phi_combination_krylov (forward a mass) tau count w o output memory).answer ≡ x → Few count (of_krylov x)
      go (Err r) e = tt
      go (Ok r) e = let f = few_krylov o e in (l, m, f.0, f.1, f.2)

-- of a stage that gave a result
pub few_end : (a : Csr) (mass : Mass) (s : Stage) (last : Bool) (used : ℕ) (further field output memory : List Float) → Few s.count (stage_end (forward a mass) s last used further field output memory).answer
unfolding stage_end unless_refused
few_end a mass s last used further field output memory = go (first (stage_checks (quotients a mass).n s last (length output) (length field) used (length further))) refl _ (λ l m. few_combined a mass s.tau s.count _ output memory s.solver l m)
  where
    go : (x : Checked) → first (stage_checks (quotients a mass).n s last (length output) (length field) used (length further)) ≡ x → (c : Call PhiAnswer) → (1 ≤ s.count → s.count ≤ 4 → Few s.count c.answer)
        → Few s.count (unless_refused Refused x output memory c).answer
    go (Err r) e c h = tt
    go (Ok _) e c h = let f = stage_known (quotients a mass).n s last (length output) (length field) used (length further) e refl in h f.some f.most
