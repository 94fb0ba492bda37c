-- The counts of the stages are within their bounds. Assumes nothing.
use mathlib.Core.Path.{◌≡◌, refl, ◌∙◌}
use mathlib.Core.List.{List}
use Prim.Native.Nat.{ℕ, zero, suc, ◌*◌, ◌≤◌}
use native.Mathlib.Nat.{one-mul, le_of_eq, le_trans}
use native.Mathlib.Omega.{arith}
use lib.ListN.{get_or}
use lib.Ieee.{Float, nan}
use Rattle.general_operator.specs.Csr.{Csr}
use Rattle.generator_action.specs.Mass.{Mass}
use Rattle.generator_action.specs.Generator.{Generator, forward}
use Rattle.combination.specs.Combination.{combination_operator}
use Rattle.taylor_job.specs.Calls.{phi_combination}
use Rattle.taylor_job.specs.Calls.{TaylorAnswer}
use Rattle.krylov_job.specs.KrylovCall.{phi_combination_krylov}
use Rattle.phi_solver.specs.Combine.{of_taylor, of_krylov, answering, combine}
use Rattle.krylov_job.specs.KrylovCall.{KrylovAnswer}
use Rattle.phi_solver.specs.declared.PhiSolver.{PhiSolver}
use Rattle.phi_solver.specs.declared.PhiSolver.TheVariants as solver
use Rattle.phi_solver.specs.Combine.{PhiAnswer}
use Rattle.demand_3.specs.Demand3.{Demand3}
use Rattle.demand_3.proofs.Demand3.{demand_3}
use Rattle.schedule_checks.specs.Schedule.{Schedule}
use Rattle.stages_claims.specs.Ran.{solver_at, count_at, Gave, substeps_of, rejected_of, total, call_at, Ran}
use Rattle.stages_claims.specs.Bounds.{BoundedBy, Bounds}
use Rattle.stages_claims.proofs.Reached.{total_snoc}
use Rattle.std.specs.Prelude.{Ok, Err}

-- ---- one call, of a generator that demand 3 holds of
module _ (g : Generator) (demand : (tau : Float) (output memory : List Float) → Demand3 g tau output memory) where
  call_bounded : (s : PhiSolver) (tau : Float) (count : ℕ) (w output memory : List Float) → Gave (combine s g tau count w output memory).answer → BoundedBy s g tau count (combine s g tau count w output memory).answer
  unfolding combine answering of_taylor of_krylov combination_operator
  call_bounded (solver.Taylor cap) tau count w output memory h = go (phi_combination g tau cap count w output memory).answer refl h
    where
      go : (x : TaylorAnswer) → (phi_combination g tau cap count w output memory).answer ≡ x → Gave (of_taylor x) → BoundedBy (solver.Taylor cap) g tau count (of_taylor x)
      go (Err r) e h = absurd h
      go (Ok r) e h =
          let c = ((demand tau output memory).combination cap count w).accepted e in
          (refl, refl, λ j l f. le_trans (le_of_eq (c.counted ∙ one-mul (r.s * r.m))) (c.least j l f))
  call_bounded (solver.Krylov o) tau count w output memory h = go (phi_combination_krylov g tau count w o output memory).answer refl h
    where
      go : (x : KrylovAnswer) → (phi_combination_krylov g tau count w o output memory).answer ≡ x → Gave (of_krylov x) → BoundedBy (solver.Krylov o) g tau count (of_krylov x)
      go (Err r) e h = absurd h
      go (Ok r) e h = let c = ((demand tau output memory).krylov count w o e).counted in (c.few_substeps, c.few_applications, c.few_rejections)

  -- ---- all stages
  module _ (s : Schedule) (start further output memory : List Float) where
    pub ran_bounded : (i : ℕ) (f o m : List Float) (xs : List PhiAnswer) → Ran g s start further output memory i f o m xs → Bounds g s i xs
    unfolding Ran Bounds
    ran_bounded zero f o m xs r = r.3
    ran_bounded (suc i) f o m xs r =
        record {
          answers = r.answers;
          answer = (call_at g s start further output memory i r.field r.out r.lent).answer;
          earlier = ran_bounded i r.field r.out r.lent r.answers r.earlier;
          bounded = call_bounded (solver_at s i) (get_or s.taus i nan) (count_at s i) _ r.out r.lent r.gave;
          answers_are = r.answers_are;
        }

-- ten rejections for each substep, of all stages
ten_each : (s : PhiSolver) (g : Generator) (tau : Float) (count : ℕ) (a : PhiAnswer) → BoundedBy s g tau count a → rejected_of a ≤ 10 * substeps_of a
ten_each (solver.Taylor cap) g tau count a h = omega (arith, h.1)
ten_each (solver.Krylov o) g tau count a h = h.2

pub few_rejections : (g : Generator) (s : Schedule) (i : ℕ) (xs : List PhiAnswer) → Bounds g s i xs → total rejected_of xs ≤ 10 * total substeps_of xs
unfolding Bounds total
few_rejections g s zero xs e = rw e (omega arith)
few_rejections g s (suc i) xs b =
    let h = few_rejections g s i b.answers b.earlier in
    let t = ten_each (solver_at s i) g (get_or s.taus i nan) (count_at s i) b.answer b.bounded in
    rw b.answers_are (omega (arith, h, t, total_snoc rejected_of b.answers b.answer, total_snoc substeps_of b.answers b.answer))

-- of a matrix and a mass
pub forward_bounded : (a : Csr) (mass : Mass) (s : Schedule) (start further output memory : List Float) (i : ℕ) (f o m : List Float) (xs : List PhiAnswer) → Ran (forward a mass) s start further output memory i f o m xs → Bounds (forward a mass) s i xs
forward_bounded a mass s start further output memory = ran_bounded (forward a mass) (demand_3 a mass) s start further output memory
