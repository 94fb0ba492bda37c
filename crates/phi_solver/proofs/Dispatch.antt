-- The answer of the chosen evaluator. Assumes nothing.
use mathlib.Core.Path.{◌≡◌, ap, ◌∙◌}
use mathlib.Core.List.{List}
use Prim.Native.Nat.{ℕ}
use lib.Ieee.{Float}
use Rattle.generator_action.specs.Generator.{Generator}
use Rattle.combination.specs.Call.{Call, ends}
use Rattle.taylor_job.specs.Calls.{phi_combination}
use Rattle.taylor_job.specs.Calls.{TaylorAnswer}
use Rattle.krylov_job.specs.KrylovCall.{phi_combination_krylov}
use Rattle.phi_solver.specs.Combine.{of_taylor, of_krylov, answering, combine}
use Rattle.krylov_job.specs.KrylovCall.{KrylovAnswer}
use Rattle.krylov_job.specs.declared.KrylovPhiOptions.{KrylovPhiOptions}
use Rattle.phi_solver.specs.Combine.{PhiAnswer}
use Rattle.phi_solver.specs.declared.PhiSolver.{PhiSolver}
use Rattle.phi_solver.specs.declared.PhiSolver.TheVariants.{Taylor, Krylov}

pub answered : {A B : Type 0} (f : A → B) (x : A) {r : B} {out₁ w₁ : List Float} {c : Call A} → r ≡ f x → ends x out₁ w₁ ≡ c → ends r out₁ w₁ ≡ answering f c
unfolding answering
answered f x {r} {out₁} {w₁} {c} er ec = (λ i. ends (er i) out₁ w₁) ∙ ap (answering f) ec

module _ (g : Generator) (tau : Float) (count : ℕ) (w out w₀ : List Float) {s : PhiSolver} {r : PhiAnswer} {out₁ w₁ : List Float} where
  pub by_taylor : {cap : ℕ} {x : TaylorAnswer} → s ≡ Taylor cap → r ≡ of_taylor x → ends x out₁ w₁ ≡ phi_combination g tau cap count w out w₀ → ends r out₁ w₁ ≡ combine s g tau count w out w₀
  unfolding combine
  by_taylor {cap} {x} es er ec = rw es (answered of_taylor x er ec)

  pub by_krylov : {o : KrylovPhiOptions} {x : KrylovAnswer} → s ≡ Krylov o → r ≡ of_krylov x → ends x out₁ w₁ ≡ phi_combination_krylov g tau count w o out w₀
      → ends r out₁ w₁ ≡ combine s g tau count w out w₀
  unfolding combine
  by_krylov {o} {x} es er ec = rw es (answered of_krylov x er ec)
