-- One combination by the chosen evaluator (phi_krylov.rs, `combine`). Definitions only.
use Rattle.std.specs.Prelude.{List, ℕ, Float, Result, Ok, Err}
use Rattle.checks.specs.declared.Refusal.{Refusal}
use Rattle.generator_action.specs.Generator.{Generator}
use Rattle.combination.specs.Call.{Call, ends}
use Rattle.taylor_job.specs.Calls.{phi_combination}
use Rattle.taylor_job.specs.Calls.{TaylorAnswer}
use Rattle.krylov_job.specs.KrylovCall.{phi_combination_krylov}
use Rattle.krylov_job.specs.KrylovCall.{KrylovAnswer}
use Rattle.phi_solver.specs.declared.PhiSolver.{PhiSolver}
use Rattle.phi_solver.specs.declared.PhiSolver.TheVariants as solver
use Rattle.phi_solver.specs.declared.PhiReport.{PhiReport}
use Rattle.phi_solver.specs.declared.PhiReport.TheVariants.{Taylor, Krylov}

-- a refusal, or the report of the evaluator used
abbrev pub PhiAnswer : Type 0
PhiAnswer = Result PhiReport Refusal

unfoldable pub of_taylor : TaylorAnswer → PhiAnswer
of_taylor (Err r) = Err r
of_taylor (Ok r) = Ok (Taylor r)

unfoldable pub of_krylov : KrylovAnswer → PhiAnswer
of_krylov (Err r) = Err r
of_krylov (Ok r) = Ok (Krylov r)

-- a call with its answer put differently
unfoldable pub answering : {A B : Type 0} → (A → B) → Call A → Call B
answering f c = ends (f c.answer) c.output c.memory

unfoldable pub combine : PhiSolver → Generator → Float → ℕ → List Float → List Float → List Float → Call PhiAnswer
combine (solver.Taylor cap) g tau count w output memory = answering of_taylor (phi_combination g tau cap count w output memory)
combine (solver.Krylov o) g tau count w output memory = answering of_krylov (phi_combination_krylov g tau count w o output memory)
