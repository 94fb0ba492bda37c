-- What a single call that gave a result has passed. Assumes nothing.
use mathlib.Core.Path.{◌≡◌, refl, sym}
use mathlib.Core.List.{List}
use Prim.Native.Nat.{ℕ}
use lib.ListN.{length}
use lib.Ieee.{Float}
use Rattle.checks.specs.First.{Check, first}
use Rattle.checks.specs.First.{Checked}
use Rattle.checks.proofs.First.{sound_append}
use Rattle.generator_action.specs.Generator.{Generator}
use Rattle.combination.specs.Call.{Call, unless_refused}
use Rattle.combination.specs.Checks.{count_checks, plan_checks, time_checks, vector_checks, vector_checks_by}
use Rattle.taylor_schedule.proofs.Admitted.{Vectors, vectors_known}
use Rattle.taylor_job.specs.Calls.{combination_checks, phi_combination}
use Rattle.taylor_job.specs.Calls.{TaylorAnswer}
use Rattle.krylov_job.specs.KrylovCall.{krylov_checks, krylov_checks_by, phi_combination_krylov}
use Rattle.phi_solver.specs.Combine.{of_taylor, of_krylov, answering, combine}
use Rattle.krylov_job.specs.KrylovCall.{KrylovAnswer}
use Rattle.phi_solver.specs.declared.PhiSolver.{PhiSolver}
use Rattle.phi_solver.specs.declared.PhiSolver.TheVariants as solver
use Rattle.schedule_checks.specs.Schedule.{time_checks_of}
use Rattle.stages_claims.specs.Ran.{Gave}
use Rattle.checks.specs.Reasons.{Sound, Refused}
use Rattle.std.specs.Prelude.{Ok, Err}

taylor_passed : (x : Checked) (output memory : List Float) (end : Call TaylorAnswer) → Gave (of_taylor (unless_refused Refused x output memory end).answer) → x ≡ Sound
unfolding unless_refused of_taylor
taylor_passed (Ok _) output memory end h = refl
taylor_passed (Err r) output memory end h = absurd h

krylov_passed : (x : Checked) (output memory : List Float) (end : Call KrylovAnswer) → Gave (of_krylov (unless_refused Refused x output memory end).answer) → x ≡ Sound
unfolding unless_refused of_krylov
krylov_passed (Ok _) output memory end h = refl
krylov_passed (Err r) output memory end h = absurd h

-- 1 to 11, 12 to 16
pub record Taken (s : PhiSolver) (g : Generator) (tau : Float) (count long output : ℕ) : Type 0 where
  pub generator : Sound ≡ first g.checks
  pub timed : Sound ≡ first (time_checks_of s tau)
  pub vectors : Vectors g.matrix.n count long output

module _ (g : Generator) (tau : Float) (count : ℕ) (w output memory : List Float) where
  abbrev n : ℕ
  n = g.matrix.n

  taken_by : (ts : List Check) → Sound ≡ first (vector_checks n ts count w (length output)) → (Sound ≡ first ts) × Vectors n count (length w) (length output)
  unfolding vector_checks vector_checks_by
  taken_by ts e = ((sound_append ts _ (sound_append (count_checks count) _ e).1).0, vectors_known n ts count w (length output) refl e)

  pub taken : (s : PhiSolver) → Gave (combine s g tau count w output memory).answer → Taken s g tau count (length w) (length output)
  unfolding combine answering phi_combination combination_checks phi_combination_krylov krylov_checks krylov_checks_by vector_checks
  taken (solver.Taylor cap) h =
      let c = sound_append g.checks _ (sym (taylor_passed _ output memory _ h)) in
      let v = taken_by (plan_checks tau cap) (sound_append (vector_checks n (plan_checks tau cap) count w (length output)) _ c.1).0 in
      record { generator = c.0; timed = v.0; vectors = v.1 }
  taken (solver.Krylov o) h =
      let c = sound_append g.checks _ (sym (krylov_passed _ output memory _ h)) in
      let v = taken_by (time_checks tau) (sound_append (vector_checks n (time_checks tau) count w (length output)) _ c.1).0 in
      record { generator = c.0; timed = v.0; vectors = v.1 }
