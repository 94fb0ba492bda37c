-- What the checks of a Krylov call tell of its job. Assumes nothing.
use mathlib.Core.Path.{◌≡◌, refl}
use Prim.Native.Nat.{ℕ, ◌≤◌, ◌<◌}
use native.Mathlib.Omega.{arith}
use borrow.Author.Tests.{eqb-false}
use lib.ListN.{length}
use Rattle.checks.specs.First.{first}
use Rattle.checks.proofs.First.{sound_cons, sound_append}
use Rattle.combination.specs.Combination.{further}
use Rattle.combination.specs.Checks.{time_checks, vector_checks}
use Rattle.taylor_schedule.proofs.Admitted.{Vectors, vectors_known, first_within, length_start}
use Rattle.krylov_advance.specs.Run.{clamp_m}
use Rattle.krylov_job.specs.KrylovCall.{dimension, option_checks, krylov_checks_by, krylov_checks}
use Rattle.krylov_job.specs.declared.KrylovPhiOptions.{KrylovPhiOptions}
use Rattle.krylov_job.proofs.Calls.{options_known}
use Rattle.paused_run.specs.Paused.{Job, rows, degree}
use Rattle.demand_3.proofs.Krylov.{Finite}
use Rattle.demand_3.proofs.Start.{vectors_finite, start_finite}
use Rattle.paused_claims.specs.History.{values_in, dimension_in}
use Rattle.paused_claims.specs.Start.{values_of}
use Rattle.checks.specs.Reasons.{Sound}

-- M by its two names
pub dimension_is : (o : KrylovPhiOptions) (j : Job) → dimension (rows j) (degree j) o.m ≡ dimension_in o j
unfolding dimension clamp_m
dimension_is o j = refl

module _ (o : KrylovPhiOptions) (j : Job) (output memory : ℕ) (sound : Sound ≡ first (krylov_checks j.g j.tau j.count j.w o output memory)) where
  -- 12 to 17, and 18 on
  of_vectors : Sound ≡ first (vector_checks (rows j) (time_checks j.tau) j.count j.w output)
  unfolding krylov_checks krylov_checks_by vector_checks
  of_vectors = (sound_append (vector_checks (rows j) (time_checks j.tau) j.count j.w output) _ (sound_append j.g.checks _ sound).1).0

  of_options : Sound ≡ first (option_checks o (dimension (rows j) (degree j) o.m))
  unfolding krylov_checks krylov_checks_by vector_checks
  of_options =
      (sound_append (option_checks o (dimension (rows j) (degree j) o.m)) _
      (sound_append (vector_checks (rows j) (time_checks j.tau) j.count j.w output) _ (sound_append j.g.checks _ sound).1).1).0

  pub vectors : Vectors (rows j) j.count (length j.w) output
  vectors = vectors_known (rows j) (time_checks j.tau) j.count j.w output refl of_vectors

  pub few : o.max_substeps ≤ 1000000
  few = (options_known o _ refl of_options).1

  pub small : dimension_in o j ≤ 128
  unfolding dimension clamp_m
  small = (options_known o _ refl of_options).0

  pub some_limit : 0 < o.max_substeps
  unfolding option_checks
  some_limit = let z = eqb-false o.max_substeps 0 (sound_cons _ _ _ _ (sound_cons _ _ _ _ of_options).1).0 in omega (arith, z)

  pub long : length (values_of j) ≡ values_in j
  long = length_start (rows j) j.w (degree j) _ (first_within vectors)

  pub finite : Finite (values_of j)
  finite = start_finite (rows j) j.w (further (rows j) j.w) j.tau (degree j) (first_within vectors) (vectors_finite (rows j) (time_checks j.tau) j.count j.w output of_vectors)
