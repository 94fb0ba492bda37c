-- What the checks of a run guard, and what the run takes from them: cited by contracts of inner functions, and by no
-- definition of a call. Definitions only.
use Rattle.std.specs.Prelude.{List, ◌++◌, ◌≡◌, ℕ, ◌+◌, ◌-◌, ◌≤◌, Option, Some, None, Float}
use Rattle.doubles.specs.F64.{1f}
use Rattle.checks.specs.First.{Check, or_first}
use Rattle.general_operator.specs.Csr.{Csr, csr}
use Rattle.generator_action.specs.Mass.{given}
use Rattle.generator_action.specs.Known.{Passed}
use Rattle.generator_action.specs.declared.Shape.{Shape}
use Rattle.pow2.specs.Pow2.{eta_scaling}
use Rattle.pow2.specs.declared.Scaling.{Scaling}
use Rattle.phi_action_helpers.specs.Augmented.{augmented}
use Rattle.combination.specs.Combination.{further, magnitude}
use Rattle.combination.specs.Checks.{time_checks, vector_checks_by}
use Rattle.taylor_schedule.specs.Inner.{Coupled}
use Rattle.weighted_columns.specs.Inner.{coupling_by}
use Rattle.krylov_advance.specs.Run.{End, clamp_m, expv}
use Rattle.krylov_advance.specs.declared.RunAnswer.{RunAnswer}
use Rattle.krylov_advance.specs.declared.RunAnswer.TheVariants.{Finished, Refused}
use Rattle.krylov_job.specs.KrylovCall.{bound, dimension, option_checks, run_checks, krylov_need}
use Rattle.krylov_job.specs.Memory.{krylov}
use Rattle.krylov_job.specs.declared.KrylovPhiOptions.{KrylovPhiOptions}
use Rattle.krylov_job.specs.KrylovCall.{KrylovAnswer}
use Rattle.krylov_job.specs.declared.RunJob.{RunJob}
use Rattle.checks.specs.declared.Refusal.{Refusal}
use Rattle.std.specs.Prelude.{Result, Ok, Err}

-- a run of a combination of dimension M over a generator with the numbers g, its gains scaled by eta
abbrev pub run_job_by : Shape → Float → ℕ → List Float → Scaling → KrylovPhiOptions → ℕ → RunJob
run_job_by g tau d f eta o M =
    record {
      g = g;
      d = d;
      need = krylov_need g.n d M g.stored;
      eta = eta;
      b = coupling_by g.n f tau d eta.eta;
      k = krylov g.n d M tau (bound tau g.norm) o.tol;
      limit = o.max_substeps;
    }

-- unless 21, 22 by eta, 24 or 26 refuses it
abbrev pub run_by : Shape → Float → ℕ → List Float → Scaling → KrylovPhiOptions → ℕ → ℕ → Result RunJob Refusal
run_by g tau d f eta o M memory = or_first (run_checks g.n tau d f eta.eta (bound tau g.norm) memory (krylov_need g.n d M g.stored)) (run_job_by g tau d f eta o M)

-- eta of the sum of a job's shares, or what a run began with
unfoldable pub scaling_by : Option Float → Float → Scaling
scaling_by None sum = eta_scaling sum
scaling_by (Some x) sum = record { eta = x; inv = 1f }

abbrev pub scaling_of : Shape → Float → ℕ → List Float → Option Float → Scaling
scaling_of g tau count w eta = scaling_by eta (magnitude g.n (further g.n w) tau (count - 1))

-- 12 to 22, 24 and 26 over a generator with the numbers g
unfoldable pub checks_after : Shape → Float → ℕ → List Float → Float → KrylovPhiOptions → List Check → ℕ → List Check
checks_after g tau count w eta o of_lengths memory =
    let d = count - 1 in
    let M = dimension g.n d o.m in
    vector_checks_by (time_checks tau) of_lengths count w
    ++ (option_checks o M ++ run_checks g.n tau d (further g.n w) eta (bound tau g.norm) memory (krylov_need g.n d M g.stored))

-- the job, unless one of them refuses it
abbrev pub admitted : Shape → Float → ℕ → List Float → Scaling → KrylovPhiOptions → List Check → ℕ → Result RunJob Refusal
admitted g tau count w eta o of_lengths memory =
    or_first (checks_after g tau count w eta.eta o of_lengths memory) (run_job_by g tau (count - 1) (further g.n w) eta o (dimension g.n (count - 1) o.m))

-- a job that passed: of the vectors and the memory the lengths
pub record Allowed (starts cols : List ℕ) (vals mass : List Float) (j : RunJob) (vectors memory : ℕ) : Type 0 where
  pub passed : Passed (csr j.g.n starts cols vals) (given j.g.with_mass mass) j.g
  pub coupled : Coupled j.b j.g.n j.d vectors
  pub placed : j.k ≡ krylov j.g.n j.d j.k.m j.k.tau j.k.anorm j.k.tol
  pub small : j.k.m ≤ 128
  pub clamped : clamp_m j.k.m (j.g.n + j.d) ≡ j.k.m
  pub limited : j.limit ≤ 1000000
  pub needed : j.need ≡ krylov_need j.g.n j.d j.k.m j.g.stored
  pub enough : j.need ≤ memory

-- its run from the field y, over the matrix q
abbrev pub run_of : RunJob → Csr → List Float → List Float → End
run_of j q vectors y =
    expv (augmented q j.d vectors j.b.places j.b.gains j.b.count) j.k.tau j.k.anorm j.k.tol j.k.m j.limit y

-- the answer that its end is told by
unfoldable pub answer_of : RunAnswer → KrylovAnswer
answer_of (Finished c r) = Ok r
answer_of (Refused e c r) = Err e
