-- A start and a step over a job that passed its checks: cited by contracts of inner functions, and by no definition of a call. Definitions only.
use Rattle.std.specs.Prelude.{Bool, true, false, not, ◌||◌, List, [], ◌∷◌, ℕ, ◌+◌, eqb, Option, Some, None, Float}
use Rattle.lists.specs.Walk.{Turn, on, out}
use Rattle.lists.specs.Window.{window}
use Rattle.doubles.specs.F64.{◌⊗◌, +0, 1f, nat}
use Rattle.vectors.specs.Vectors.{scale}
use Rattle.pow2.specs.declared.Scale.{Scale}
use Rattle.checks.specs.First.{Check, refuse}
use Rattle.general_operator.specs.Csr.{Csr, csr}
use Rattle.generator_action.specs.Mass.{given}
use Rattle.generator_action.specs.declared.Shape.{Shape}
use Rattle.phi_action_helpers.specs.Augmented.{augmented}
use Rattle.combination.specs.Call.{cleared}
use Rattle.taylor_schedule.specs.Inner.{after_checks}
use Rattle.gram_schmidt.specs.Basis.{Setting, norm2}
use Rattle.krylov_advance.specs.Run.{State, End, finished, refused, setting, first_length, empty_report}
use Rattle.krylov_advance.specs.declared.Control.{Control}
use Rattle.krylov_advance.specs.declared.KrylovPhiReport.{KrylovPhiReport}
use Rattle.krylov_advance.specs.declared.Progress.{Progress}
use Rattle.krylov_advance.specs.declared.Progress.TheVariants.{On, Finished, Refused}
use Rattle.krylov_job.specs.declared.KrylovPhiOptions.{KrylovPhiOptions}
use Rattle.krylov_job.specs.declared.RunJob.{RunJob}
use Rattle.paused_run.specs.declared.PausedRun.{PausedRun}
use Rattle.paused_run.specs.Paused.{StartAnswer, StepAnswer}
use Rattle.paused_run.specs.Paused.{Job, PausedCall, leaves, verdict, field_after}
use Rattle.std.specs.Prelude.{Ok}
use Rattle.checks.specs.declared.Reason.TheVariants.{VectorLength}

-- a job over a generator that passed the checks gs
abbrev pub job_over : List Check → Shape → List ℕ → List ℕ → List Float → List Float → Float → ℕ → List Float → Job
job_over gs g starts cols vals mass tau count w =
    record { g = after_checks gs (csr g.n starts cols vals) (given g.with_mass mass) g; tau = tau; count = count; w = w }

-- 16 of a job of n rows and `count` vectors, whose values are `long`
abbrev pub other_checks_by : PausedRun → ℕ → ℕ → ℕ → List Check
other_checks_by s n count long = refuse VectorLength (not (eqb n s.n) || not (eqb count s.count)) (nat long) ∷ []

-- ---- the start
abbrev pub fresh_of : KrylovPhiOptions → RunJob → Scale → Float → Float → Bool → PausedRun
fresh_of o j f norm next ended =
    record {
      time = +0;
      next = next;
      report = empty_report;
      eta = j.eta.eta;
      factors = f;
      norm = norm;
      tol = o.tol;
      m = o.m;
      limit = o.max_substeps;
      n = j.g.n;
      count = j.d + 1;
      ended = ended;
    }

-- from the field y, scaled
abbrev pub first_of : KrylovPhiOptions → RunJob → Scale → List Float → PausedRun
first_of o j f y = fresh_of o j f (norm2 y) (first_length j.k.m j.k.anorm (o.tol ⊗ norm2 y) (norm2 y)) false

unfoldable pub begun_of : KrylovPhiOptions → RunJob → List Float → List Float → Option Scale → PausedCall StartAnswer
begun_of o j y memory None = leaves (Ok (fresh_of o j (record { down = 1f; up = 1f }) +0 +0 true)) (window 0 j.g.n y) memory y
begun_of o j y memory (Some f) =
    let y₀ = scale f.down y in
    leaves (Ok (first_of o j f y₀)) (window 0 j.g.n (scale f.up y₀)) memory y₀

-- ---- a step
-- what a substep is made with: the job's operator over the matrix q, and tol times the run's first norm
abbrev pub setting_for : RunJob → Csr → List Float → Float → Setting
setting_for j q vectors norm = setting (augmented q j.d vectors j.b.places j.b.gains j.b.count) j.k.tau j.k.anorm (j.k.tol ⊗ norm) j.k.m

-- the answer of a substep, with the field that it leaves
abbrev pub state : Control → KrylovPhiReport → List Float → State
state c r y = record { control = c; report = r; y = y }

unfoldable pub turned : Progress → List Float → Turn State End
turned (On c r) y = on (state c r y)
turned (Finished c r) y = out (finished (state c r y))
turned (Refused e c r) y = out (refused e.reason e.value (state c r y))

unfoldable pub after_of : PausedRun → Float → RunJob → List Float → Turn State End → PausedCall StepAnswer
after_of s tol j memory o = leaves (verdict s tol o) (window 0 j.g.n (scale s.factors.up (field_after o))) (cleared j.need memory) (field_after o)
