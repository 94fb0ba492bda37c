-- What the functions of a stage know and answer: cited by their contracts, and by no definition of the call. Definitions only.
use Rattle.std.specs.Prelude.{List, ◌≡◌, ℕ, ◌+◌, ◌*◌, ◌≤◌, length, Float}
use Rattle.lists.specs.Walk.{Turn, on, out}
use Rattle.combination.specs.Call.{Call, ends}
use Rattle.phi_solver.specs.Combine.{PhiAnswer}
use Rattle.phi_solver.specs.declared.PhiReport.TheVariants as phi
use Rattle.schedule_checks.specs.Schedule.{StagedAnswer, Schedule, stages_of, Progress}
use Rattle.schedule_checks.specs.declared.StageRefusal.{StageRefusal}
use Rattle.schedule_checks.specs.declared.SoFar.{SoFar}
use Rattle.std.specs.Prelude.{Result, Ok, Err}

abbrev pub schedule_of : List Float → List ℕ → List ℕ → List ℕ → List Float → List ℕ → List ℕ → Schedule
schedule_of taus counts solvers degrees tols ms limits =
    record { taus = taus; counts = counts; solvers = solvers; degrees = degrees; tols = tols; ms = ms; limits = limits }

-- 1 to 64 stages, and a number of each list for every stage
pub record Even (s : Schedule) : Type 0 where
  pub some : 1 ≤ stages_of s
  pub most : stages_of s ≤ 64
  pub counts : length s.counts ≡ stages_of s
  pub solvers : length s.solvers ≡ stages_of s
  pub degrees : length s.degrees ≡ stages_of s
  pub tols : length s.tols ≡ stages_of s
  pub ms : length s.ms ≡ stages_of s
  pub limits : length s.limits ≡ stages_of s

-- ---- from stage to stage
-- the soak goes on, or a stage ended it by a refusal
abbrev pub StageTurn : Type 0
StageTurn = Result SoFar StageRefusal

-- after some stages, with w_0 of the next, what the output holds and the memory
unfoldable pub turn_at : StageTurn → List Float → List Float → List Float → Turn Progress (Call StagedAnswer)
turn_at (Ok p) field output memory = on (record { field = field; output = output; memory = memory; used = p.used; report = p.report })
turn_at (Err e) field output memory = out (ends (Err e) output memory)

-- the vectors and the counts of a call that gave a result
abbrev pub Few : ℕ → PhiAnswer → Type 0
Few count (Err r) = Unit {0}
Few count (Ok (phi.Taylor t)) = (1 ≤ count) × (count ≤ 4) × (t.applications ≤ 128849018850)
Few count (Ok (phi.Krylov t)) = (1 ≤ count) × (count ≤ 4) × (t.matvecs ≤ 129000000) × (t.substeps ≤ 1000000) × (t.rejected ≤ 10000000)

-- what i stages use of the further vectors' slice, and their counts
abbrev pub Counted : ℕ → SoFar → Type 0
Counted i p = (p.used ≤ 3000000 * i) × (p.report.applications ≤ 128849018850 * i) × (p.report.substeps ≤ 1000000 * i) × (p.report.rejected ≤ 10000000 * i)

abbrev pub Moderate : ℕ → StageTurn → Type 0
Moderate i (Ok p) = Counted i p
Moderate i (Err e) = Unit {0}

-- one more call
abbrev pub counted_by : SoFar → ℕ → ℕ → ℕ → ℕ → SoFar
counted_by p need applications substeps rejected =
    record {
      used = p.used + need;
      report = record { applications = p.report.applications + applications; substeps = p.report.substeps + substeps; rejected = p.report.rejected + rejected };
    }
