-- The schedule of a soak in stages, and what is made of one stage (document 02, N11): its checks 12 to 16, 37, and the counts. Definitions only.
use Rattle.std.specs.Prelude.{Bool, true, false, not, ◌&&◌, ◌||◌, List, [], ◌∷◌, ◌++◌, ℕ, ◌+◌, ◌-◌, ◌*◌, ltb, eqb, length, get_or, Float}
use Rattle.std.specs.Float.{nan}
use Rattle.lists.specs.Walk.{Turn, on, out}
use Rattle.doubles.specs.F64.{nat, at}
use Rattle.checks.specs.First.{Check, refuse}
use Rattle.combination.specs.Checks.{count_checks, time_checks, plan_checks, length_checks}
use Rattle.combination.specs.Call.{Call, ends}
use Rattle.phi_solver.specs.declared.PhiSolver.{PhiSolver}
use Rattle.phi_solver.specs.declared.PhiSolver.TheVariants.{Taylor, Krylov}
use Rattle.phi_solver.specs.Combine.{PhiAnswer}
use Rattle.phi_solver.specs.declared.PhiReport.TheVariants as phi
use Rattle.schedule_checks.specs.declared.Stage.{Stage}
use Rattle.schedule_checks.specs.declared.StagedReport.{StagedReport}
use Rattle.schedule_checks.specs.declared.StageRefusal.{StageRefusal}
use Rattle.checks.specs.declared.Refusal.{Refusal}
use Rattle.std.specs.Prelude.{Result, Ok, Err}
use Rattle.checks.specs.declared.Reason.TheVariants.{VectorLength, StageCount}

-- a refusal with the stage that met it, or the counts
abbrev pub StagedAnswer : Type 0
StagedAnswer = Result StagedReport StageRefusal

abbrev pub refused_at : Refusal → ℕ → StagedAnswer
refused_at r i = Err (record { refusal = r; stage = i })

-- ---- the schedule
-- the numbers of the stages, one list for each; Taylor is 0 and has a highest degree, any other number is Krylov with tol, m and max_substeps
pub record Schedule : Type 0 where
  pub taus : List Float
  pub counts : List ℕ
  pub solvers : List ℕ
  pub degrees : List ℕ
  pub tols : List Float
  pub ms : List ℕ
  pub limits : List ℕ

abbrev pub solver_of : Bool → ℕ → Float → ℕ → ℕ → PhiSolver
solver_of true degree tol m limit = Taylor degree
solver_of false degree tol m limit = Krylov (record { tol = tol; m = m; max_substeps = limit })

-- stage i + 1
unfoldable pub stage : Schedule → ℕ → Stage
stage s i =
    record {
      tau = at s.taus i;
      count = get_or s.counts i 0;
      solver = solver_of (eqb (get_or s.solvers i 0) 0) (get_or s.degrees i 0) (at s.tols i) (get_or s.ms i 0) (get_or s.limits i 0);
    }

-- how many stages there are
abbrev pub stages_of : Schedule → ℕ
stages_of s = length s.taus

-- lists that do not tell of one number of stages
abbrev pub uneven : Schedule → Bool
uneven s =
    let k = stages_of s in
    not (eqb (length s.counts) k && (eqb (length s.solvers) k && (eqb (length s.degrees) k && (eqb (length s.tols) k && (eqb (length s.ms) k && eqb (length s.limits) k)))))

-- not 1 to 64 stages
unfoldable pub schedule_checks : Schedule → List Check
schedule_checks s = refuse StageCount (eqb (stages_of s) 0 || (ltb 64 (stages_of s) || uneven s)) nan ∷ []

-- ---- one stage
-- before a stage: w_0, what the output and the working memory hold, how many numbers of the further vectors' slice are used, and the counts so far
pub record Progress : Type 0 where
  pub field : List Float
  pub output : List Float
  pub memory : List Float
  pub used : ℕ
  pub report : StagedReport

-- the numbers of a stage's further vectors
abbrev pub further_need : ℕ → Stage → ℕ
further_need n s = (s.count - 1) * n

-- the slice is too short for this stage, or too long at the last
abbrev pub wrong_slice : ℕ → Bool → ℕ → ℕ → Bool
wrong_slice need last used further = ltb further (used + need) || (last && ltb (used + need) further)

-- 14, and of Taylor 33 behind it
abbrev pub time_checks_of : PhiSolver → Float → List Check
time_checks_of (Taylor degree) tau = plan_checks tau degree
time_checks_of (Krylov o) tau = time_checks tau

-- 12 to 16 of a stage, with the lengths handed in: those of the single call, but for the two slices that its vectors come from
unfoldable pub stage_checks : ℕ → Stage → Bool → ℕ → ℕ → ℕ → ℕ → List Check
stage_checks n s last output field used further =
    count_checks s.count
    ++ (time_checks_of s.solver s.tau
    ++ (length_checks output n field n
    ++ (refuse VectorLength (wrong_slice (further_need n s) last used further) (nat further) ∷ [])))

-- the counts so far and those of a single call; Taylor has no substeps and rejects nothing
unfoldable pub counted : StagedReport → PhiAnswer → StagedReport
counted r (Err e) = r
counted r (Ok (phi.Taylor t)) = record { applications = r.applications + t.applications; substeps = r.substeps; rejected = r.rejected }
counted r (Ok (phi.Krylov t)) = record { applications = r.applications + t.matvecs; substeps = r.substeps + t.substeps; rejected = r.rejected + t.rejected }

-- a refused call ends the soak with what it leaves, and the answer names the stage; any other leaves its field to the next stage
unfoldable pub settle : ℕ → ℕ → StagedReport → Call PhiAnswer → PhiAnswer → Turn Progress (Call StagedAnswer)
settle i used r c (Err e) = out (ends (refused_at e (i + 1)) c.output c.memory)
settle i used r c (Ok (phi.Taylor t)) = on (record { field = c.output; output = c.output; memory = c.memory; used = used; report = counted r (Ok (phi.Taylor t)) })
settle i used r c (Ok (phi.Krylov t)) = on (record { field = c.output; output = c.output; memory = c.memory; used = used; report = counted r (Ok (phi.Krylov t)) })
