-- What an answer of a soak in stages says (document 02, N11). Definitions only.
use Rattle.std.specs.Prelude.{◌≡◌, ◌⊎◌, List, ℕ, ◌+◌, ◌*◌, ◌<◌, eqb, length, Float}
use Rattle.checks.specs.First.{Check, first}
use Rattle.generator_action.specs.Generator.{Generator}
use Rattle.phi_solver.specs.Combine.{PhiAnswer}
use Rattle.schedule_checks.specs.Schedule.{Schedule, stage, stages_of, schedule_checks, stage_checks}
use Rattle.schedule_checks.specs.declared.StagedReport.{StagedReport}
use Rattle.stages_claims.specs.Ran.{vectors_before, sums, call_at, Ran}
use Rattle.checks.specs.Reasons.{Sound, Refused}
use Rattle.checks.specs.declared.Reason.{Reason}

module _ (g : Generator) (s : Schedule) (start further output memory : List Float) where
  -- a result with the report r leaves o and m: every stage's call gave a result, the last of them o and m; the slice is used up exactly, and the report has the plain sums
  pub record Complete (r : StagedReport) (o m : List Float) : Type 0 where
    pub scheduled : Sound ≡ first (schedule_checks s)
    pub answers : List PhiAnswer
    pub ran : Ran g s start further output memory (stages_of s) o o m answers
    pub used_up : vectors_before s (stages_of s) * g.matrix.n ≡ length further
    pub counts : r ≡ sums answers

  -- 12 to 16 of stage i + 1 from the field f, with the lengths of what is handed in and the vectors of the stages before
  abbrev pub stage_list : ℕ → List Float → List Float → List Check
  stage_list i f o =
      stage_checks g.matrix.n (stage s i) (eqb (i + 1) (stages_of s)) (length o) (length f) (vectors_before s i * g.matrix.n) (length further)

  -- by that list, which changes nothing
  abbrev pub ByList : ℕ → List Float → List Float → List Float → Reason → Float → List Float → List Float → Type 0
  ByList i f o m k x o' m' = (first (stage_list i f o) ≡ Refused k x) × (o' ≡ o) × (m' ≡ m)

  -- or, where that list passes, by its single call
  abbrev pub ByCall : ℕ → List Float → List Float → List Float → Reason → Float → List Float → List Float → Type 0
  ByCall i f o m k x o' m' =
      let c = call_at g s start further output memory i f o m in
      (Sound ≡ first (stage_list i f o)) × (c.answer ≡ Refused k x) × (o' ≡ c.output) × (m' ≡ c.memory)

  -- stage i + 1 refuses by k with x and leaves o' and m': the stages before it have results
  pub record RefusedAt (i : ℕ) (k : Reason) (x : Float) (o' m' : List Float) : Type 0 where
    pub reached : i < stages_of s
    pub field : List Float
    pub out : List Float
    pub lent : List Float
    pub answers : List PhiAnswer
    pub ran : Ran g s start further output memory i field out lent answers
    pub refused : ByList i field out lent k x o' m' ⊎ ByCall i field out lent k x o' m'
