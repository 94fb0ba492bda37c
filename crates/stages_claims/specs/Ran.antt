-- What the first stages of a schedule ran, said by single calls alone, with the numbers read from its lists (document 02, N11). Definitions only.
use Rattle.std.specs.Prelude.{◌≡◌, List, [], ◌∷◌, ◌++◌, ℕ, zero, suc, ◌+◌, ◌-◌, ◌*◌, ◌≤◌, eqb, length, get_or, Float, if◌then◌else◌}
use Rattle.std.specs.Float.{nan}
use Rattle.lists.specs.Window.{window}
use Rattle.generator_action.specs.Generator.{Generator}
use Rattle.combination.specs.Call.{Call}
use Rattle.phi_solver.specs.Combine.{combine}
use Rattle.phi_solver.specs.declared.PhiSolver.{PhiSolver}
use Rattle.phi_solver.specs.declared.PhiSolver.TheVariants as solver
use Rattle.phi_solver.specs.Combine.{PhiAnswer}
use Rattle.phi_solver.specs.declared.PhiReport.TheVariants.{Taylor, Krylov}
use Rattle.schedule_checks.specs.Schedule.{Schedule}
use Rattle.schedule_checks.specs.declared.StagedReport.{StagedReport}
use Rattle.std.specs.Prelude.{Ok, Err}

-- ---- stage i + 1, by its numbers
abbrev pub solver_at : Schedule → ℕ → PhiSolver
solver_at s i =
    if eqb (get_or s.solvers i 0) 0
    then solver.Taylor (get_or s.degrees i 0)
    else solver.Krylov (record { tol = get_or s.tols i nan; m = get_or s.ms i 0; max_substeps = get_or s.limits i 0 })

abbrev pub count_at : Schedule → ℕ → ℕ
count_at s i = get_or s.counts i 0

-- how many further vectors the first i stages bring
unfoldable pub vectors_before : Schedule → ℕ → ℕ
vectors_before s zero = 0
vectors_before s (suc i) = vectors_before s i + (count_at s i - 1)

-- a call that gave a result
abbrev pub Gave : PhiAnswer → Type 0
Gave (Err r) = ⊥
Gave (Ok (Taylor t)) = Unit {0}
Gave (Ok (Krylov t)) = Unit {0}

-- ---- what was counted
abbrev pub applications_of : PhiAnswer → ℕ
applications_of (Err r) = 0
applications_of (Ok (Taylor t)) = t.applications
applications_of (Ok (Krylov t)) = t.matvecs

abbrev pub substeps_of : PhiAnswer → ℕ
substeps_of (Err r) = 0
substeps_of (Ok (Taylor t)) = 0
substeps_of (Ok (Krylov t)) = t.substeps

abbrev pub rejected_of : PhiAnswer → ℕ
rejected_of (Err r) = 0
rejected_of (Ok (Taylor t)) = 0
rejected_of (Ok (Krylov t)) = t.rejected

unfoldable pub total : (PhiAnswer → ℕ) → List PhiAnswer → ℕ
total f [] = 0
total f (a ∷ xs) = f a + total f xs

-- the plain sums
abbrev pub sums : List PhiAnswer → StagedReport
sums xs = record { applications = total applications_of xs; substeps = total substeps_of xs; rejected = total rejected_of xs }

module _ (g : Generator) (s : Schedule) (start further output memory : List Float) where
  -- the single call of stage i + 1 from the field f
  abbrev pub call_at : ℕ → List Float → List Float → List Float → Call PhiAnswer
  call_at i f o m =
      combine (solver_at s i) g (get_or s.taus i nan) (count_at s i)
      (f ++ window (vectors_before s i * g.matrix.n) ((count_at s i - 1) * g.matrix.n) further) o m

  -- one more stage after those of `before`: its vectors lie in the slice, and its call gave a result
  pub record Next (i : ℕ) (before : List Float → List Float → List Float → List PhiAnswer → Type 0) (f o m : List Float) (xs : List PhiAnswer) : Type 0 where
    pub field : List Float
    pub out : List Float
    pub lent : List Float
    pub answers : List PhiAnswer
    pub earlier : before field out lent answers
    pub lies : vectors_before s (suc i) * g.matrix.n ≤ length further
    pub gave : Gave (call_at i field out lent).answer
    pub field_is : f ≡ (call_at i field out lent).output
    pub output_is : o ≡ (call_at i field out lent).output
    pub memory_is : m ≡ (call_at i field out lent).memory
    pub answers_are : xs ≡ answers ++ ((call_at i field out lent).answer ∷ [])

  -- the first i stages gave results, the answers xs: w_0 of the next stage, the output and the working memory are f, o and m
  unfoldable pub Ran : ℕ → List Float → List Float → List Float → List PhiAnswer → Type 0
  Ran zero f o m xs = (f ≡ start) × (o ≡ output) × (m ≡ memory) × (xs ≡ [])
  Ran (suc i) f o m xs = Next i (Ran i) f o m xs
