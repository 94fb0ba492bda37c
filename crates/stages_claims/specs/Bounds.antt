-- What the counts of a stage are at most (document 02, N11; document 01, 'What demand 3 counts'). Definitions only.
use Rattle.std.specs.Prelude.{◌≡◌, true, List, [], ◌∷◌, ◌++◌, ℕ, zero, suc, ◌+◌, ◌-◌, ◌*◌, ◌≤◌, ◌<◌, Float, get_or}
use Rattle.std.specs.Float.{nan}
use Rattle.general_operator.specs.Csr.{row_sum_norm}
use Rattle.generator_action.specs.Generator.{Generator}
use Rattle.expmv.specs.Select.{cost}
use Rattle.demand_3.specs.Taylor.{asked, row_fits}
use Rattle.demand_3.specs.Demand3.{clamped}
use Rattle.phi_solver.specs.declared.PhiSolver.{PhiSolver}
use Rattle.phi_solver.specs.declared.PhiSolver.TheVariants as solver
use Rattle.phi_solver.specs.Combine.{PhiAnswer}
use Rattle.schedule_checks.specs.Schedule.{Schedule}
use Rattle.stages_claims.specs.Ran.{solver_at, count_at, applications_of, substeps_of, rejected_of}

-- Taylor: no substeps, nothing rejected, and no more products than any admissible row up to the cap costs; Krylov: at most `limit` substeps, M + 1 products and ten
-- rejections for each
abbrev pub BoundedBy : PhiSolver → Generator → Float → ℕ → PhiAnswer → Type 0
BoundedBy (solver.Taylor cap) g tau count a =
    (substeps_of a ≡ 0) × (rejected_of a ≡ 0) × ((j : ℕ) → j < 22 → row_fits cap (asked tau (row_sum_norm g.matrix)) j ≡ true → applications_of a ≤ cost (asked tau (row_sum_norm g.matrix)) j)
BoundedBy (solver.Krylov o) g tau count a =
    (substeps_of a ≤ o.max_substeps) × (applications_of a ≤ suc (clamped o.m (g.matrix.n + (count - 1))) * substeps_of a) × (rejected_of a ≤ 10 * substeps_of a)

-- one answer more
pub record More (Bounded : PhiAnswer → Type 0) (before : List PhiAnswer → Type 0) (xs : List PhiAnswer) : Type 0 where
  pub answers : List PhiAnswer
  pub answer : PhiAnswer
  pub earlier : before answers
  pub bounded : Bounded answer
  pub answers_are : xs ≡ answers ++ (answer ∷ [])

-- the answers of the first i stages, each within its stage's bounds
unfoldable pub Bounds : Generator → Schedule → ℕ → List PhiAnswer → Type 0
Bounds g s zero xs = xs ≡ []
Bounds g s (suc i) xs = More (BoundedBy (solver_at s i) g (get_or s.taus i nan) (count_at s i)) (Bounds g s i) xs
