-- What the checks of a job guard: cited by contracts of inner functions, and by no definition of a call. Definitions only.
use Rattle.std.specs.Prelude.{List, [], ◌∷◌, ◌++◌, ℕ, ◌+◌, ◌≤◌, ◌<◌, get_or, Float, Option, Some, None}
use Rattle.doubles.specs.F64.{1f}
use Rattle.checks.specs.First.{Check}
use Rattle.general_operator.specs.Csr.{Csr, csr}
use Rattle.generator_action.specs.Mass.{Mass, given, quotients}
use Rattle.generator_action.specs.Generator.{Generator}
use Rattle.generator_action.specs.declared.Shape.{Shape}
use Rattle.pow2.specs.Pow2.{sup, eta_scaling}
use Rattle.expmv.specs.Select.{row, select_s_m}
use Rattle.expmv.specs.declared.Row.{Row}
use Rattle.phi_shift.specs.Plan.{argument}
use Rattle.phi_action_helpers.specs.declared.Coupling.{Coupling}
use Rattle.weighted_columns.specs.Inner.{coupling_of}
use Rattle.taylor_schedule.specs.declared.Job.{Job}
use Rattle.combination.specs.Combination.{eta_of}
use Rattle.combination.specs.Checks.{schedule_checks, memory_checks, taylor_need, sweep_checks, job_checks}

-- ---- 24 and 25
-- the row found, of no sweep where there is none
abbrev pub row_of : Option Row → Row
row_of None = row 0 0
row_of (Some r) = r

abbrev pub scheduled : ℕ → Float → Float → Row
scheduled m_max norm tau = row_of (select_s_m m_max (argument tau norm))

abbrev pub host_checks : Shape → Float → ℕ → ℕ → ℕ → List Check
host_checks g tau cap d memory = schedule_checks cap g.norm tau ++ memory_checks memory (taylor_need g.n d g.stored)

-- ---- a job over a generator with the numbers g: what it takes of a combination and of an action, and what refuses it
abbrev pub job_of : Shape → Float → ℕ → ℕ → Float → Coupling → Job
job_of g tau cap d inv b =
    record {
      g = g;
      tau = tau;
      cap = cap;
      d = d;
      need = taylor_need g.n d g.stored;
      inv = inv;
      b = b;
      row = scheduled cap g.norm tau;
    }

abbrev pub combination_job : Shape → Float → ℕ → ℕ → List Float → Job
combination_job g tau cap d f = job_of g tau cap d (eta_of g.n f tau d).inv (coupling_of g.n f tau d)

-- 21, 22 and 24 to 26 of a combination, with `memory` doubles lent
abbrev pub combination_refusals : Shape → Float → ℕ → ℕ → List Float → ℕ → List Check
combination_refusals g tau cap d f memory = sweep_checks g.n tau cap d f g.norm memory (taylor_need g.n d g.stored)

-- an action has one column, v
abbrev pub one_column : Float → Coupling
one_column eta = record { places = 0 ∷ 0 ∷ 0 ∷ []; gains = eta ∷ 1f ∷ 1f ∷ []; count = 1 }

abbrev pub action_job : Shape → Float → ℕ → List Float → Job
action_job g tau cap v = job_of g tau cap 3 (eta_scaling (sup v)).inv (one_column (eta_scaling (sup v)).eta)

-- 13 to 17, 33 and 24 to 26 of an action
abbrev pub action_refusals : Shape → Float → ℕ → ℕ → List Float → ℕ → ℕ → ℕ → List Check
action_refusals g tau cap k v output wanted memory = job_checks k tau cap output wanted v g.n g.norm memory (taylor_need g.n 3 g.stored)

-- ---- what a run takes from them
-- the columns of W lie within the vectors and the chain
pub record Coupled (b : Coupling) (n d vectors : ℕ) : Type 0 where
  pub few : b.count ≤ 3
  pub chained : b.count ≤ d
  pub short : d ≤ 3
  pub columns : (j : ℕ) → j < b.count → get_or b.places j 0 + n ≤ vectors

-- Q, of the numbers g
abbrev pub matrix_of : Shape → List ℕ → List ℕ → List Float → List Float → Csr
matrix_of g starts cols vals mass = quotients (csr g.n starts cols vals) (given g.with_mass mass)

-- a generator of some checks, all passed
abbrev pub after_checks : List Check → Csr → Mass → Shape → Generator
after_checks gs a mass g = record { checks = gs; matrix = quotients a mass; stored = g.stored }
