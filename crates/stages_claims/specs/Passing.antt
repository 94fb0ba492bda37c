-- When 12 to 16 of a stage pass (document 02, N11), and what its call needs of the working memory. Definitions only.
use Rattle.std.specs.Prelude.{◌≡◌, Bool, true, false, ℕ, zero, suc, ◌+◌, ◌-◌, ◌*◌, ◌≤◌, ltb, Float, if◌then◌else◌}
use Rattle.generator_action.specs.Generator.{Generator}
use Rattle.combination.specs.Checks.{out_of_range, taylor_need}
use Rattle.krylov_job.specs.KrylovCall.{dimension, krylov_need}
use Rattle.phi_solver.specs.declared.PhiSolver.{PhiSolver}
use Rattle.phi_solver.specs.declared.PhiSolver.TheVariants.{Taylor, Krylov}
use Rattle.schedule_checks.specs.declared.Stage.{Stage}
use Rattle.schedule_checks.specs.Schedule.{Schedule}
use Rattle.stages_claims.specs.Ran.{solver_at, count_at}

-- tau is in range, and Taylor's cap is 1 to 30
abbrev pub Timed : PhiSolver → Float → Type 0
Timed (Taylor cap) tau = (out_of_range tau ≡ false) × (1 ≤ cap) × (cap ≤ 30)
Timed (Krylov o) tau = out_of_range tau ≡ false

-- and the lengths are those wanted; at the last stage nothing is left of the slice
pub record Passing (n : ℕ) (s : Stage) (last : Bool) (output field used further : ℕ) : Type 0 where
  pub some : 1 ≤ s.count
  pub most : s.count ≤ 4
  pub timed : Timed s.solver s.tau
  pub out : output ≡ n
  pub fielded : field ≡ n
  pub within : used + (s.count - 1) * n ≤ further
  pub all : last ≡ true → used + (s.count - 1) * n ≡ further

-- what a call needs of the working memory
abbrev pub need_of : PhiSolver → Generator → ℕ → ℕ
need_of (Taylor cap) g count = taylor_need g.matrix.n (count - 1) g.stored
need_of (Krylov o) g count = krylov_need g.matrix.n (count - 1) (dimension g.matrix.n (count - 1) o.m) g.stored

abbrev pub larger : ℕ → ℕ → ℕ
larger a b = if ltb a b then b else a

-- the largest need of the first i stages
unfoldable pub largest_need : Generator → Schedule → ℕ → ℕ
largest_need g s zero = 0
largest_need g s (suc i) = larger (largest_need g s i) (need_of (solver_at s i) g (count_at s i))
