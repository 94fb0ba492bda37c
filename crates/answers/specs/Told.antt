-- An answer as the numbers that an exported function hands back (document 01, 'Oracle'). Definitions only.
use Rattle.std.specs.Prelude.{Bool, true, false, List, ℕ, Float}
use Rattle.doubles.specs.F64.{+0}
use Rattle.generator_action.specs.Answer.{MatrixAnswer}
use Rattle.join_rows.specs.Join.{Call}
use Rattle.join_rows.specs.Join.{JoinAnswer}
use Rattle.taylor_job.specs.Calls.{TaylorAnswer}
use Rattle.krylov_job.specs.declared.KrylovPhiOptions.{KrylovPhiOptions}
use Rattle.krylov_job.specs.KrylovCall.{KrylovAnswer}
use Rattle.phi_solver.specs.declared.PhiSolver.{PhiSolver}
use Rattle.phi_solver.specs.declared.PhiSolver.TheVariants.{Taylor, Krylov}
use Rattle.phi_solver.specs.Combine.{PhiAnswer}
use Rattle.phi_solver.specs.declared.PhiReport.TheVariants as phi
use Rattle.std.specs.Prelude.{Ok, Err}
use Rattle.checks.specs.Reasons.{number}

-- 0 or the refusal's number, the double reported, three counts, and the shortest and the last accepted step
pub record Numbers : Type 0 where
  pub number : ℕ
  pub value : Float
  pub first : ℕ
  pub second : ℕ
  pub third : ℕ
  pub shortest : Float
  pub last : Float

abbrev pub run_numbers : ℕ → Float → ℕ → ℕ → ℕ → Float → Float → Numbers
run_numbers k x a b c shortest last = record { number = k; value = x; first = a; second = b; third = c; shortest = shortest; last = last }

-- where there are no steps
abbrev pub numbers : ℕ → Float → ℕ → ℕ → ℕ → Numbers
numbers k x a b c = run_numbers k x a b c +0 +0

-- of a matrix: the norm and the first row that has it; the row of a refusal is 0
unfoldable pub matrix_numbers : MatrixAnswer → Numbers
matrix_numbers (Err r) = numbers (number r.reason) r.value 0 0 0
matrix_numbers (Ok l) = numbers 0 l.norm l.row 0 0

-- of a join: the number of entries of the result; that of a refusal is 0
unfoldable pub join_numbers : JoinAnswer → Numbers
join_numbers (Err r) = numbers (number r.reason) r.value 0 0 0
join_numbers (Ok entries) = numbers 0 +0 entries 0 0

-- and what its output slices hold
pub record JoinTold : Type 0 where
  pub told : Numbers
  pub starts : List ℕ
  pub columns : List ℕ
  pub values : List Float

abbrev pub join_told : Numbers → List ℕ → List ℕ → List Float → JoinTold
join_told t starts columns values = record { told = t; starts = starts; columns = columns; values = values }

abbrev pub telling_join : Call → JoinTold
telling_join c = join_told (join_numbers c.answer) c.starts c.columns c.values

-- of Taylor: mu, s, m and the applications
unfoldable pub taylor_numbers : TaylorAnswer → Numbers
taylor_numbers (Err r) = numbers (number r.reason) r.value 0 0 0
taylor_numbers (Ok r) = numbers 0 r.mu r.s r.m r.applications

-- of Krylov: the estimate, the substeps, the applications, the rejections, and the two steps (document 02, N10)
unfoldable pub krylov_numbers : KrylovAnswer → Numbers
krylov_numbers (Err r) = numbers (number r.reason) r.value 0 0 0
krylov_numbers (Ok r) = run_numbers 0 r.est_error r.substeps r.matvecs r.rejected r.shortest r.last

-- of either solver: what its own call tells
unfoldable pub phi_numbers : PhiAnswer → Numbers
phi_numbers (Err r) = numbers (number r.reason) r.value 0 0 0
phi_numbers (Ok (phi.Taylor r)) = taylor_numbers (Ok r)
phi_numbers (Ok (phi.Krylov r)) = krylov_numbers (Ok r)

-- tol, m and max_substeps, handed in as numbers (phi_krylov.rs, `KrylovPhiOptions`)
abbrev pub options : Float → ℕ → ℕ → KrylovPhiOptions
options tol m limit = record { tol = tol; m = m; max_substeps = limit }

-- the solver asked for: Krylov with its options, or Taylor up to a degree (phi_krylov.rs, `PhiSolver`)
unfoldable pub solver : Bool → ℕ → KrylovPhiOptions → PhiSolver
solver true degree o = Krylov o
solver false degree o = Taylor degree
