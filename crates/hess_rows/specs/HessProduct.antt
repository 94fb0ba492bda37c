-- The product with the leading mx rows and columns of h, which is stored in columns of dim, row r with entries from column r - 1 on
-- (phi_krylov_arnoldi.rs, in `hess_exp_e1`). Definitions only.
use Rattle.std.specs.Prelude.{List, ℕ, ◌+◌, ◌-◌, ◌*◌, Float}
use Rattle.lists.specs.Loop.{tabulate}
use Rattle.doubles.specs.F64.{◌⊗◌, at}
use Rattle.doubles.specs.Sum.{sum, open_sum}

-- where the entry of row r and column c stands (the Rust's rows are columns here)
abbrev pub place : ℕ → ℕ → ℕ → ℕ
place dim r c = c * dim + r

-- H w
unfoldable pub hess_product : List Float → ℕ → ℕ → List Float → List Float
hess_product h dim mx w = tabulate mx (λ r. sum (mx - (r - 1)) (λ i. at h (place dim r (r - 1 + i)) ⊗ at w (r - 1 + i)))

-- to compute
unfoldable pub open_hess_product : Unit {0}
unfolding hess_product open_sum
open_hess_product = tt
