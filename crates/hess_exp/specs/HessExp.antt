-- `hess_exp_e1` (phi_krylov_arnoldi.rs): e ^ (t H) e_1 for the leading mx rows and columns of h, which is stored in columns of dim, row r with
-- entries from column r - 1 on; by Taylor sweeps on the vector. Definitions only.
use Rattle.std.specs.Prelude.{List, map, ℕ, ◌+◌, replicate, set, Float, Option, Some, None}
use Rattle.lists.specs.Loop.{iter, zip_with}
use Rattle.doubles.specs.F64.{◌⊕◌, ◌⊗◌, ◌⊘◌, nat, +0, 1f, at, abs, max_num}
use Rattle.doubles.specs.Sum.{sum, open_sum}
use Rattle.expmv.specs.Select.{select_s_m, M_MAX, open_select}
use Rattle.expmv.specs.declared.Row.{Row}
use Rattle.hess_rows.specs.HessProduct.{place, hess_product, open_hess_product}

-- the largest column sum of sizes; a NaN sum is dropped
unfoldable pub column_sum_norm : List Float → ℕ → ℕ → Float
column_sum_norm h dim mx = iter (λ c m. max_num m (sum mx (λ r. abs (at h (place dim r c))))) mx +0

-- the sum so far and the last term
pub record Terms : Type 0 where
  pub y : List Float
  pub w : List Float

-- term k + 1: w becomes (ts / (k + 1)) H w, and y becomes y + w
unfoldable pub term_step : List Float → ℕ → ℕ → Float → ℕ → Terms → Terms
term_step h dim mx ts k s =
    let f = ts ⊘ nat (k + 1) in
    let w = map (λ x. f ⊗ x) (hess_product h dim mx s.w) in
    record { y = zip_with ◌⊕◌ s.y w; w = w }

unfoldable pub hess_sweep : List Float → ℕ → ℕ → Float → ℕ → List Float → List Float
hess_sweep h dim mx ts deg y = (iter (term_step h dim mx ts) deg (record { y = y; w = y })).y

-- the first unit vector
unfoldable pub e1 : ℕ → List Float
e1 mx = set (replicate mx +0) 0 1f

-- no plan for the argument, or the column
pub data Small : Type 0 where
  unplanned : Float → Small
  column : List Float → Small

unfoldable pub swept : List Float → ℕ → ℕ → Float → Float → Option Row → Small
swept h dim mx t arg None = unplanned arg
swept h dim mx t arg (Some r) = column (iter (λ _ y. hess_sweep h dim mx (t ⊘ nat r.s) r.m y) r.s (e1 mx))

unfoldable pub hess_exp_e1 : List Float → ℕ → ℕ → Float → Small
hess_exp_e1 h dim mx t = let arg = t ⊗ column_sum_norm h dim mx in swept h dim mx t arg (select_s_m M_MAX arg)

-- to compute: a line `unfolding open_hess_exp` opens every definition of this file and of those below it
unfoldable pub open_hess_exp : Unit {0}
unfolding column_sum_norm term_step hess_sweep e1 swept hess_exp_e1 open_sum open_select open_hess_product
open_hess_exp = tt
