-- The parts of `hess_exp_e1` that functions of their own give, and what a SmallExp stands for. Definitions only.
use Rattle.std.specs.Prelude.{List, ℕ, Float, if◌then◌else◌}
use Rattle.lists.specs.Window.{window}
use Rattle.doubles.specs.F64.{at, abs}
use Rattle.doubles.specs.Sum.{sum}
use Rattle.hess_rows.specs.HessProduct.{place}
use Rattle.hess_exp.specs.declared.SmallExp.{SmallExp}
use Rattle.hess_exp.specs.HessExp.{Terms, Small, unplanned, column}

-- the sum of the sizes in column c
abbrev pub column_sum : List Float → ℕ → ℕ → ℕ → Float
column_sum h dim mx c = sum mx (λ r. abs (at h (place dim r c)))

abbrev pub terms : List Float → List Float → Terms
terms y w = record { y = y; w = w }

unfoldable pub small_of : ℕ → SmallExp → Small
small_of mx r = if r.planned then column (window 0 mx r.column) else unplanned r.argument
