-- Where the generator's values lie: with a mass the quotients stand in the lent memory, without one the entries are the caller's; and its product
-- by a factor. Definitions only.
use Rattle.std.specs.Prelude.{Bool, true, false, List, ℕ, ◌+◌, ◌≤◌, length, Float, if◌then◌else◌}
use Rattle.lists.specs.Loop.{tabulate}
use Rattle.lists.specs.Window.{window}
use Rattle.lists.specs.Bounds.{Disjoint}
use Rattle.doubles.specs.F64.{◌⊗◌}
use Rattle.general_operator.specs.Csr.{Csr, start, row_product}

-- with a mass, as many values as there are entries, from place `at`
unfoldable pub values : Bool → ℕ → List Float → List Float → List Float
values true at entries work = window at (length entries) work
values false at entries work = entries

-- with a mass the values fit into the lent memory and lie beside the n places from dst
abbrev pub Stored : Bool → ℕ → ℕ → ℕ → ℕ → ℕ → Type 0
Stored true at count dst n long = (at + count ≤ long) × Disjoint dst n at count
Stored false at count dst n long = Unit

-- x, or tau x
unfoldable pub factored : Bool → Float → Float → Float
factored scaled tau x = if scaled then tau ⊗ x else x

-- G x, or tau G x: each row's product by tau
unfoldable pub generator_by : Bool → Float → Csr → List Float → List Float
generator_by scaled tau q x = tabulate q.n (λ i. factored scaled tau (row_product q.columns q.entries x (start q i) (start q (i + 1))))
