-- The answer to a matrix. Definitions only.
use Rattle.std.specs.Prelude.{ℕ, Float, Result, Ok, Err}
use Rattle.std.specs.Float.Ieee.{eq}
use Rattle.lists.specs.Find.{find}
use Rattle.checks.specs.First.{first}
use Rattle.checks.specs.First.{Checked}
use Rattle.general_operator.specs.Csr.{Csr, row_sum, row_sum_norm}
use Rattle.checks.specs.declared.Refusal.{Refusal}
use Rattle.generator_action.specs.declared.Largest.{Largest}
use Rattle.generator_action.specs.Mass.{Mass, quotients, generator_checks, open_mass}

-- the first row whose sum equals the norm (document 02, N1)
unfoldable pub largest_row : Csr → ℕ
largest_row q = find (λ i. eq (row_sum q i) (row_sum_norm q)) q.n

-- a refusal, or the norm and the first row that has it
abbrev pub MatrixAnswer : Type 0
MatrixAnswer = Result Largest Refusal

abbrev pub Norm : Float → ℕ → MatrixAnswer
Norm x i = Ok (record { norm = x; row = i })

unfoldable pub unless_refused : Checked → Csr → MatrixAnswer
unless_refused (Err r) q = Err r
unless_refused (Ok _) q = Norm (row_sum_norm q) (largest_row q)

-- the first refusal that holds, or the norm of the quotients and the first row that has it
unfoldable pub matrix_answer : Csr → Mass → MatrixAnswer
matrix_answer a mass = unless_refused (first (generator_checks a mass)) (quotients a mass)

-- to compute: a line `unfolding open_answer` opens every definition of this file and of those below it
unfoldable pub open_answer : Unit {0}
unfolding largest_row unless_refused matrix_answer open_mass
open_answer = tt
