-- What the functions behind the exported ones answer: cited by their contracts, and by no contract of an exported one. Definitions only.
use Rattle.std.specs.Prelude.{List, ℕ, Float}
use Rattle.general_operator.specs.Csr.{Csr}
use Rattle.generator_action.specs.Mass.{Mass}
use Rattle.transpose.specs.Transpose.{Buffers, lengths, buffers_after, transposed, transposed_answer}
use Rattle.transposed.specs.Transposed.{Lending, lends}
use Rattle.answers.specs.Told.{Numbers, matrix_numbers}
use Rattle.transposed_told.specs.Telling.{MatrixTold, matrix_told}
use Rattle.byte_calls.specs.Inner.{called}
use Rattle.byte_calls.specs.declared.PhiCall.{PhiCall}

-- the four calls over the transposed generator, told as numbers
unfoldable pub called_transposed : PhiCall → Csr → Mass → Buffers → Float → ℕ → List Float → List Float → List Float → Lending Numbers
called_transposed call a mass b tau k v output memory = lends (called call (transposed a mass (lengths b)) tau k v output memory) (buffers_after a mass b)

-- the check of the matrix
unfoldable pub checked_transposed : Csr → Mass → Buffers → MatrixTold
checked_transposed a mass b = matrix_told (matrix_numbers (transposed_answer a mass (lengths b))) (buffers_after a mass b)
