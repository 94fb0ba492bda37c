-- What `transposed_shape` answers: cited by contracts of inner functions, and by no definition of a call. Definitions only.
use Rattle.std.specs.Prelude.{false}
use Rattle.checks.specs.First.{Checked}
use Rattle.general_operator.specs.Csr.{Csr, row_sum_norm}
use Rattle.generator_action.specs.Mass.{Mass, quotients, quotient_need}
use Rattle.transpose.specs.Transpose.{transpose}
use Rattle.std.specs.Prelude.{Ok, Err}
use Rattle.std.specs.Prelude.{Result}
use Rattle.checks.specs.declared.Refusal.{Refusal}
use Rattle.generator_action.specs.declared.Shape.{Shape}

-- a refusal, or what a job takes from its generator
abbrev pub ShapeAnswer : Type 0
ShapeAnswer = Result Shape Refusal

-- the refusal, or the numbers of the transposed generator: it has no mass, and takes the places that the forward one takes
unfoldable pub shape_answer : Csr → Mass → Checked → ShapeAnswer
shape_answer a mass (Err r) = Err r
shape_answer a mass (Ok _) = Ok (record { n = a.n; with_mass = false; stored = quotient_need a mass; norm = row_sum_norm (transpose (quotients a mass)) })
