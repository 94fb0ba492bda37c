-- The definitions computed. Assumes nothing.
use mathlib.Core.Path.{◌≡◌, refl}
use mathlib.Core.List.{[], ◌∷◌}
use mathlib.Core.Option.{none, some}
use lib.Ieee.{Float, nan}
use Rattle.doubles.specs.F64.{bits, +0, 1f, 2f, 1/2f, +∞}
use Rattle.general_operator.specs.Csr.{Csr, csr}
use Rattle.generator_action.specs.Mass.{quotients}
use Rattle.generator_action.specs.Answer.{matrix_answer}
use Rattle.transpose.specs.Transpose.{transpose, ordered, lent, buffers, buffers_after, transposed_answer, open_transpose}
use Rattle.checks.specs.Reasons.{Refused}
use Rattle.generator_action.specs.Answer.{Norm}
use Rattle.checks.specs.declared.Reason.TheVariants.{FirstRowStart, NormNotFinite, TransposedLength}

abbrev 4f : Float
4f = bits 0x4010_0000_0000_0000

-- ---- both directions
-- row 0 has two entries in column 1, and is not ordered
abbrev a : Csr
a = csr 2 (0 ∷ 3 ∷ 4 ∷ []) (1 ∷ 0 ∷ 1 ∷ 1 ∷ []) (bits 0x4340_0000_0000_0000 ∷ 1f ∷ 2f ∷ 1f ∷ [])

by_columns : transpose a ≡ csr 2 (0 ∷ 1 ∷ 4 ∷ []) (0 ∷ 0 ∷ 0 ∷ 1 ∷ []) (1f ∷ bits 0x4340_0000_0000_0000 ∷ 2f ∷ 1f ∷ [])
unfolding open_transpose
by_columns = refl

twice : transpose (transpose a) ≡ csr 2 (0 ∷ 3 ∷ 4 ∷ []) (0 ∷ 1 ∷ 1 ∷ 1 ∷ []) (1f ∷ bits 0x4340_0000_0000_0000 ∷ 2f ∷ 1f ∷ [])
unfolding open_transpose
twice = refl

ordered_is : transpose (transpose a) ≡ ordered a
unfolding open_transpose
ordered_is = refl

-- an empty row becomes an empty column, and the reverse: row 0 holds 1 and 2 in column 1, column 0 holds nothing
abbrev hollow : Csr
hollow = csr 2 (0 ∷ 2 ∷ 2 ∷ []) (1 ∷ 1 ∷ []) (1f ∷ 2f ∷ [])

empty_column : transpose hollow ≡ csr 2 (0 ∷ 0 ∷ 2 ∷ []) (0 ∷ 0 ∷ []) (1f ∷ 2f ∷ [])
unfolding open_transpose
empty_column = refl

-- the quotient comes first: row i is divided by mass i, then transposed
by_mass : transpose (quotients a (some (2f ∷ 1f ∷ []))) ≡ csr 2 (0 ∷ 1 ∷ 4 ∷ []) (0 ∷ 0 ∷ 0 ∷ 1 ∷ []) (1/2f ∷ bits 0x4330_0000_0000_0000 ∷ 1f ∷ 1f ∷ [])
unfolding open_transpose
by_mass = refl

-- ---- the norm is the largest column sum, added in transposed row order: (2 ^ 53 + 1) + 1 is 2 ^ 53, where 1 + 1 + 2 ^ 53 is 2 ^ 53 + 2
abbrev tall : Csr
tall = csr 3 (0 ∷ 1 ∷ 2 ∷ 3 ∷ []) (0 ∷ 0 ∷ 0 ∷ []) (bits 0x4340_0000_0000_0000 ∷ 1f ∷ 1f ∷ [])

falling : transposed_answer tall none (lent 4 3 3) ≡ Norm (bits 0x4340_0000_0000_0000) 0
unfolding open_transpose
falling = refl

rising : transposed_answer (csr 3 (0 ∷ 1 ∷ 2 ∷ 3 ∷ []) (0 ∷ 0 ∷ 0 ∷ []) (1f ∷ 1f ∷ bits 0x4340_0000_0000_0000 ∷ [])) none (lent 4 3 3) ≡ Norm (bits 0x4340_0000_0000_0001) 0
unfolding open_transpose
rising = refl

-- row sums 3 and 4, column sums 5 and 2; with masses 1 and 4 they are 3 and 1, 2 and 2
abbrev b : Csr
b = csr 2 (0 ∷ 2 ∷ 3 ∷ []) (0 ∷ 1 ∷ 0 ∷ []) (1f ∷ 2f ∷ 4f ∷ [])

forward_norm : matrix_answer b none ≡ Norm 4f 1
unfolding open_transpose
forward_norm = refl

transposed_norm : transposed_answer b none (lent 3 3 3) ≡ Norm (bits 0x4014_0000_0000_0000) 0
unfolding open_transpose
transposed_norm = refl

mass_norm : transposed_answer b (some (1f ∷ 4f ∷ [])) (lent 3 3 3) ≡ Norm 2f 0
unfolding open_transpose
mass_norm = refl

-- ---- refusals
-- the first row starts at 1: 9 without a mass, before NormNotFinite
late_and_huge : transposed_answer (csr 1 (1 ∷ 3 ∷ []) (0 ∷ 0 ∷ 0 ∷ []) (1f ∷ bits 0x7fef_ffff_ffff_ffff ∷ bits 0x7fef_ffff_ffff_ffff ∷ [])) none (lent 0 0 0) ≡ Refused FirstRowStart nan
unfolding open_transpose
late_and_huge = refl

-- one place short, in each buffer
short_starts : transposed_answer b none (lent 2 3 3) ≡ Refused TransposedLength nan
unfolding open_transpose
short_starts = refl

short_columns : transposed_answer b none (lent 3 2 3) ≡ Refused TransposedLength nan
unfolding open_transpose
short_columns = refl

short_values : transposed_answer b none (lent 3 3 2) ≡ Refused TransposedLength nan
unfolding open_transpose
short_values = refl

-- every row sum is finite and a column sum is not: 11, with a mass too, and only behind 30
abbrev huge : Csr
huge = csr 2 (0 ∷ 1 ∷ 2 ∷ []) (0 ∷ 0 ∷ []) (bits 0x7fef_ffff_ffff_ffff ∷ bits 0x7fef_ffff_ffff_ffff ∷ [])

column_sum : transposed_answer huge none (lent 3 2 2) ≡ Refused NormNotFinite +∞
unfolding open_transpose
column_sum = refl

column_sum_mass : transposed_answer huge (some (1f ∷ 1f ∷ [])) (lent 3 2 2) ≡ Refused NormNotFinite +∞
unfolding open_transpose
column_sum_mass = refl

column_sum_short : transposed_answer huge (some (1f ∷ 1f ∷ [])) (lent 3 2 1) ≡ Refused TransposedLength nan
unfolding open_transpose
column_sum_short = refl

-- ---- the buffers: places beyond are unchanged
after : buffers_after b none (buffers (7 ∷ 7 ∷ 7 ∷ 8 ∷ []) (7 ∷ 7 ∷ 7 ∷ 9 ∷ []) (+0 ∷ +0 ∷ +0 ∷ 1/2f ∷ [])) ≡ buffers (0 ∷ 2 ∷ 3 ∷ 8 ∷ []) (0 ∷ 1 ∷ 0 ∷ 9 ∷ []) (1f ∷ 4f ∷ 2f ∷ 1/2f ∷ [])
unfolding open_transpose
after = refl

-- behind 30 they are written though 11 refuses
after_11 : buffers_after huge none (buffers (7 ∷ 7 ∷ 7 ∷ []) (7 ∷ 7 ∷ []) (+0 ∷ +0 ∷ [])) ≡ buffers (0 ∷ 2 ∷ 2 ∷ []) (0 ∷ 1 ∷ []) (bits 0x7fef_ffff_ffff_ffff ∷ bits 0x7fef_ffff_ffff_ffff ∷ [])
unfolding open_transpose
after_11 = refl

-- and by 30 they are not
after_30 : buffers_after b none (buffers (7 ∷ 7 ∷ 7 ∷ []) (7 ∷ 7 ∷ []) (+0 ∷ +0 ∷ +0 ∷ [])) ≡ buffers (7 ∷ 7 ∷ 7 ∷ []) (7 ∷ 7 ∷ []) (+0 ∷ +0 ∷ +0 ∷ [])
unfolding open_transpose
after_30 = refl
