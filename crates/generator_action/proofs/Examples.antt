-- The definitions computed, on matrices of one row. Assumes nothing.
use mathlib.Core.List.{[], ◌∷◌}
use mathlib.Core.Option.{none, some}
use mathlib.Core.Path.{◌≡◌, refl}
use lib.Ieee.{Float, nan}
use Rattle.doubles.specs.F64.{bits, +0, 1f, 2f, 1/2f, +∞}
use Rattle.general_operator.specs.Csr.{Csr, csr, apply_generator}
use Rattle.generator_action.specs.Mass.{quotients}
use Rattle.generator_action.specs.Answer.{matrix_answer, open_answer}
use Rattle.checks.specs.Reasons.{Refused}
use Rattle.generator_action.specs.Answer.{Norm}
use Rattle.checks.specs.declared.Reason.TheVariants.{MassLength, MassRange, FirstRowStart, RowSumNotFinite, NormNotFinite}

abbrev 3f : Float
3f = bits 0x4008_0000_0000_0000

abbrev 4f : Float
4f = bits 0x4010_0000_0000_0000

abbrev two : Csr
two = csr 1 (0 ∷ 1 ∷ []) (0 ∷ []) (2f ∷ [])

-- -2 * 3 = -6
applied : apply_generator (quotients two none) (3f ∷ []) ≡ bits 0xc018_0000_0000_0000 ∷ []
unfolding open_answer
applied = refl

-- -(2 / 4) * 3 = -1.5
applied_by_mass : apply_generator (quotients two (some (4f ∷ []))) (3f ∷ []) ≡ bits 0xbff8_0000_0000_0000 ∷ []
unfolding open_answer
applied_by_mass = refl

norm : matrix_answer two none ≡ Norm 2f 0
unfolding open_answer
norm = refl

norm_by_mass : matrix_answer two (some (4f ∷ [])) ≡ Norm 1/2f 0
unfolding open_answer
norm_by_mass = refl

empty_mass : matrix_answer two (some []) ≡ Refused MassLength +0
unfolding open_answer
empty_mass = refl

mass_not_above_0 : matrix_answer two (some (+0 ∷ [])) ≡ Refused MassRange +0
unfolding open_answer
mass_not_above_0 = refl

-- the first row starts at 1, so the entry 3 is in no row and does not count
abbrev late : Csr
late = csr 1 (1 ∷ 2 ∷ []) (0 ∷ 0 ∷ []) (3f ∷ 2f ∷ [])

late_norm : matrix_answer late none ≡ Norm 2f 0
unfolding open_answer
late_norm = refl

late_with_mass : matrix_answer late (some (4f ∷ [])) ≡ Refused FirstRowStart nan
unfolding open_answer
late_with_mass = refl

-- twice the largest number: the sum of the sizes is not finite, unless a mass divides first
abbrev huge : Csr
huge = csr 1 (0 ∷ 2 ∷ []) (0 ∷ 0 ∷ []) (bits 0x7fef_ffff_ffff_ffff ∷ bits 0x7fef_ffff_ffff_ffff ∷ [])

huge_norm : matrix_answer huge none ≡ Refused NormNotFinite +∞
unfolding open_answer
huge_norm = refl

huge_by_4 : matrix_answer huge (some (4f ∷ [])) ≡ Norm (bits 0x7fdf_ffff_ffff_ffff) 0
unfolding open_answer
huge_by_4 = refl

huge_by_half : matrix_answer huge (some (1/2f ∷ [])) ≡ Refused RowSumNotFinite +∞
unfolding open_answer
huge_by_half = refl

-- entries of one column add up in stored order: 2 ^ 53 + 1 + 1 is 2 ^ 53, and 1 + 1 + 2 ^ 53 is 2 ^ 53 + 2
falling : apply_generator (csr 1 (0 ∷ 3 ∷ []) (0 ∷ 0 ∷ 0 ∷ []) (bits 0x4340_0000_0000_0000 ∷ 1f ∷ 1f ∷ [])) (1f ∷ []) ≡ bits 0xc340_0000_0000_0000 ∷ []
unfolding open_answer
falling = refl

rising : apply_generator (csr 1 (0 ∷ 3 ∷ []) (0 ∷ 0 ∷ 0 ∷ []) (1f ∷ 1f ∷ bits 0x4340_0000_0000_0000 ∷ [])) (1f ∷ []) ≡ bits 0xc340_0000_0000_0001 ∷ []
unfolding open_answer
rising = refl

-- ---- the row: the first of those with the largest sum (document 02, N1)
-- one entry a row: 1, 2, 2
abbrev tied : Csr
tied = csr 3 (0 ∷ 1 ∷ 2 ∷ 3 ∷ []) (0 ∷ 1 ∷ 2 ∷ []) (1f ∷ 2f ∷ 2f ∷ [])

first_of_two : matrix_answer tied none ≡ Norm 2f 1
unfolding open_answer
first_of_two = refl

-- quotients 1, 1/2, 1
first_by_mass : matrix_answer tied (some (1f ∷ 4f ∷ 2f ∷ [])) ≡ Norm 1f 0
unfolding open_answer
first_by_mass = refl

-- a stored 0, an empty row and a stored -0
no_sum : matrix_answer (csr 3 (0 ∷ 1 ∷ 1 ∷ 2 ∷ []) (0 ∷ 1 ∷ []) (+0 ∷ bits 0x8000_0000_0000_0000 ∷ [])) none ≡ Norm +0 0
unfolding open_answer
no_sum = refl
