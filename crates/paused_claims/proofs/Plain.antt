-- The generators of a matrix and a mass, forward and transposed, have none of the numbers that are told apart. Assumes nothing.
use mathlib.Core.Path.{refl}
use mathlib.Core.Option.{none, some}
use Rattle.checks.specs.First.{before}
use Rattle.general_operator.specs.Csr.{Csr}
use Rattle.general_operator.specs.Checks.{shape_checks, row_checks, entry_checks, matrix_checks}
use Rattle.generator_action.specs.Mass.{Mass, generator_checks, bound_checks, mass_checks, sum_checks, norm_checks}
use Rattle.generator_action.specs.Generator.{forward}
use Rattle.transpose.specs.Transpose.{Lent, start_checks, forward_checks, lent_checks, before_transposing, transposed_checks, transposed}
use Rattle.paused_claims.specs.Early.{Plain}

pub forward_plain : (a : Csr) (mass : Mass) → Plain (forward a mass)
unfolding before generator_checks matrix_checks shape_checks row_checks entry_checks bound_checks mass_checks sum_checks norm_checks
forward_plain a none = record { no_17 = refl; no_22 = refl; no_27 = refl; no_28 = refl; no_29 = refl; no_31 = refl }
forward_plain a (some mass) = record { no_17 = refl; no_22 = refl; no_27 = refl; no_28 = refl; no_29 = refl; no_31 = refl }

pub transposed_plain : (a : Csr) (mass : Mass) (l : Lent) → Plain (transposed a mass l)
unfolding before transposed_checks before_transposing forward_checks start_checks lent_checks matrix_checks shape_checks row_checks entry_checks mass_checks sum_checks norm_checks
transposed_plain a none l = record { no_17 = refl; no_22 = refl; no_27 = refl; no_28 = refl; no_29 = refl; no_31 = refl }
transposed_plain a (some mass) l = record { no_17 = refl; no_22 = refl; no_27 = refl; no_28 = refl; no_29 = refl; no_31 = refl }
