-- Matrices and masses that two checks would refuse: the lower number is told (document 01, 'Checks run in number order'). The lists by number are in
-- `demand_3/proofs/Orders`. Assumes nothing.
use mathlib.Core.List.{[], ◌∷◌}
use mathlib.Core.Option.{some}
use mathlib.Core.Path.{◌≡◌, refl}
use lib.Ieee.{Float, nan}
use Rattle.doubles.specs.F64.{bits, nat, +0, 1f, 2f}
use Rattle.checks.specs.First.{first}
use Rattle.general_operator.specs.Csr.{Csr, csr}
use Rattle.general_operator.specs.Checks.{shape_checks, matrix_checks, open_checks}
use Rattle.generator_action.specs.Mass.{generator_checks, open_mass}
use Rattle.checks.specs.Reasons.{Refused}
use Rattle.checks.specs.declared.Reason.TheVariants.{RowStartsLength, EntryCount, RowStartsFall, ColumnRange, EntryNotFinite, MassLength, MassRange, FirstRowStart}

-- ---- 1 to 6
-- no rows, and columns without entries
one_before_two : first (matrix_checks (csr 0 [] (0 ∷ []) [])) ≡ Refused RowStartsLength +0
unfolding open_checks
one_before_two = refl

-- one row, 16,777,217 entries and one column: the lengths alone
two_before_three : first (shape_checks 1 (0 ∷ 1 ∷ []) 1 16777217) ≡ Refused EntryCount (nat 16777217)
unfolding open_checks
two_before_three = refl

-- the starts of row 0 fall, and the entry's column is beyond the rows
four_before_five : first (matrix_checks (csr 2 (1 ∷ 0 ∷ 1 ∷ []) (7 ∷ []) (1f ∷ []))) ≡ Refused RowStartsFall +0
unfolding open_checks
four_before_five = refl

-- entry by entry: the first entry is NaN, the second in no column; of one entry that is both, 5
six_of_the_first : first (matrix_checks (csr 1 (0 ∷ 2 ∷ []) (0 ∷ 7 ∷ []) (nan ∷ 1f ∷ []))) ≡ Refused EntryNotFinite nan
unfolding open_checks
six_of_the_first = refl

five_before_six : first (matrix_checks (csr 1 (0 ∷ 1 ∷ []) (7 ∷ []) (nan ∷ []))) ≡ Refused ColumnRange (nat 7)
unfolding open_checks
five_before_six = refl

-- ---- 7 to 10, of a mass
abbrev largest : Float
largest = bits 0x7fef_ffff_ffff_ffff

-- the first row starts at 1; its entries are twice the largest number, and an entry before it is in no row
abbrev late_and_huge : Csr
late_and_huge = csr 1 (1 ∷ 3 ∷ []) (0 ∷ 0 ∷ 0 ∷ []) (1f ∷ largest ∷ largest ∷ [])

six_before_seven : first (generator_checks (csr 1 (0 ∷ 1 ∷ []) (0 ∷ []) (nan ∷ [])) (some [])) ≡ Refused EntryNotFinite nan
unfolding open_mass
six_before_seven = refl

seven_before_eight : first (generator_checks late_and_huge (some (+0 ∷ +0 ∷ []))) ≡ Refused MassLength 2f
unfolding open_mass
seven_before_eight = refl

eight_before_nine : first (generator_checks late_and_huge (some (+0 ∷ []))) ≡ Refused MassRange +0
unfolding open_mass
eight_before_nine = refl

nine_before_ten : first (generator_checks late_and_huge (some (1f ∷ []))) ≡ Refused FirstRowStart nan
unfolding open_mass
nine_before_ten = refl
