-- Worked examples, by computation: each with the row-sum norm as the bound. Assumes nothing.
use mathlib.Core.List.{[], ◌∷◌}
use mathlib.Core.Path.{◌≡◌, refl}
use Rattle.std.specs.Prelude.{Option, Some, None}
use lib.Ieee.{Float, neg, nan}
use Rattle.doubles.specs.F64.{bits, +0, 1f, 2f}
use Rattle.general_operator.specs.Csr.{Csr, csr, row_sum_norm}
use Rattle.csr_shift.specs.declared.Shifted.{Shifted}
use Rattle.csr_shift.specs.Shift.{by, negated_csr_shift, open_shift}

abbrev shift : Csr → Option Shifted
shift q = negated_csr_shift q (row_sum_norm q)

-- two full rows
abbrev two : Float → Float → Float → Float → Csr
two a b c d = csr 2 (0 ∷ 2 ∷ 4 ∷ []) (0 ∷ 1 ∷ 0 ∷ 1 ∷ []) (a ∷ b ∷ c ∷ d ∷ [])

-- (2 -1; -1 2): the norm falls from 3 to 1
halved : shift (two 2f (neg 1f) (neg 1f) 2f) ≡ Some (by (neg 2f) 1f)
unfolding open_shift
halved = refl

-- the same with 2 stored as 1 and 1: what shares the diagonal's place is summed
summed : shift (csr 2 (0 ∷ 3 ∷ 5 ∷ []) (0 ∷ 1 ∷ 0 ∷ 0 ∷ 1 ∷ []) (1f ∷ neg 1f ∷ 1f ∷ neg 1f ∷ 2f ∷ [])) ≡ Some (by (neg 2f) 1f)
unfolding open_shift
summed = refl

-- (0 1; 1 0): the midpoint is 0
centred : shift (two +0 1f 1f +0) ≡ None
unfolding open_shift
centred = refl

-- 1e308 twice on the diagonal: it overflows
endless : shift (csr 1 (0 ∷ 2 ∷ []) (0 ∷ 0 ∷ []) (bits 0x7fe1_ccf3_85eb_c8a0 ∷ bits 0x7fe1_ccf3_85eb_c8a0 ∷ [])) ≡ None
unfolding open_shift
endless = refl

-- a row with a NaN, which the maxima alone would skip
unknown : shift (csr 2 (0 ∷ 1 ∷ 2 ∷ []) (0 ∷ 1 ∷ []) (nan ∷ 2f ∷ [])) ≡ None
unfolding open_shift
unknown = refl

-- -1 and 1 - 2 ^ -53 on the diagonal: the midpoint is 2 ^ -54, and the shifted norm rounds to the norm
equal : shift (csr 2 (0 ∷ 1 ∷ 2 ∷ []) (0 ∷ 1 ∷ []) (neg 1f ∷ bits 0x3fef_ffff_ffff_ffff ∷ [])) ≡ None
unfolding open_shift
equal = refl
