-- Examples of `hess_exp_e1`. Assumes nothing.
use mathlib.Core.Path.{◌≡◌, refl}
use mathlib.Core.List.{List, [], ◌∷◌}
use lib.Ieee.{Float, nan}
use Rattle.doubles.specs.F64.{bits, +0, 1f, +∞}
use Rattle.hess_exp.specs.HessExp.{unplanned, column, hess_exp_e1, open_hess_exp}

-- the zero matrix
zero_matrix : hess_exp_e1 (+0 ∷ +0 ∷ +0 ∷ +0 ∷ []) 2 2 1f ≡ column (1f ∷ +0 ∷ [])
unfolding open_hess_exp
zero_matrix = refl

-- an argument that is no number
nan_time : hess_exp_e1 (1f ∷ 1f ∷ 1f ∷ 1f ∷ []) 2 2 nan ≡ unplanned nan
unfolding open_hess_exp
nan_time = refl

infinite_entry : hess_exp_e1 (1f ∷ 1f ∷ +∞ ∷ 1f ∷ []) 2 2 1f ≡ unplanned +∞
unfolding open_hess_exp
infinite_entry = refl

-- a column sum that is no number is dropped, and the sweeps still run
nan_entry : hess_exp_e1 (+0 ∷ +0 ∷ nan ∷ +0 ∷ []) 2 2 1f ≡ column (nan ∷ +0 ∷ [])
unfolding open_hess_exp
nan_entry = refl

-- (-0.5, 0.25; 1, -0.75), column by column
abbrev two_by_two : List Float
two_by_two = bits 0xbfe0_0000_0000_0000 ∷ 1f ∷ bits 0x3fd0_0000_0000_0000 ∷ bits 0xbfe8_0000_0000_0000 ∷ []

-- t = 0.1: one sweep of degree 11
one_sweep : hess_exp_e1 two_by_two 2 2 (bits 0x3fb9_9999_9999_999a) ≡ column (bits 0x3fee_7a22_2504_333f ∷ bits 0x3fb8_0f43_6b9e_a939 ∷ [])
unfolding open_hess_exp
one_sweep = refl

-- t = 2.5: two sweeps of degree 25
two_sweeps : hess_exp_e1 two_by_two 2 2 (bits 0x4004_0000_0000_0000) ≡ column (bits 0x3fdf_a1a9_e868_8ece ∷ bits 0x3fe5_cf39_5d5b_1867 ∷ [])
unfolding open_hess_exp
two_sweeps = refl

-- (-1, 0.5, 0.25; 1, -2, 0.75; 64, 1, -1): the norm counts the 64 below the subdiagonal, the product does not
abbrev three_by_three : List Float
three_by_three =
    bits 0xbff0_0000_0000_0000 ∷ 1f ∷ bits 0x4050_0000_0000_0000
    ∷ bits 0x3fe0_0000_0000_0000 ∷ bits 0xc000_0000_0000_0000 ∷ 1f
    ∷ bits 0x3fd0_0000_0000_0000 ∷ bits 0x3fe8_0000_0000_0000 ∷ bits 0xbff0_0000_0000_0000
    ∷ []

-- t = 2 ^ -10: one sweep of degree 9
from_the_subdiagonal : hess_exp_e1 three_by_three 3 3 (bits 0x3f50_0000_0000_0000) ≡ column (bits 0x3fef_f801_7fc5_5d29 ∷ bits 0x3f4f_f402_bf89_6535 ∷ bits 0x3e9f_f557_5fb6_6ec1 ∷ [])
unfolding open_hess_exp
from_the_subdiagonal = refl
