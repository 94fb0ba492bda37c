-- Whole calls on the transposed matrix, computed. Assumes nothing.
use mathlib.Core.Path.{◌≡◌, refl}
use mathlib.Core.List.{[], ◌∷◌, ◌++◌}
use mathlib.Core.Option.{some}
use lib.ListN.{replicate}
use lib.Ieee.{nan}
use Rattle.doubles.specs.F64.{bits, nat, +0, 1f, 2f, 1/2f}
use Rattle.general_operator.specs.Csr.{Csr, csr}
use Rattle.generator_action.specs.Mass.{Mass}
use Rattle.transpose.specs.Transpose.{Buffers, buffers}
use Rattle.combination.specs.Call.{ends}
use Rattle.transposed.specs.Transposed.{lends, phi_combination_transposed, phi_action_transposed, phi_action_batched_transposed, phi_combination_krylov_transposed, open_transposed}
use Rattle.checks.specs.Reasons.{Refused}
use Rattle.std.specs.Prelude.{Ok}
use Rattle.checks.specs.declared.Reason.TheVariants.{TolRange, WorkLength, TransposedLength}

-- row 0 holds 1 in column 1, with mass 2: the transposed quotients hold 1/2 in row 1, column 0
abbrev a : Csr
a = csr 2 (0 ∷ 1 ∷ 1 ∷ []) (1 ∷ []) (1f ∷ [])

abbrev mass : Mass
mass = some (2f ∷ 1f ∷ [])

-- one place more than is needed in each
abbrev lent : Buffers
lent = buffers (7 ∷ 7 ∷ 7 ∷ 8 ∷ []) (7 ∷ 9 ∷ []) (+0 ∷ nat 5 ∷ [])

abbrev written : Buffers
written = buffers (0 ∷ 0 ∷ 1 ∷ 8 ∷ []) (0 ∷ 9 ∷ []) (1/2f ∷ nat 5 ∷ [])

-- v - 1/2 v_0 in row 1; the need counts the entry as the forward job does, 12 + 1
action : phi_action_transposed a mass lent 1f 30 0 (nat 4 ∷ +0 ∷ []) (nat 7 ∷ nat 7 ∷ []) (replicate 14 (nat 9))
    ≡ lends (ends (Ok (record { s = 2; m = 30; mu = +0; applications = 60 })) (nat 4 ∷ bits 0xc000000000000000 ∷ []) (replicate 13 +0 ++ (nat 9 ∷ []))) written
unfolding open_transposed
action = refl

-- the same, and w_1 = (0, 4)
combination : phi_combination_transposed a mass lent 1f 30 2 (nat 4 ∷ +0 ∷ +0 ∷ nat 4 ∷ []) (nat 7 ∷ nat 7 ∷ []) (replicate 10 (nat 9))
    ≡ lends (ends (Ok (record { s = 2; m = 30; mu = +0; applications = 60 })) (nat 4 ∷ 2f ∷ []) (replicate 9 +0 ++ (nat 9 ∷ []))) written
unfolding open_transposed
combination = refl

-- phi_0 and phi_1
batch : phi_action_batched_transposed a mass lent 1f 30 1 (nat 4 ∷ +0 ∷ []) (replicate 4 (nat 7)) (replicate 14 (nat 9))
    ≡ lends (ends (Ok (record { s = 2; m = 30; mu = +0; applications = 120 })) (nat 4 ∷ bits 0xc000000000000000 ∷ nat 4 ∷ bits 0xbff0000000000000 ∷ []) (replicate 13 +0 ++ (nat 9 ∷ []))) written
unfolding open_transposed
batch = refl

-- a start of zeros: M = 2, so 2 + 5 * 2 + 16 + 1 = 29 doubles
zeros : phi_combination_krylov_transposed a mass lent 1f 1 (+0 ∷ +0 ∷ []) (record { tol = 1/2f; m = 2; max_substeps = 9 }) (nat 7 ∷ nat 7 ∷ []) (replicate 30 (nat 9))
    ≡ lends (ends (Ok (record { matvecs = 0; substeps = 0; rejected = 0; est_error = +0; shortest = +0; last = +0 })) (+0 ∷ +0 ∷ []) (replicate 29 +0 ++ (nat 9 ∷ []))) written
unfolding open_transposed
zeros = refl

-- ---- refusals
-- 30: two starts for two rows; the buffers are unchanged
short_buffer : phi_action_transposed a mass (buffers (7 ∷ 7 ∷ []) (7 ∷ []) (+0 ∷ [])) 1f 30 0 (nat 4 ∷ +0 ∷ []) (nat 7 ∷ nat 7 ∷ []) (replicate 14 (nat 9))
    ≡ lends (ends (Refused TransposedLength nan) (nat 7 ∷ nat 7 ∷ []) (replicate 14 (nat 9))) (buffers (7 ∷ 7 ∷ []) (7 ∷ []) (+0 ∷ []))
unfolding open_transposed
short_buffer = refl

-- 26, behind 30: one double short of 13; the buffers are written
short_memory : phi_action_transposed a mass lent 1f 30 0 (nat 4 ∷ +0 ∷ []) (nat 7 ∷ nat 7 ∷ []) (replicate 12 (nat 9))
    ≡ lends (ends (Refused WorkLength nan) (nat 7 ∷ nat 7 ∷ []) (replicate 12 (nat 9))) written
unfolding open_transposed
short_memory = refl

-- 18, behind 30
no_tolerance : phi_combination_krylov_transposed a mass lent 1f 1 (+0 ∷ +0 ∷ []) (record { tol = nan; m = 2; max_substeps = 9 }) (nat 7 ∷ nat 7 ∷ []) (replicate 30 (nat 9))
    ≡ lends (ends (Refused TolRange nan) (nat 7 ∷ nat 7 ∷ []) (replicate 30 (nat 9))) written
unfolding open_transposed
no_tolerance = refl
