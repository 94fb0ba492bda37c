-- Whole Taylor calls, computed. Assumes nothing.
use mathlib.Core.Path.{◌≡◌, refl}
use mathlib.Core.List.{[], ◌∷◌, ◌++◌}
use mathlib.Core.Option.{none}
use Prim.Native.Nat.{ℕ}
use lib.ListN.{replicate}
use lib.Ieee.{Float, nan}
use Rattle.doubles.specs.F64.{bits, nat, 1f, +0}
use Rattle.general_operator.specs.Csr.{Csr, csr}
use Rattle.generator_action.specs.Generator.{forward}
use Rattle.taylor_job.specs.declared.TaylorReport.{TaylorReport}
use Rattle.combination.specs.Call.{ends}
use Rattle.taylor_job.specs.Calls.{phi_combination, phi_action, phi_action_batched, open_calls}
use Rattle.checks.specs.Reasons.{Refused}
use Rattle.std.specs.Prelude.{Ok}
use Rattle.checks.specs.declared.Reason.TheVariants.{TauRange, VectorLength, VectorNotFinite, NoAdmissibleRow, WorkLength, DegreeRange}

abbrev laplace : Csr
laplace = csr 2 (0 ∷ 2 ∷ 4 ∷ []) (0 ∷ 1 ∷ 0 ∷ 1 ∷ []) (nat 2 ∷ bits 0xbff0000000000000 ∷ bits 0xbff0000000000000 ∷ nat 2 ∷ [])

abbrev -∞ : Float
-∞ = bits 0xfff0000000000000

abbrev empty : Csr
empty = csr 1 (0 ∷ 0 ∷ []) [] []

-- with a shift: 8 doubles are needed, the ninth stays
shifted : phi_combination (forward laplace none) (nat 2) 30 2 (1f ∷ bits 0xc000000000000000 ∷ bits 0x3fe0000000000000 ∷ bits 0x3fd0000000000000 ∷ []) (nat 7 ∷ nat 7 ∷ []) (replicate 9 (nat 9))
    ≡ ends (Ok (record { s = 4; m = 30; mu = bits 0xc010000000000000; applications = 120 })) (bits 0x3fd351b9c75b5bb2 ∷ bits 0x3fcb0be1d2ba255d ∷ []) (replicate 8 +0 ++ (nat 9 ∷ []))
unfolding open_calls
shifted = refl

-- one double short: 26, and nothing changes
short : phi_combination (forward laplace none) (nat 2) 30 2 (1f ∷ bits 0xc000000000000000 ∷ bits 0x3fe0000000000000 ∷ bits 0x3fd0000000000000 ∷ []) (nat 7 ∷ nat 7 ∷ []) (replicate 7 (nat 9))
    ≡ ends (Refused WorkLength nan) (nat 7 ∷ nat 7 ∷ []) (replicate 7 (nat 9))
unfolding open_calls
short = refl

-- phi_0 and phi_1 of a matrix without entries at time 1: v and v
batch : phi_action_batched (forward empty none) 1f 30 1 (nat 3 ∷ []) (+0 ∷ +0 ∷ []) (replicate 9 (nat 9))
    ≡ ends (Ok (record { s = 2; m = 25; mu = +0; applications = 100 })) (nat 3 ∷ nat 3 ∷ []) (replicate 9 +0)
unfolding open_calls
batch = refl

-- ---- 17 of a field v (document 02, N2): the first entry that is not finite, and nothing changes
field_with_nan : phi_action (forward laplace none) 1f 30 1 (1f ∷ nan ∷ []) (nat 7 ∷ nat 7 ∷ []) (replicate 12 (nat 9)) ≡ ends (Refused VectorNotFinite nan) (nat 7 ∷ nat 7 ∷ []) (replicate 12 (nat 9))
unfolding open_calls
field_with_nan = refl

batch_with_infinity : phi_action_batched (forward laplace none) 1f 30 0 (-∞ ∷ nan ∷ []) (nat 7 ∷ nat 7 ∷ []) (replicate 12 (nat 9)) ≡ ends (Refused VectorNotFinite -∞) (nat 7 ∷ nat 7 ∷ []) (replicate 12 (nat 9))
unfolding open_calls
batch_with_infinity = refl

-- one value for two rows: 16 first
length_first : phi_action (forward laplace none) 1f 30 1 (nan ∷ []) (nat 7 ∷ nat 7 ∷ []) (replicate 12 (nat 9)) ≡ ends (Refused VectorLength 1f) (nat 7 ∷ nat 7 ∷ []) (replicate 12 (nat 9))
unfolding open_calls
length_first = refl

-- ---- the cap (document 02, N7): (2 -1; -1 2) at time 1 runs 3 x 30 without a shift; up to 29 the shifted plan is strictly cheaper, 4 x 25
abbrev planned_within : ℕ → TaylorReport → Type 0
planned_within cap r = phi_action (forward laplace none) 1f cap 0 (+0 ∷ +0 ∷ []) (nat 7 ∷ nat 7 ∷ []) (replicate 12 (nat 9)) ≡ ends (Ok r) (+0 ∷ +0 ∷ []) (replicate 12 +0)

up_to_30 : planned_within 30 (record { s = 3; m = 30; mu = +0; applications = 90 })
unfolding open_calls
up_to_30 = refl

up_to_29 : planned_within 29 (record { s = 4; m = 25; mu = bits 0xc000000000000000; applications = 100 })
unfolding open_calls
up_to_29 = refl

-- outside 1 to 30; behind 14, in front of 15
no_degree : phi_action (forward laplace none) 1f 0 0 (+0 ∷ +0 ∷ []) [] [] ≡ ends (Refused DegreeRange nan) [] []
unfolding open_calls
no_degree = refl

degree_31 : phi_action_batched (forward laplace none) 1f 31 0 (+0 ∷ +0 ∷ []) [] [] ≡ ends (Refused DegreeRange nan) [] []
unfolding open_calls
degree_31 = refl

time_first : phi_combination (forward laplace none) nan 31 1 (+0 ∷ +0 ∷ []) [] [] ≡ ends (Refused TauRange nan) [] []
unfolding open_calls
time_first = refl

-- up to 1 no row is admissible, not even at time 0, where the argument is 4
degree_1 : phi_action (forward laplace none) +0 1 0 (+0 ∷ +0 ∷ []) (nat 7 ∷ nat 7 ∷ []) (replicate 12 (nat 9)) ≡ ends (Refused NoAdmissibleRow (nat 4)) (nat 7 ∷ nat 7 ∷ []) (replicate 12 (nat 9))
unfolding open_calls
degree_1 = refl
