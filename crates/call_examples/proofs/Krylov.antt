-- Whole Krylov calls, computed. Assumes nothing.
use mathlib.Core.Path.{◌≡◌, refl}
use mathlib.Core.List.{List, [], ◌∷◌, ◌++◌}
use mathlib.Core.Option.{none}
use Prim.Native.Nat.{ℕ}
use lib.ListN.{replicate}
use lib.Ieee.{Float, nan}
use Rattle.doubles.specs.F64.{bits, nat, 1f, +0}
use Rattle.general_operator.specs.Csr.{Csr, csr}
use Rattle.generator_action.specs.Generator.{forward}
use Rattle.krylov_job.specs.declared.KrylovPhiOptions.{KrylovPhiOptions}
use Rattle.combination.specs.Call.{ends}
use Rattle.krylov_job.specs.KrylovCall.{phi_combination_krylov, open_krylov_call}
use Rattle.checks.specs.Reasons.{Refused}
use Rattle.std.specs.Prelude.{Ok}
use Rattle.checks.specs.declared.Reason.TheVariants.{TolRange, WorkLength, SubstepLimit, NoInnerPlan}

abbrev empty : Csr
empty = csr 1 (0 ∷ 0 ∷ []) [] []

abbrev options : Float → ℕ → ℕ → KrylovPhiOptions
options tol m limit = record { tol = tol; m = m; max_substeps = limit }

-- 1e-10
abbrev tenth : Float
tenth = bits 0x3ddb_7cdf_d9d7_bdbb

-- two zero vectors: M = 2, so 1 + 5 * 2 + 16 = 27 doubles are needed; the 28th stays
two_zeros : phi_combination_krylov (forward empty none) 1f 2 (+0 ∷ +0 ∷ []) (options tenth 30 100000) (nat 7 ∷ []) (replicate 28 (nat 9))
    ≡ ends (Ok (record { matvecs = 1; substeps = 1; rejected = 0; est_error = bits 0x3cc0_0000_0000_0000; shortest = 1f; last = 1f })) (+0 ∷ []) (replicate 27 +0 ++ (nat 9 ∷ []))
unfolding open_krylov_call
two_zeros = refl

-- one double short: nothing changes
short : phi_combination_krylov (forward empty none) 1f 2 (+0 ∷ +0 ∷ []) (options tenth 30 100000) (nat 7 ∷ []) (replicate 26 (nat 9))
    ≡ ends (Refused WorkLength nan) (nat 7 ∷ []) (replicate 26 (nat 9))
unfolding open_krylov_call
short = refl

-- a tolerance that is no number: 18
no_tolerance : phi_combination_krylov (forward empty none) 1f 2 (+0 ∷ +0 ∷ []) (options nan 30 100000) (nat 7 ∷ []) (replicate 28 (nat 9))
    ≡ ends (Refused TolRange nan) (nat 7 ∷ []) (replicate 28 (nat 9))
unfolding open_krylov_call
no_tolerance = refl

abbrev four : Csr
four =
    csr 4 (0 ∷ 1 ∷ 4 ∷ 7 ∷ 9 ∷ []) (0 ∷ 0 ∷ 1 ∷ 3 ∷ 1 ∷ 2 ∷ 3 ∷ 0 ∷ 1 ∷ [])
    (bits 0x3fe0000000000000 ∷ bits 0x400147ae147ae148 ∷ bits 0x3fe3851eb851eb85 ∷ bits 0x3ff9eb851eb851ec ∷ bits 0x3fc1eb851eb851ec ∷ bits 0xbffd70a3d70a3d71 ∷ bits 0xc0063d70a3d70a3d ∷ bits 0x3fec28f5c28f5c29 ∷ bits 0x3fd999999999999a ∷ [])

abbrev fields : List Float
fields = bits 0xc00199999999999a ∷ bits 0x3ffccccccccccccd ∷ bits 0x3fe6666666666666 ∷ bits 0xc00599999999999a ∷ bits 0xbff999999999999a ∷ bits 0xc004000000000000 ∷ bits 0x3fc999999999999a ∷ bits 0x4004cccccccccccd ∷ []

-- three substeps, one rejection: 4 + 6 * 5 + 25 = 59 doubles
three_substeps : phi_combination_krylov (forward four none) 1f 2 fields (options (bits 0x3f847ae147ae147b) 3 100000) (replicate 4 +0) (replicate 59 (nat 9))
    ≡ ends (Ok (record { matvecs = 12; substeps = 3; rejected = 1; est_error = bits 0x3f78892100e98bcf; shortest = bits 0x3f9fbe76c8b43958; last = bits 0x3fdb74bc6a7ef9da })) (bits 0xc004be37c54d578d ∷ bits 0x40100db75367a3a9 ∷ bits 0xc01f8a209e0a0405 ∷ bits 0x3fe577663b04b216 ∷ []) (replicate 59 +0)
unfolding open_krylov_call
three_substeps = refl

-- a limit of 1: 27, with the state after the first substep
limited : phi_combination_krylov (forward four none) 1f 2 fields (options (bits 0x3f847ae147ae147b) 3 1) (replicate 4 +0) (replicate 59 (nat 9))
    ≡ ends (Refused SubstepLimit (bits 0x3e620310ebf08c7b)) (bits 0xc001b9196788d1dc ∷ bits 0x3fff7a32475dbb61 ∷ bits 0x3fe02723fdd5eb38 ∷ bits 0xc004a90a6aa9d7d8 ∷ []) (replicate 59 +0)
unfolding open_krylov_call
limited = refl

-- tau so large that no inner row is admissible: 29 with the inner argument, and the start as it was
no_inner_row : phi_combination_krylov (forward (csr 1 (0 ∷ 1 ∷ []) (0 ∷ []) (bits 0x3f50624dd2f1a9fc ∷ [])) none) (bits 0x42b5aa4ae2eae370) 1 (bits 0xbff12aaf04ea1d54 ∷ []) (options (bits 0x3eb0c6f7a0b5ed8d) 30 2) (nat 7 ∷ []) (replicate 23 (nat 9))
    ≡ ends (Refused NoInnerPlan (bits 0x42162f674ec37842)) (bits 0xbff12aaf04ea1d54 ∷ []) (replicate 22 +0 ++ (nat 9 ∷ []))
unfolding open_krylov_call
no_inner_row = refl
