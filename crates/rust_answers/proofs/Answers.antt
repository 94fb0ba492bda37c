-- Whole jobs with the answers that the Rust original gave (those of `replay`, by crates/replay/make.py), computed by the definitions: number, report, output and
-- working memory, bit for bit. Each takes a path that a wrong definition would leave. Assumes nothing.
use mathlib.Core.List.{[], ◌∷◌, ◌++◌}
use mathlib.Core.Option.{none, some}
use mathlib.Core.Path.{◌≡◌, refl}
use lib.ListN.{replicate}
use lib.Ieee.{nan}
use Rattle.doubles.specs.F64.{bits, nat, 1f, +0}
use Rattle.general_operator.specs.Csr.{csr}
use Rattle.generator_action.specs.Generator.{forward}
use Rattle.combination.specs.Call.{ends}
use Rattle.taylor_job.specs.Calls.{phi_combination, phi_action, open_calls}
use Rattle.krylov_job.specs.KrylovCall.{phi_combination_krylov, open_krylov_call}
use Rattle.checks.specs.Reasons.{Refused}
use Rattle.std.specs.Prelude.{Ok}
use Rattle.checks.specs.declared.Reason.TheVariants.{SubstepLimit, NoInnerPlan}

-- ---- Taylor

-- three vectors, shifted: the chain has two values, and neither tau nor a gain is a power of two
three_vectors : phi_combination (forward (csr 3 (0 ∷ 1 ∷ 2 ∷ 3 ∷ []) (0 ∷ 1 ∷ 2 ∷ []) (bits 0xc003fe2c99732dda ∷ bits 0xbff0000000000000 ∷ bits 0xc016638eabf3bd8e ∷ [])) none) (bits 0x3ffea0ea99284672) 30 3 (bits 0xc010000000000000 ∷ +0 ∷ bits 0xc00f5568d9748856 ∷ 1f ∷ 1f ∷ 1f ∷ bits 0x8000000000000000 ∷ bits 0x8000000000000000 ∷ bits 0x8000000000000000 ∷ []) (replicate 3 (nat 7)) (replicate 13 (nat 9))
    ≡ ends (Ok (record { s = 5; m = 30; mu = bits 0x4019420900e0c680; applications = 150 })) (bits 0xc07aee19312c3e07 ∷ bits 0x401720ddd47e39c7 ∷ bits 0xc1048a0de2db3ed0 ∷ []) (replicate 13 +0)
unfolding open_calls
three_vectors = refl

-- the same path with two sweeps of degree 25
three_vectors_again : phi_combination (forward (csr 3 (0 ∷ 2 ∷ 5 ∷ 7 ∷ []) (0 ∷ 1 ∷ 0 ∷ 1 ∷ 2 ∷ 1 ∷ 2 ∷ []) (bits 0x3ff55f51f32bd8d4 ∷ bits 0xbfe55f51f32bd8d4 ∷ bits 0xbfdc948512e41229 ∷ bits 0x3fec948512e41229 ∷ bits 0xbfdc948512e41229 ∷ bits 0xbfd400e64cda4cd6 ∷ bits 0x3fe400e64cda4cd6 ∷ [])) none) (bits 0x3fd08f1e67aafa92) 30 3 (+0 ∷ +0 ∷ +0 ∷ bits 0x8000000000000000 ∷ bits 0x8000000000000000 ∷ bits 0x8000000000000000 ∷ bits 0x41c0000000000000 ∷ bits 0x41c0000000000000 ∷ bits 0x41c0000000000000 ∷ []) (replicate 3 (nat 7)) (replicate 15 (nat 9))
    ≡ ends (Ok (record { s = 2; m = 25; mu = bits 0xbfd096dedd99a4c4; applications = 50 })) (bits 0x41703a9cc1706ba4 ∷ bits 0x4171198d7cb60025 ∷ bits 0x4170b1736306ee89 ∷ []) (replicate 13 +0 ++ replicate 2 (nat 9))
unfolding open_calls
three_vectors_again = refl

-- four vectors without a shift, over a mass
four_vectors : phi_combination (forward (csr 8 (0 ∷ 1 ∷ 1 ∷ 3 ∷ 5 ∷ 5 ∷ 9 ∷ 12 ∷ 15 ∷ []) (1 ∷ 0 ∷ 2 ∷ 7 ∷ 4 ∷ 2 ∷ 0 ∷ 7 ∷ 1 ∷ 1 ∷ 5 ∷ 1 ∷ 5 ∷ 1 ∷ 7 ∷ []) (bits 0xbfecd4d96b471fb0 ∷ +0 ∷ bits 0xc0207866e6f2f437 ∷ bits 0x401f9fb63c284941 ∷ bits 0x401122482e21399c ∷ bits 0x4008000000000000 ∷ bits 0xc01e0bddb3479414 ∷ bits 0xc021e4e80fd75bdf ∷ bits 0xbfebd971ac1bbd78 ∷ bits 0xbfefad2bedff759c ∷ bits 0x40226f2634ca77f5 ∷ bits 0x4008000000000000 ∷ bits 0x4007e2c592b1a484 ∷ bits 0xc008000000000000 ∷ bits 0x3fed5f124cc59dac ∷ [])) (some (bits 0x3fd3f16b733112d0 ∷ bits 0x4001d5b40da71ceb ∷ bits 0x3fe278a9d2364496 ∷ bits 0x3fd357b1f2b7cbc4 ∷ bits 0x4017d23501d5d015 ∷ bits 0x4016c31d0e5d3341 ∷ bits 0x40159b2c2189944c ∷ bits 0x40010d330fcb8551 ∷ []))) (bits 0x3f472834a3dae3eb) 30 4 (+0 ∷ +0 ∷ +0 ∷ +0 ∷ +0 ∷ +0 ∷ +0 ∷ +0 ∷ 1f ∷ 1f ∷ 1f ∷ 1f ∷ 1f ∷ 1f ∷ 1f ∷ 1f ∷ +0 ∷ +0 ∷ +0 ∷ +0 ∷ +0 ∷ +0 ∷ +0 ∷ +0 ∷ bits 0x3fcfd6bd43c16b30 ∷ 1f ∷ bits 0x3ff9bc5b81747c0c ∷ bits 0x4020886fddd64612 ∷ bits 0x3e4aaae06d2a65d8 ∷ bits 0xbfd632bfef517ea4 ∷ bits 0x3fc2de6e97ba7f90 ∷ bits 0xbd70364d4a52ae20 ∷ []) (replicate 8 (nat 7)) (replicate 48 (nat 9))
    ≡ ends (Ok (record { s = 2; m = 25; mu = +0; applications = 50 })) (bits 0x3f472e432ba3c7d2 ∷ bits 0x3f472834c43185ed ∷ bits 0x3f474631205ef092 ∷ bits 0x3f46d3bb12c73a72 ∷ bits 0x3f472834a3dae3f2 ∷ bits 0x3f472d7a5586f564 ∷ bits 0x3f4723d982f8f239 ∷ bits 0x3f472750e2b66cf9 ∷ []) (replicate 45 +0 ++ replicate 3 (nat 9))
unfolding open_calls
four_vectors = refl

-- phi_3 of a field, over a mass
action_3 : phi_action (forward (csr 3 (0 ∷ 1 ∷ 2 ∷ 3 ∷ []) (0 ∷ 1 ∷ 2 ∷ []) (bits 0xbfc7ddfa70826542 ∷ bits 0xbfe8000000000000 ∷ bits 0xbfe0000000000000 ∷ [])) (some (bits 0x3fd2eaf2d4668a1c ∷ bits 0x3febf7c6ba5020a1 ∷ bits 0x40271c7868c71407 ∷ []))) (bits 0x40321f8a9ed4f8f3) 30 3 (bits 0x4000f990202a7c9e ∷ bits 0xbfeeac8de0a295fa ∷ 1f ∷ []) (replicate 3 (nat 7)) (replicate 18 (nat 9))
    ≡ ends (Ok (record { s = 6; m = 30; mu = bits 0x40205610e8d3e382; applications = 180 })) (bits 0x40605cd953c6acb3 ∷ bits 0xc0969b2e73e1d886 ∷ bits 0x3fca4493a8b04f9f ∷ []) (replicate 18 +0)
unfolding open_calls
action_3 = refl

-- ---- Krylov

-- 29: no inner row is admissible
no_inner_plan : phi_combination_krylov (forward (csr 2 (0 ∷ 1 ∷ 2 ∷ []) (0 ∷ 1 ∷ []) (bits 0x41a42212324ac500 ∷ bits 0xbfd9745803be0de4 ∷ [])) (some (bits 0x40052f6593abcab1 ∷ bits 0x3fe4582678f192ac ∷ []))) (bits 0x421990f6001581e4) 2 (bits 0x4005eac7bf2c2540 ∷ bits 0x4008000000000000 ∷ bits 0x8000000000000000 ∷ bits 0x8000000000000000 ∷ []) (record { tol = bits 0x3fe0000000000000; m = 2; max_substeps = 1000 }) (replicate 2 (nat 7)) (replicate 35 (nat 9))
    ≡ ends (Refused NoInnerPlan (bits 0x43b9e75856d09b42)) (bits 0x4005eac7beef2af8 ∷ bits 0x4008000000000000 ∷ []) (replicate 35 +0)
unfolding open_krylov_call
no_inner_plan = refl

-- 29: a length that is no number has no inner plan
nan_length : phi_combination_krylov (forward (csr 3 (0 ∷ 1 ∷ 2 ∷ 3 ∷ []) (0 ∷ 1 ∷ 2 ∷ []) (bits 0xc010000000000000 ∷ bits 0x401a121c10075e9a ∷ bits 0xbfd9754c81de2860 ∷ [])) none) (bits 0x403a6e12cc05d14e) 3 (bits 0x8000000000000000 ∷ bits 0x8000000000000000 ∷ bits 0x8000000000000000 ∷ +0 ∷ +0 ∷ +0 ∷ bits 0x3febdeabb1e2de26 ∷ bits 0xc01be7c7d11df4ce ∷ bits 0xc000000000000000 ∷ []) (record { tol = bits 0x1; m = 2; max_substeps = 10 }) (replicate 3 (nat 7)) (replicate 44 (nat 9))
    ≡ ends (Refused NoInnerPlan nan) (bits 0x8000000000000000 ∷ bits 0x8000000000000000 ∷ bits 0x8000000000000000 ∷ []) (replicate 44 +0)
unfolding open_krylov_call
nan_length = refl

-- a breakdown where the basis spans the whole space
whole_space : phi_combination_krylov (forward (csr 2 (0 ∷ 2 ∷ 4 ∷ []) (0 ∷ 1 ∷ 0 ∷ 1 ∷ []) (bits 0x3ff8b00a3890dcec ∷ bits 0xbfe8b00a3890dcec ∷ bits 0xbff20ba8b0e6146c ∷ bits 0x40020ba8b0e6146c ∷ [])) none) (bits 0x3fa86142fb1fec32) 3 (bits 0x4016b172accbf180 ∷ bits 0x3fb0d04b694bb2b0 ∷ bits 0x8000000000000000 ∷ bits 0x8000000000000000 ∷ bits 0x3de0e1b92cd48090 ∷ bits 0xc08d8d52387f36f3 ∷ []) (record { tol = bits 0x3cd203af9ee75616; m = 5; max_substeps = 2 }) (replicate 2 (nat 7)) (replicate 69 (nat 9))
    ≡ ends (Ok (record { matvecs = 4; substeps = 1; rejected = 0; est_error = bits 0x3cc149f6372853de; shortest = 1f; last = 1f })) (bits 0x40151096f393d8e8 ∷ bits 0xbfe6510e2ea257a3 ∷ []) (replicate 66 +0 ++ replicate 3 (nat 9))
unfolding open_krylov_call
whole_space = refl

-- a breakdown within tol
within_tol : phi_combination_krylov (forward (csr 3 (2 ∷ 2 ∷ 5 ∷ 9 ∷ []) (0 ∷ 1 ∷ 2 ∷ 1 ∷ 0 ∷ 0 ∷ 2 ∷ 1 ∷ 0 ∷ []) (bits 0x3fe26fedae363ef2 ∷ bits 0x3fca7a2502ac87a8 ∷ bits 0xbff0000000000000 ∷ bits 0x6126c2d4256ffcc3 ∷ bits 0x4000000000000000 ∷ bits 0xc0103b30cdb15da0 ∷ bits 0x3fd597e9f8015970 ∷ bits 0xc000000000000000 ∷ bits 0x4012e97c874a812a ∷ [])) none) (bits 0x1e81a4a8463a3a96) 4 (bits 0x8000000000000000 ∷ bits 0x8000000000000000 ∷ bits 0x8000000000000000 ∷ 1f ∷ 1f ∷ 1f ∷ bits 0x3e9c2accdcf66f46 ∷ bits 0xc008000000000000 ∷ bits 0x3fc7951831871800 ∷ bits 0x4008000000000000 ∷ bits 0x3ff8d9670165f5b0 ∷ +0 ∷ []) (record { tol = bits 0x3f50624dd2f1a9fc; m = 1000; max_substeps = 100000 }) (replicate 3 (nat 7)) (replicate 121 (nat 9))
    ≡ ends (Ok (record { matvecs = 4; substeps = 1; rejected = 0; est_error = bits 0x3cc0c8c9ee3f0bba; shortest = 1f; last = 1f })) (bits 0x1e81a4a8463a3a96 ∷ bits 0x1e80ce4f38841306 ∷ bits 0x1e81a4a8463a3a96 ∷ []) (replicate 121 +0)
unfolding open_krylov_call
within_tol = refl

-- the error between the two estimates, over a mass
middle_error : phi_combination_krylov (forward (csr 2 (0 ∷ 2 ∷ 4 ∷ []) (0 ∷ 1 ∷ 0 ∷ 1 ∷ []) (bits 0xbff6e6dfc2e1faf6 ∷ bits 0xc010000000000000 ∷ bits 0xc000000000000000 ∷ bits 0x3fe7fd658f508072 ∷ [])) (some (bits 0x402103c79e91020f ∷ bits 0x4010e1631f8d61d9 ∷ []))) (bits 0x401ae331655ec7a7) 3 (bits 0x40d0000000000000 ∷ bits 0x40d0000000000000 ∷ bits 0xbe4b288b1e2c2860 ∷ bits 0xbf925dc0b2eb1940 ∷ bits 0xbffda48d5ef7f3e1 ∷ bits 0xbfeef5e953546b46 ∷ []) (record { tol = bits 0x3fe0000000000000; m = 3; max_substeps = 3 }) (replicate 2 (nat 7)) (replicate 55 (nat 9))
    ≡ ends (Ok (record { matvecs = 8; substeps = 2; rejected = 0; est_error = bits 0x3f5c78e5ea96d327; shortest = bits 0x3fc0a3d70a3d70a4; last = bits 0x3febd70a3d70a3d7 })) (bits 0x412031fe52b70627 ∷ bits 0x4116ba9d0dd5b081 ∷ []) (replicate 55 +0)
unfolding open_krylov_call
middle_error = refl

-- a limit of one substep: 27
limit_1 : phi_combination_krylov (forward (csr 2 (0 ∷ 1 ∷ 2 ∷ []) (0 ∷ 1 ∷ []) (bits 0x3fcdf619ff4a3378 ∷ bits 0x3fed208ff367e83a ∷ [])) none) (bits 0x3ff4000000000000) 3 (1f ∷ bits 0x3fe9824259cde658 ∷ bits 0x3f50000000000000 ∷ bits 0xbe35f84fa201ba82 ∷ bits 0x8000000000000000 ∷ bits 0x8000000000000000 ∷ []) (record { tol = bits 0x3fe0000000000000; m = 3; max_substeps = 1 }) (replicate 2 (nat 7)) (replicate 51 (nat 9))
    ≡ ends (Refused SubstepLimit (bits 0x3e72576da7fe1f46)) (bits 0x3fed26db74d5d8c5 ∷ bits 0x3fe1b96951c00d45 ∷ []) (replicate 51 +0)
unfolding open_krylov_call
limit_1 = refl
