-- Sweeps computed, with what the Rust gave for the whole job (docs/CLAIMS.md, 'Slips of the soak'). Assumes nothing.
use mathlib.Core.List.{[], ◌∷◌}
use mathlib.Core.Path.{◌≡◌, refl}
use Rattle.lists.specs.Window.{window}
use Rattle.doubles.specs.F64.{bits, 1f, +0}
use Rattle.general_operator.specs.Csr.{csr}
use Rattle.phi_action_helpers.specs.Augmented.{augmented}
use Rattle.phi_action_helpers.specs.Sweeps.{run_sweeps, open_sweeps}

-- three vectors: no gain is a power of two, and gain times chain is rounded before the step
gain_then_step : window 0 3 (run_sweeps (augmented (csr 3 (0 ∷ 1 ∷ 2 ∷ 3 ∷ []) (0 ∷ 1 ∷ 2 ∷ []) (bits 0xc003fe2c99732dda ∷ bits 0xbff0000000000000 ∷ bits 0xc016638eabf3bd8e ∷ [])) 2 (1f ∷ 1f ∷ 1f ∷ bits 0x8000000000000000 ∷ bits 0x8000000000000000 ∷ bits 0x8000000000000000 ∷ []) (3 ∷ 0 ∷ 0 ∷ []) (+0 ∷ bits 0x3feea0ea99284672 ∷ 1f ∷ []) 2) (bits 0x3ffea0ea99284672) (record { s = 5; m = 30; mu = bits 0x4019420900e0c680 }) (bits 0xc010000000000000 ∷ +0 ∷ bits 0xc00f5568d9748856 ∷ +0 ∷ bits 0x4000000000000000 ∷ [])).y
    ≡ bits 0xc07aee19312c3e07 ∷ bits 0x401720ddd47e39c7 ∷ bits 0xc1048a0de2db3ed0 ∷ []
unfolding open_sweeps
gain_then_step = refl

-- three vectors: the chain of two values feeds w_2 into the field
chain_of_two : window 0 3 (run_sweeps (augmented (csr 3 (0 ∷ 2 ∷ 5 ∷ 7 ∷ []) (0 ∷ 1 ∷ 0 ∷ 1 ∷ 2 ∷ 1 ∷ 2 ∷ []) (bits 0x3ff55f51f32bd8d4 ∷ bits 0xbfe55f51f32bd8d4 ∷ bits 0xbfdc948512e41229 ∷ bits 0x3fec948512e41229 ∷ bits 0xbfdc948512e41229 ∷ bits 0xbfd400e64cda4cd6 ∷ bits 0x3fe400e64cda4cd6 ∷ [])) 2 (bits 0x8000000000000000 ∷ bits 0x8000000000000000 ∷ bits 0x8000000000000000 ∷ bits 0x41c0000000000000 ∷ bits 0x41c0000000000000 ∷ bits 0x41c0000000000000 ∷ []) (3 ∷ 0 ∷ 0 ∷ []) (bits 0x3e11233cff0cccc4 ∷ +0 ∷ 1f ∷ []) 2) (bits 0x3fd08f1e67aafa92) (record { s = 2; m = 25; mu = bits 0xbfd096dedd99a4c4 }) (+0 ∷ +0 ∷ +0 ∷ +0 ∷ bits 0x4190000000000000 ∷ [])).y
    ≡ bits 0x41703a9cc1706ba4 ∷ bits 0x4171198d7cb60025 ∷ bits 0x4170b1736306ee89 ∷ []
unfolding open_sweeps
chain_of_two = refl
