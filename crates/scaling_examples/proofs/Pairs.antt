-- Pairs of jobs that meet N9's conditions, so that the second output is the first times 2 ^ j: with a load, with a shifted plan, with all further vectors zero, transposed with a mass, with a
-- product of just 2 ^ -1022, with a subnormal load times 2 ^ 2000, and with a scaling exponent at its clamp. Assumes nothing.
use mathlib.Core.Bool.{false}
use mathlib.Core.List.{List, [], ◌∷◌, map}
use mathlib.Core.Option.{none, some}
use mathlib.Core.Path.{◌≡◌, refl}
use Prim.Native.Nat.{ℕ}
use lib.IntN.{ℤ, pos, negsuc}
use lib.ListN.{replicate}
use lib.Ieee.{binary64}
use lib.Ieee.Bits.{of_bits-fits}
use Rattle.doubles.specs.F64.{bits, +0}
use Rattle.doubles.specs.Units.{open_units}
use Rattle.doubles.proofs.Units.{patterns}
use Rattle.pow2.specs.Pow2.{eta_of}
use Rattle.general_operator.specs.Csr.{csr}
use Rattle.generator_action.specs.Generator.{Generator, forward}
use Rattle.transpose.specs.Transpose.{lent, transposed, open_transpose}
use Rattle.taylor_job.specs.declared.TaylorReport.{TaylorReport}
use Rattle.taylor_job.specs.Calls.{phi_combination, open_calls}
use Rattle.scaling.specs.Doubled.{doubled, scaling_of, DoubledOutput}
use Rattle.scaling.proofs.Doubled.{doubled_forward, doubled_transposed}
use Rattle.scaling.proofs.Tested.{job_bad, bad⊗, bad⊕, doubling_bad, clean_job, clean_doubled, open_tested}
use Rattle.std.specs.Prelude.{Ok}

-- what is computed of a pair over the generator g: no operation is bad, and both are accepted with the report r
record Computed (j : ℤ) (g : Generator) (tau cap count : ℕ) (w : List ℕ) (out memory : ℕ) (r : TaylorReport) : Type 0 where
  doubling : doubling_bad j (map bits w) ≡ false
  operations : job_bad bad⊗ bad⊕ g.matrix (bits tau) cap count (map bits w) ≡ false
  operations' : job_bad bad⊗ bad⊕ g.matrix (bits tau) cap count (doubled j (map bits w)) ≡ false
  accepted : (phi_combination g (bits tau) cap count (map bits w) (replicate out +0) (replicate memory +0)).answer ≡ Ok r
  accepted' : (phi_combination g (bits tau) cap count (doubled j (map bits w)) (replicate out +0) (replicate memory +0)).answer ≡ Ok r

abbrev Doubled : ℤ → Generator → ℕ → ℕ → ℕ → List ℕ → ℕ → ℕ → Type 0
Doubled j g tau cap count w out memory =
    (phi_combination g (bits tau) cap count (doubled j (map bits w)) (replicate out +0) (replicate memory +0)).output ≡ doubled j (phi_combination g (bits tau) cap count (map bits w) (replicate out +0) (replicate memory +0)).output

pair : (g : Generator) → DoubledOutput g g → (j : ℤ) (tau cap count : ℕ) (w : List ℕ) (out memory : ℕ) (r : TaylorReport) → Computed j g tau cap count w out memory r → Doubled j g tau cap count w out memory
pair g theorem j tau cap count w out memory r c =
    theorem j (bits tau) cap count (map bits w) (replicate out +0) (replicate memory +0) (replicate out +0) (replicate memory +0) r r (of_bits-fits binary64 tau) (patterns w) c.accepted c.accepted' (clean_doubled j (map bits w) c.doubling)
    (clean_job g.matrix (bits tau) cap count (map bits w) c.operations) (clean_job g.matrix (bits tau) cap count (doubled j (map bits w)) c.operations')

-- two sweeps
abbrev told : ℕ → ℕ → ℕ → TaylorReport
told m mu applied = record { s = 2; m = m; mu = bits mu; applications = applied }

-- ---- a load: one row with the entry 1/2, tau 1, w_0 = 1 and w_1 = -1/2; times 2 ^ -3
abbrev loaded : Generator
loaded = forward (csr 1 (0 ∷ 1 ∷ []) (0 ∷ []) (map bits (0x3fe0_0000_0000_0000 ∷ []))) none

pub loaded_doubled : Doubled (negsuc 2) loaded 0x3ff0_0000_0000_0000 30 2 (0x3ff0_0000_0000_0000 ∷ 0xbfe0_0000_0000_0000 ∷ []) 1 5
loaded_doubled =
    pair loaded (doubled_forward _ none (patterns (0x3fe0_0000_0000_0000 ∷ []))) (negsuc 2) 0x3ff0_0000_0000_0000 30 2 (0x3ff0_0000_0000_0000 ∷ 0xbfe0_0000_0000_0000 ∷ []) 1 5 (told 30 0 60)
    (unfold doubled open_tested open_units open_calls in record { doubling = refl; operations = refl; operations' = refl; accepted = refl; accepted' = refl })

-- ---- a shifted plan and a load: (2 -1; -1 2), tau 3/4, w_0 = (1, -0), w_1 = (0, 1/2), mu -3/2; times 2
abbrev shifted : Generator
shifted = forward (csr 2 (0 ∷ 2 ∷ 4 ∷ []) (0 ∷ 1 ∷ 0 ∷ 1 ∷ []) (map bits (0x4000_0000_0000_0000 ∷ 0xbff0_0000_0000_0000 ∷ 0xbff0_0000_0000_0000 ∷ 0x4000_0000_0000_0000 ∷ []))) none

abbrev with_minus_0 : List ℕ
with_minus_0 = 0x3ff0_0000_0000_0000 ∷ 0x8000_0000_0000_0000 ∷ 0 ∷ 0x3fe0_0000_0000_0000 ∷ []

-- the computations of this pair one by one, since each is long
shifted_operations : job_bad bad⊗ bad⊕ shifted.matrix (bits 0x3fe8_0000_0000_0000) 30 2 (map bits with_minus_0) ≡ false
unfolding open_tested open_units open_calls
shifted_operations = refl

shifted_operations' : job_bad bad⊗ bad⊕ shifted.matrix (bits 0x3fe8_0000_0000_0000) 30 2 (doubled (pos 1) (map bits with_minus_0)) ≡ false
unfolding doubled open_tested open_units open_calls
shifted_operations' = refl

pub shifted_doubled : Doubled (pos 1) shifted 0x3fe8_0000_0000_0000 30 2 with_minus_0 2 8
shifted_doubled =
    pair shifted (doubled_forward _ none (patterns (0x4000_0000_0000_0000 ∷ 0xbff0_0000_0000_0000 ∷ 0xbff0_0000_0000_0000 ∷ 0x4000_0000_0000_0000 ∷ []))) (pos 1) 0x3fe8_0000_0000_0000 30 2 with_minus_0 2 8
    (told 30 0xbff8_0000_0000_0000 60) (unfold doubled open_tested open_units open_calls in record { doubling = refl; operations = shifted_operations; operations' = shifted_operations'; accepted = refl; accepted' = refl })

-- ---- all further vectors zero, of either sign: one row with the entry 1/2, tau 1, w_0 = 3, w_1 = -0, w_2 = 0; times 2 ^ 2
abbrev zero_loads : List ℕ
zero_loads = 0x4008_0000_0000_0000 ∷ 0x8000_0000_0000_0000 ∷ 0 ∷ []

pub zeros_doubled : Doubled (pos 2) loaded 0x3ff0_0000_0000_0000 30 3 zero_loads 1 7
zeros_doubled =
    pair loaded (doubled_forward _ none (patterns (0x3fe0_0000_0000_0000 ∷ []))) (pos 2) 0x3ff0_0000_0000_0000 30 3 zero_loads 1 7 (told 30 0 60)
    (unfold doubled open_tested open_units open_calls in record { doubling = refl; operations = refl; operations' = refl; accepted = refl; accepted' = refl })

-- ---- transposed and with a mass: (1/2 0; -1/4 0), mass (2, 1/2), tau 1, w_0 = (1, 3), no load; times 2 ^ -1
abbrev turned : Generator
turned = transposed (csr 2 (0 ∷ 1 ∷ 2 ∷ []) (0 ∷ 0 ∷ []) (map bits (0x3fe0_0000_0000_0000 ∷ 0xbfd0_0000_0000_0000 ∷ []))) (some (map bits (0x4000_0000_0000_0000 ∷ 0x3fe0_0000_0000_0000 ∷ []))) (lent 3 2 2)

pub transposed_doubled : Doubled (negsuc 0) turned 0x3ff0_0000_0000_0000 30 1 (0x3ff0_0000_0000_0000 ∷ 0x4008_0000_0000_0000 ∷ []) 2 8
transposed_doubled =
    pair turned (doubled_transposed _ _ (lent 3 2 2) (lent 3 2 2) (patterns (0x3fe0_0000_0000_0000 ∷ 0xbfd0_0000_0000_0000 ∷ []))) (negsuc 0) 0x3ff0_0000_0000_0000 30 1 (0x3ff0_0000_0000_0000 ∷ 0x4008_0000_0000_0000 ∷ []) 2 8
    (told 30 0 60) (unfold doubled open_tested open_units open_transpose open_calls in record { doubling = refl; operations = refl; operations' = refl; accepted = refl; accepted' = refl })

-- ---- a product of just 2 ^ -1022: row 0 of two has the entry 2 ^ -22 in column 1, tau 4, w_0 = (0, 2 ^ -999); times 2 ^ -1
abbrev least : Generator
least = forward (csr 2 (0 ∷ 1 ∷ 1 ∷ []) (1 ∷ []) (map bits (0x3e90_0000_0000_0000 ∷ []))) none

pub least_doubled : Doubled (negsuc 0) least 0x4010_0000_0000_0000 30 1 (0 ∷ 0x0180_0000_0000_0000 ∷ []) 2 6
least_doubled =
    pair least (doubled_forward _ none (patterns (0x3e90_0000_0000_0000 ∷ []))) (negsuc 0) 0x4010_0000_0000_0000 30 1 (0 ∷ 0x0180_0000_0000_0000 ∷ []) 2 6 (told 25 0 50)
    (unfold doubled open_tested open_units open_calls in record { doubling = refl; operations = refl; operations' = refl; accepted = refl; accepted' = refl })

-- ---- no entries: w_0 = 2 ^ -1074, times 2 ^ 2000; and w_1 = 2 ^ 1010, whose scaling exponent is clamped to 1000, times 2 ^ -20, whose is 990
abbrev empty : Generator
empty = forward (csr 1 (0 ∷ 0 ∷ []) [] []) none

pub far_doubled : Doubled (pos 2000) empty 0x3ff0_0000_0000_0000 30 1 (1 ∷ []) 1 3
far_doubled =
    pair empty (doubled_forward _ none (patterns [])) (pos 2000) 0x3ff0_0000_0000_0000 30 1 (1 ∷ []) 1 3 (told 25 0 50)
    (unfold doubled open_tested open_units open_calls in record { doubling = refl; operations = refl; operations' = refl; accepted = refl; accepted' = refl })

pub clamped_doubled : Doubled (negsuc 19) empty 0x3ff0_0000_0000_0000 30 2 (0 ∷ 0x7f10_0000_0000_0000 ∷ []) 1 5
clamped_doubled =
    pair empty (doubled_forward _ none (patterns [])) (negsuc 19) 0x3ff0_0000_0000_0000 30 2 (0 ∷ 0x7f10_0000_0000_0000 ∷ []) 1 5 (told 25 0 50)
    (unfold doubled open_tested open_units open_calls in record { doubling = refl; operations = refl; operations' = refl; accepted = refl; accepted' = refl })

at_the_clamp : scaling_of empty.matrix (bits 0x3ff0_0000_0000_0000) 2 (map bits (0 ∷ 0x7f10_0000_0000_0000 ∷ [])) ≡ eta_of (pos 1000)
unfolding open_calls
at_the_clamp = refl

below_the_clamp : scaling_of empty.matrix (bits 0x3ff0_0000_0000_0000) 2 (doubled (negsuc 19) (map bits (0 ∷ 0x7f10_0000_0000_0000 ∷ []))) ≡ eta_of (pos 990)
unfolding doubled open_calls
below_the_clamp = refl
