-- Rows whose flow is off, by computation: close to what N13 allows, and beyond it where a product is tiny. Assumes nothing.
use mathlib.Core.List.{List, [], ◌∷◌}
use mathlib.Core.Logic.{inr}
use mathlib.Core.Path.{◌≡◌, refl}
use Prim.Native.Nat.{ℕ, zero, suc, ◌+◌, ◌*◌, ◌^◌, ◌≤◌, ◌<◌}
use lib.IntN.{ℤ, pos, negsuc, nat_abs, ◌+ℤ◌, ◌*ℤ◌}
use native.Mathlib.Nat.{not-le_of_lt}
use native.Mathlib.Omega.{arith}
use lib.Dec.{lit<, lit≤}
use lib.ListN.{get_or}
use lib.Ieee.{Float}
use Rattle.doubles.specs.F64.{at, bits, 1f}
use Rattle.doubles.specs.Units.{units}
use Rattle.doubles.proofs.Units.{patterns}
use Rattle.general_operator.specs.Csr.{Csr, csr, start, Valid, apply_generator}
use Rattle.general_operator.specs.Checks.{open_checks}
use Rattle.general_operator.specs.RowError.{stored, exact_product, total, total_size, NoneTiny, Off, open_row_error}
use Rattle.general_operator.proofs.Sound.{sound_valid}
use Rattle.general_operator.proofs.RowError.{flow_off}

-- ---- the exact sums of 1, -2, 5
abbrev terms : ℕ → ℤ
terms k = get_or (pos 1 ∷ negsuc 1 ∷ pos 5 ∷ []) k (pos 0)

summed : total 3 terms ≡ pos 4
unfolding open_row_error
summed = refl

sizes_summed : total_size 3 terms ≡ 8
unfolding open_row_error
sizes_summed = refl

-- ---- in units of 2 ^ -2148: how far row 0 is off, and N13's k times the sizes, of which 2 ^ -52 is allowed
abbrev products : Csr → List Float → ℕ → ℤ
products q x k = exact_product q.columns q.entries x (start q 0 + k)

abbrev error : Csr → List Float → ℕ
error q x = nat_abs (units (at (apply_generator q x) 0) *ℤ pos (2 ^ 1074) +ℤ total (stored q 0) (products q x))

abbrev allowed : Csr → List Float → ℕ
allowed q x = stored q 0 * total_size (stored q 0) (products q x)

-- (1 + 2 ^ -27) * (1 + 2 ^ -26) lies half way between two doubles: off by 2 ^ -53
abbrev one : Csr
one = csr 1 (0 ∷ 1 ∷ []) (0 ∷ []) (bits 0x3ff0_0000_0200_0000 ∷ [])

abbrev one_field : List Float
one_field = bits 0x3ff0_0000_0400_0000 ∷ []

one_off : error one one_field ≡ 2 ^ 2095
unfolding open_row_error
one_off = refl

-- above 0.9999 of k * 2 ^ -53
one_close : 9999 * allowed one one_field < 10000 * (2 ^ 53 * error one one_field)
unfolding open_row_error
one_close = lit< tt

-- which is within the bound
one_within : Off (stored one 0) (at (apply_generator one one_field) 0) (products one one_field)
unfolding open_row_error
one_within = lit≤ tt

-- and with 2 ^ -53 * 1 added, which rounds away again: off by 2 ^ -52
abbrev two : Csr
two = csr 2 (0 ∷ 2 ∷ 2 ∷ []) (0 ∷ 1 ∷ []) (bits 0x3ff0_0000_0200_0000 ∷ bits 0x3ca0_0000_0000_0000 ∷ [])

abbrev two_field : List Float
two_field = bits 0x3ff0_0000_0400_0000 ∷ 1f ∷ []

two_off : error two two_field ≡ 2 ^ 2096
unfolding open_row_error
two_off = refl

two_close : 9999 * allowed two two_field < 10000 * (2 ^ 53 * error two two_field)
unfolding open_row_error
two_close = lit< tt

-- N13's conditions are met, and so is its bound
two_valid : Valid two
two_valid = sound_valid two (unfold open_checks in refl)

two_none_tiny : NoneTiny two.columns two.entries two_field (start two 0) (stored two 0)
unfolding open_row_error
two_none_tiny zero l = inr (lit≤ tt)
two_none_tiny (suc zero) l = inr (lit≤ tt)
two_none_tiny (suc (suc k)) l = absurd (omega arith)

two_within : Off (stored two 0) (at (apply_generator two two_field) 0) (products two two_field)
two_within =
    flow_off two two_field 0 two_valid (lit< tt) (patterns (0x3ff0_0000_0200_0000 ∷ 0x3ca0_0000_0000_0000 ∷ [])) (patterns (0x3ff0_0000_0400_0000 ∷ 0x3ff0_0000_0000_0000 ∷ [])) two_none_tiny
    (unfold open_row_error in refl)

-- row 1 is empty
two_empty : at (apply_generator two two_field) 1 ≡ bits 0x8000_0000_0000_0000
unfolding open_row_error
two_empty = refl

-- ---- the same product less the double it rounds to, with the columns in falling order: the flow is -0, and off by the exact sum 2 ^ -53
abbrev cancelled : Csr
cancelled = csr 2 (0 ∷ 2 ∷ 2 ∷ []) (1 ∷ 0 ∷ []) (bits 0x3ff0_0000_0200_0000 ∷ bits 0xbff0_0000_0600_0000 ∷ [])

abbrev cancelled_field : List Float
cancelled_field = 1f ∷ bits 0x3ff0_0000_0400_0000 ∷ []

cancelled_flow : at (apply_generator cancelled cancelled_field) 0 ≡ bits 0x8000_0000_0000_0000
unfolding open_row_error
cancelled_flow = refl

cancelled_total : total 2 (products cancelled cancelled_field) ≡ pos (2 ^ 2095)
unfolding open_row_error
cancelled_total = refl

cancelled_within : Off (stored cancelled 0) (at (apply_generator cancelled cancelled_field) 0) (products cancelled cancelled_field)
unfolding open_row_error
cancelled_within = lit≤ tt

-- ---- a tiny product: 2 ^ -512 * (1 + 2 ^ -51) * 2 ^ -512 is a quarter of 2 ^ -1022 and more, and off by more than 2 ^ -52 of itself
abbrev tiny : Csr
tiny = csr 1 (0 ∷ 1 ∷ []) (0 ∷ []) (bits 0x1ff0_0000_0000_0002 ∷ [])

abbrev tiny_field : List Float
tiny_field = bits 0x1ff0_0000_0000_0000 ∷ []

tiny_size : 2 ^ 1124 ≤ nat_abs (products tiny tiny_field 0)
unfolding open_row_error
tiny_size = lit≤ tt

tiny_beyond : Off (stored tiny 0) (at (apply_generator tiny tiny_field) 0) (products tiny tiny_field) → ⊥
unfolding open_row_error
tiny_beyond h = let beyond : allowed tiny tiny_field < 2 ^ 52 * error tiny tiny_field = lit< tt in not-le_of_lt beyond h

-- 2 ^ -600 * 2 ^ -600 is lost whole
abbrev lost : Csr
lost = csr 1 (0 ∷ 1 ∷ []) (0 ∷ []) (bits 0x1a70_0000_0000_0000 ∷ [])

lost_flow : at (apply_generator lost (bits 0x1a70_0000_0000_0000 ∷ [])) 0 ≡ bits 0x8000_0000_0000_0000
unfolding open_row_error
lost_flow = refl

-- 2 ^ -511 * 2 ^ -511 is 2 ^ -1022: the smallest product that is not tiny
abbrev normal : Csr
normal = csr 1 (0 ∷ 1 ∷ []) (0 ∷ []) (bits 0x2000_0000_0000_0000 ∷ [])

normal_product : products normal (bits 0x2000_0000_0000_0000 ∷ []) 0 ≡ pos (2 ^ 1126)
unfolding open_row_error
normal_product = refl
