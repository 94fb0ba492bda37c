-- The order in which the checks of a join are met, and more of what it gives (document 02, N8). Assumes nothing.
use mathlib.Core.Path.{◌≡◌, refl}
use mathlib.Core.List.{[], ◌∷◌, map}
use lib.Ieee.{nan}
use Rattle.std.specs.Prelude.{Ok}
use Rattle.checks.specs.First.{Check}
use Rattle.checks.specs.Reasons.{number}
use Rattle.doubles.specs.F64.{bits, +0, 1f, 2f}
use Rattle.general_operator.specs.Csr.{Csr, csr}
use Rattle.join_rows.specs.declared.Lengths.{Lengths}
use Rattle.join_rows.specs.Join.{join_checks, join_call, open_join}
use Rattle.checks.specs.Reasons.{Refused}
use Rattle.checks.specs.declared.Reason.TheVariants.{RowStartsLength, EntryNotFinite, JoinRows}

order : (a b : Csr) (l : Lengths) → map (λ (c : Check). number c.reason) (join_checks a b l) ≡ 1 ∷ 2 ∷ 3 ∷ 4 ∷ 5 ∷ 6 ∷ 11 ∷ 1 ∷ 2 ∷ 3 ∷ 4 ∷ 5 ∷ 6 ∷ 11 ∷ 34 ∷ 35 ∷ 36 ∷ 3 ∷ 6 ∷ []
unfolding open_join
order a b l = refl

-- entries of no row that fall are no 35; -0 alone stays -0, -0 and -0 give -0, -0 and +0 give +0
zeros : join_call (csr 2 (2 ∷ 4 ∷ 4 ∷ []) (1 ∷ 0 ∷ 0 ∷ 1 ∷ []) (1f ∷ 1f ∷ bits 0x8000_0000_0000_0000 ∷ bits 0x8000_0000_0000_0000 ∷ [])) (csr 2 (0 ∷ 1 ∷ 2 ∷ []) (1 ∷ 0 ∷ []) (bits 0x8000_0000_0000_0000 ∷ +0 ∷ [])) (9 ∷ 9 ∷ 9 ∷ []) (9 ∷ 9 ∷ 9 ∷ []) (2f ∷ 2f ∷ 2f ∷ [])
    ≡ record { answer = Ok 3; starts = 0 ∷ 2 ∷ 3 ∷ []; columns = 0 ∷ 1 ∷ 0 ∷ []; values = bits 0x8000_0000_0000_0000 ∷ bits 0x8000_0000_0000_0000 ∷ +0 ∷ [] }
unfolding open_join
zeros = refl

-- a mount with another n, refused by its own check first
other : join_call (csr 1 (0 ∷ 0 ∷ []) [] []) (csr 2 (0 ∷ 0 ∷ []) [] []) [] [] [] ≡ record { answer = Refused RowStartsLength 2f; starts = []; columns = []; values = [] }
unfolding open_join
other = refl

differ : join_call (csr 1 (0 ∷ 2 ∷ []) (0 ∷ 0 ∷ []) (1f ∷ 1f ∷ [])) (csr 2 (0 ∷ 0 ∷ 0 ∷ []) [] []) [] [] [] ≡ record { answer = Refused JoinRows nan; starts = []; columns = []; values = [] }
unfolding open_join
differ = refl

-- the barrel wholly before the mount: its entry is no number, and the mount has no rows
barrel_first : join_call (csr 1 (0 ∷ 1 ∷ []) (0 ∷ []) (nan ∷ [])) (csr 0 [] [] []) [] [] [] ≡ record { answer = Refused EntryNotFinite nan; starts = []; columns = []; values = [] }
unfolding open_join
barrel_first = refl
