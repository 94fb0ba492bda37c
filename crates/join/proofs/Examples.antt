-- The definitions computed. Assumes nothing.
use mathlib.Core.Path.{◌≡◌, refl}
use mathlib.Core.List.{[], ◌∷◌}
use lib.ListN.{replicate}
use lib.Ieee.{nan}
use Rattle.std.specs.Prelude.{Ok}
use Rattle.doubles.specs.F64.{bits, +0, 1f, 2f, +∞}
use Rattle.general_operator.specs.Csr.{Csr, csr}
use Rattle.join_rows.specs.Join.{join, join_call, open_join}
use Rattle.checks.specs.Reasons.{Refused}
use Rattle.checks.specs.declared.Reason.TheVariants.{EntryNotFinite, JoinColumnOrder, JoinLength}

-- rows (1 . ; . 2) and (. 1 ; . -2): entries before the first row start are not carried, a sum of 0 is kept
abbrev barrel : Csr
barrel = csr 2 (1 ∷ 2 ∷ 3 ∷ []) (1 ∷ 0 ∷ 1 ∷ []) (2f ∷ 1f ∷ 2f ∷ [])

abbrev mount : Csr
mount = csr 2 (0 ∷ 1 ∷ 2 ∷ []) (1 ∷ 1 ∷ []) (1f ∷ bits 0xc000_0000_0000_0000 ∷ [])

joined : join barrel mount ≡ csr 2 (0 ∷ 2 ∷ 3 ∷ []) (0 ∷ 1 ∷ 1 ∷ []) (1f ∷ 1f ∷ +0 ∷ [])
unfolding open_join
joined = refl

-- places beyond the result are unchanged
called : join_call barrel mount (replicate 4 9) (replicate 3 9) (replicate 4 2f) ≡ record { answer = Ok 3; starts = 0 ∷ 2 ∷ 3 ∷ 9 ∷ []; columns = 0 ∷ 1 ∷ 1 ∷ []; values = 1f ∷ 1f ∷ +0 ∷ 2f ∷ [] }
unfolding open_join
called = refl

narrow : join_call barrel mount (replicate 4 9) (replicate 2 9) (replicate 4 2f) ≡ record { answer = Refused JoinLength nan; starts = replicate 4 9; columns = replicate 2 9; values = replicate 4 2f }
unfolding open_join
narrow = refl

-- a repeated column
repeated : join_call (csr 1 (0 ∷ 2 ∷ []) (0 ∷ 0 ∷ []) (1f ∷ 1f ∷ [])) (csr 1 (0 ∷ 0 ∷ []) [] []) [] [] [] ≡ record { answer = Refused JoinColumnOrder nan; starts = []; columns = []; values = [] }
unfolding open_join
repeated = refl

-- the largest double twice
overflowing : join_call (csr 1 (0 ∷ 1 ∷ []) (0 ∷ []) (bits 0x7fef_ffff_ffff_ffff ∷ [])) (csr 1 (0 ∷ 1 ∷ []) (0 ∷ []) (bits 0x7fef_ffff_ffff_ffff ∷ [])) (9 ∷ 9 ∷ []) (9 ∷ []) (2f ∷ [])
    ≡ record { answer = Refused EntryNotFinite +∞; starts = 9 ∷ 9 ∷ []; columns = 9 ∷ []; values = 2f ∷ [] }
unfolding open_join
overflowing = refl
