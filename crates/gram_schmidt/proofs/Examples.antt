-- Worked examples, by computation. Assumes nothing.
use mathlib.Core.Path.{◌≡◌, refl}
use mathlib.Core.List.{[], ◌∷◌}
use Prim.Native.Nat.{ℕ}
use lib.ListN.{replicate, set}
use Rattle.doubles.specs.F64.{nat, +0, 1f}
use Rattle.general_operator.specs.Csr.{csr}
use Rattle.phi_action_helpers.specs.Augmented.{augmented}
use Rattle.gram_schmidt.specs.Basis.{Setting, norm2, breakdown, full, arnoldi, open_basis}

five : norm2 (nat 3 ∷ nat 4 ∷ []) ≡ nat 5
unfolding open_basis
five = refl

-- B (u, c) = (c, 0)
abbrev moves : ℕ → Setting
moves m = record { operator = augmented (csr 1 (0 ∷ 0 ∷ []) [] []) 1 (1f ∷ []) (0 ∷ 0 ∷ 0 ∷ []) (1f ∷ +0 ∷ +0 ∷ []) 1; tau = 1f; anorm = 1f; tol = +0; m = m }

-- two columns span the whole space, so nothing is left of the second product
spans : arnoldi (moves 2) (+0 ∷ nat 2 ∷ []) (nat 2)
    ≡ breakdown (record { columns = record { v = (+0 ∷ 1f ∷ []) ∷ (1f ∷ +0 ∷ []) ∷ []; h = set (replicate 16 +0) 1 1f; applied = 2 }; mb = 2; hn = +0 })
unfolding open_basis
spans = refl

-- with M = 1 the second product is the last one
stops : arnoldi (moves 1) (+0 ∷ nat 2 ∷ []) (nat 2)
    ≡ full (record { v = (+0 ∷ 1f ∷ []) ∷ (1f ∷ +0 ∷ []) ∷ []; h = set (set (replicate 9 +0) 1 1f) 5 1f; applied = 2 }) +0
unfolding open_basis
stops = refl
