-- A breakdown is not ended on hn alone (document 01, 'Slips of the soak'; phi_krylov_arnoldi.rs, `arnoldi`). Assumes nothing.
use mathlib.Core.Bool.{Bool, true, false}
use mathlib.Core.List.{List, [], ◌∷◌}
use mathlib.Core.Path.{◌≡◌, refl}
use lib.Ieee.{Float}
use Rattle.doubles.specs.F64.{bits, nat, 1f, +0}
use Rattle.general_operator.specs.Csr.{csr}
use Rattle.phi_action_helpers.specs.Augmented.{augmented}
use Rattle.gram_schmidt.specs.Basis.{Setting, Basis, breakdown, full, norm2, arnoldi, open_basis}

-- three rows that lose nearly the same: 1, 1 + 2 ^ -45 and 1 + 2 ^ -44, so that nearly nothing is left of the first product
abbrev nearly_alike : Float → Setting
nearly_alike tol =
    record {
      operator = augmented (csr 3 (0 ∷ 1 ∷ 2 ∷ 3 ∷ []) (0 ∷ 1 ∷ 2 ∷ []) (1f ∷ bits 0x3ff0_0000_0000_0080 ∷ bits 0x3ff0_0000_0000_0100 ∷ [])) 0 [] (0 ∷ 0 ∷ 0 ∷ []) (1f ∷ 1f ∷ 1f ∷ []) 0;
      tau = 1f;
      anorm = nat 3;
      tol = tol;
      m = 2;
    }

abbrev ones : List Float
ones = 1f ∷ 1f ∷ 1f ∷ []

-- how many columns count, and whether the basis broke down
abbrev broke : Basis → Bool
broke (breakdown b) = true
broke (full b avnorm) = false

-- what is left is below the threshold, but not within tol, and the basis does not span the whole space: it goes on
goes_on : broke (arnoldi (nearly_alike +0) ones (norm2 ones)) ≡ false
unfolding open_basis
goes_on = refl

-- within tol it breaks down
ends : broke (arnoldi (nearly_alike 1f) ones (norm2 ones)) ≡ true
unfolding open_basis
ends = refl
