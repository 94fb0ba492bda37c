-- What a start and a step hand out. Assumes nothing.
use mathlib.Core.Path.{◌≡◌, refl, ap, ◌∙◌}
use mathlib.Core.List.{List, [], ◌∷◌, map}
use Prim.Native.Nat.{ℕ, zero, suc, ◌≤◌}
use native.Mathlib.Omega.{arith}
use lib.ListN.{length, take}
use lib.Ieee.{Float}
use Rattle.lists.specs.Window.{window, splice}
use Rattle.lists.proofs.Window.{length_window, splice_whole}
use Rattle.doubles.specs.F64.{◌⊗◌}
use Rattle.vectors.specs.Vectors.{scale}

-- the front of a list is scaled as the list is
front_scaled : (s : Float) (n : ℕ) (y : List Float) → scale s (window 0 n y) ≡ window 0 n (scale s y)
unfolding scale window
front_scaled s n y = go n y
  where
    go : (n : ℕ) (y : List Float) → map (λ (e : Float). e ⊗ s) (take n y) ≡ take n (map (λ (e : Float). e ⊗ s) y)
    go zero y = refl
    go (suc n) [] = refl
    go (suc n) (x ∷ y) = ap (λ (l : List Float). (x ⊗ s) ∷ l) (go n y)

pub handed : (up : Float) (out field : List Float) {out₁ out₂ : List Float} → length out ≤ length field → out₁ ≡ splice 0 (window 0 (length out) field) out → out₂ ≡ scale up out₁
    → out₂ ≡ window 0 (length out) (scale up field)
handed up out field l e₁ e₂ =
    e₂ ∙ ap (scale up) (e₁ ∙ splice_whole _ out (length_window 0 (length out) field (omega arith))) ∙ front_scaled up (length out) field
