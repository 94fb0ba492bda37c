-- Worked examples, by computation. Assumes nothing.
use mathlib.Core.Path.{◌≡◌, refl}
use mathlib.Core.List.{[], ◌∷◌}
use Rattle.doubles.specs.F64.{nat, 1f, 2f}
use Rattle.vectors.specs.Vectors.{axpy, scale, open_vectors}

-- (1, 1) + 2 (3, 4)
seven_nine : axpy 2f (nat 3 ∷ nat 4 ∷ []) (1f ∷ 1f ∷ []) ≡ nat 7 ∷ nat 9 ∷ []
unfolding open_vectors
seven_nine = refl

doubled : scale 2f (nat 3 ∷ nat 4 ∷ []) ≡ nat 6 ∷ nat 8 ∷ []
unfolding open_vectors
doubled = refl
