-- A window of a list, and a list with a window written over. Definitions only.
use Rattle.std.specs.Prelude.{List, [], ◌∷◌, ℕ, zero, suc, take, drop}

module _ {A : Type 0} where
  -- the `len` elements from index `at`
  unfoldable pub window : ℕ → ℕ → List A → List A
  window at len w = take len (drop at w)

  -- w, with vs written over its front
  unfoldable pub over : List A → List A → List A
  over [] w = w
  over (v ∷ vs) [] = []
  over (v ∷ vs) (x ∷ w) = v ∷ over vs w

  -- w, with vs written over from index `at`; the length stays, also where vs runs past the end
  unfoldable pub splice : ℕ → List A → List A → List A
  splice zero vs w = over vs w
  splice (suc n) vs [] = []
  splice (suc n) vs (x ∷ w) = x ∷ splice n vs w

-- to compute: a line `unfolding open_window` opens every definition of this file
unfoldable pub open_window : Unit {0}
unfolding window over splice
open_window = tt
