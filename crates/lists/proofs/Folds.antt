-- Folds of a list as the iteration by index, and what a part of a slice holds that is gone through. Assumes nothing.
use mathlib.Core.Path.{◌≡◌, refl, ap, ◌∙◌, sym}
use mathlib.Core.List.{List, [], ◌∷◌}
use Prim.Native.Nat.{ℕ, zero, suc, ◌+◌, ◌-◌, ◌≤◌, ◌<◌}
use native.Mathlib.Omega.{arith}
use lib.ListN.{length, get_or, take, drop, length-drop}
use lib.Seq.{get_or-take, get_or-drop, length-take-le}
use Rattle.std.specs.List.{fold}
use Rattle.lists.specs.Loop.{iter}

-- the first turn apart
iter_front : {A : Type 0} (step : ℕ → A → A) (n : ℕ) (a : A) → iter step (suc n) a ≡ iter (λ k. step (suc k)) n (step 0 a)
unfolding iter
iter_front step zero a = refl
iter_front step (suc n) a = ap (step (suc n)) (iter_front step n a)

module _ {A : Type 0} where
  -- a fold goes from the front by index
  pub fold_iter : {B : Type 0} (f : B → A → B) (b : B) (xs : List A) (d : A) → fold f b xs ≡ iter (λ k s. f s (get_or xs k d)) (length xs) b
  unfolding iter
  fold_iter f b [] d = refl
  fold_iter f b (x ∷ xs) d = fold_iter f (f b x) xs d ∙ sym (iter_front (λ k s. f s (get_or (x ∷ xs) k d)) (length xs) b)

  -- what `&w[from..to]` lends: its length, and its elements
  pub length_part : (from to : ℕ) (w : List A) → to ≤ length w → length (take (to - from) (drop from w)) ≡ to - from
  length_part from to w h = length-take-le (to - from) (drop from w) (simp length-drop (omega arith))

  pub get_d_part : (from to : ℕ) (w : List A) (k : ℕ) (d : A) → k < to - from → get_or (take (to - from) (drop from w)) k d ≡ get_or w (from + k) d
  get_d_part from to w k d h = get_or-take (to - from) (drop from w) k d h ∙ get_or-drop from w k d
