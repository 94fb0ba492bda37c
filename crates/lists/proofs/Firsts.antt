-- The library's `position` in the words of `find`. Assumes nothing.
use mathlib.Core.Path.{◌≡◌, refl, ◌∙◌}
use mathlib.Core.Bool.{Bool, true, false, not, cond}
use mathlib.Core.List.{List, [], ◌∷◌}
use Prim.Native.Nat.{ℕ, suc, ◌+◌, ◌≤◌}
use native.Mathlib.Omega.{arith}
use lib.Dec.{ltb}
use lib.ListN.{length, get_or}
use borrow.Author.Tests.{ltb-false}
use Rattle.std.specs.Prelude.{Some, None, unwrap_or}
use Rattle.std.specs.List.{position, position_or_len}
use Rattle.lists.specs.Find.{find}
use Rattle.lists.proofs.Find.{find_le}

here_or_later : (b : Bool) (m n : ℕ) → m ≡ n → cond (not b) (1 + m) 0 ≡ elim b [ true ↦ 0 | false ↦ suc n ]
here_or_later true m n e = refl
here_or_later false m n e = omega (arith, e)

place_or_length : (r n : ℕ) → r ≤ n → unwrap_or (cond (ltb r n) (Some r) None) n ≡ r
place_or_length r n h = go (ltb r n) refl
  where
    go : (b : Bool) → ltb r n ≡ b → unwrap_or (cond b (Some r) None) n ≡ r
    go true e = refl
    go false e = omega (arith, h, ltb-false r n e)

module _ {A : Type 0} where
  place_is : (p : A → Bool) (xs : List A) (d : A) → position_or_len p xs ≡ find (λ k. p (get_or xs k d)) (length xs)
  unfolding find
  place_is p [] d = refl
  place_is p (x ∷ xs) d = here_or_later (p x) _ _ (place_is p xs d)

  -- the first index at which p passes, or the length
  pub position_find : (p : A → Bool) (xs : List A) (d : A) → unwrap_or (position p xs) (length xs) ≡ find (λ k. p (get_or xs k d)) (length xs)
  position_find p xs d =
      let e = place_is p xs d in
      place_or_length (position_or_len p xs) (length xs) (rw e (find_le (λ k. p (get_or xs k d)) (length xs))) ∙ e
