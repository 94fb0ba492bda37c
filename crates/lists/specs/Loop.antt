-- A loop as an iteration, and a list by its index. Definitions only.
use Rattle.std.specs.Prelude.{List, [], ◌∷◌, ◌++◌, ℕ, zero, suc}

module _ {A : Type 0} where
  -- `for k in 0..n { a = step(k, a); }`
  unfoldable pub iter : (ℕ → A → A) → ℕ → A → A
  iter step zero a = a
  iter step (suc n) a = step n (iter step n a)

  -- f 0, f 1, .. f (n - 1)
  unfoldable pub tabulate : ℕ → (ℕ → A) → List A
  tabulate zero f = []
  tabulate (suc n) f = f 0 ∷ tabulate n (λ k. f (suc k))

  -- g of the elements of two lists, place by place
  unfoldable pub zip_with : (A → A → A) → List A → List A → List A
  zip_with g [] ys = []
  zip_with g (x ∷ xs) [] = []
  zip_with g (x ∷ xs) (y ∷ ys) = g x y ∷ zip_with g xs ys

  -- r 0, r 1, .. r (i - 1), joined
  unfoldable pub stack : ℕ → (ℕ → List A) → List A
  stack zero r = []
  stack (suc i) r = stack i r ++ r i

-- to compute: a line `unfolding open_loop` opens every definition of this file
unfoldable pub open_loop : Unit {0}
unfolding iter tabulate zip_with stack
open_loop = tt
