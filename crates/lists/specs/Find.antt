-- The first index at which a test passes. Definitions only.
use Rattle.std.specs.Prelude.{Bool, true, false, ℕ, zero, suc, ltb}

-- the first index below n at which the test passes; n if there is none
unfoldable pub find : (ℕ → Bool) → ℕ → ℕ
find p zero = 0
find p (suc n) = elim (p 0) [ true ↦ 0 | false ↦ suc (find (λ k. p (suc k)) n) ]

-- the test passes somewhere below n
unfoldable pub exists : (ℕ → Bool) → ℕ → Bool
exists p n = ltb (find p n) n

-- to compute: a line `unfolding open_find` opens every definition of this file
unfoldable pub open_find : Unit {0}
unfolding find exists
open_find = tt
