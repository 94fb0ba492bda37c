-- What an iterator's `position` answers. Definitions only.
use Rattle.std.specs.Prelude.{Bool, true, false, ◌≡◌, ℕ, ◌<◌, Option, MatchOption}

-- the test passes nowhere below n
abbrev pub NoneBelow : (ℕ → Bool) → ℕ → Type 0
NoneBelow p n = (k : ℕ) → k < n → p k ≡ false

-- the first index below n at which the test passes, if there is one
abbrev pub IsPosition : (ℕ → Bool) → ℕ → Option ℕ → Type 0
IsPosition p n r = MatchOption r (NoneBelow p n) (λ i. (i < n) × (p i ≡ true) × NoneBelow p i)
