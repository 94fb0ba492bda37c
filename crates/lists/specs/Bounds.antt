-- Where windows lie. Definitions only.
use Rattle.std.specs.Prelude.{ℕ, ◌+◌, ◌≤◌, ◌<◌}

-- The n places from p and the m places from q share none: where the latter start before the former have ended, they end before the former start.
-- In this form `omega` proves it at a call; `disjoint_cases` takes it apart where it is used.
abbrev pub Disjoint : ℕ → ℕ → ℕ → ℕ → Type 0
Disjoint p n q m = q < p + n → q + m ≤ p

-- the same of two windows of one length
abbrev pub Apart : ℕ → ℕ → ℕ → Type 0
Apart p q n = Disjoint p n q n
