-- The powers of ten. Definitions only.
use Rattle.std.specs.Prelude.{ℕ, ◌-◌, ◌^◌, false, Float}
use Rattle.std.specs.Float.{binary64}
use Rattle.std.specs.Float.Ieee.{round}

-- The double nearest to 10 ^ (i - 323), ties to even: of the two exponents one is 0, since a difference of natural numbers stops there
unfoldable pub ten : ℕ → Float
ten i = round binary64 false (10 ^ (i - 323)) (10 ^ (323 - i))
