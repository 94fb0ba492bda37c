-- A loop that may end early: a turn leaves a state, or an end. Definitions only.
use Rattle.std.specs.Prelude.{ℕ, zero, suc, ◌+◌}

pub data Turn (S E : Type 0) : Type 0 where
  on : S → Turn S E
  out : E → Turn S E

module _ {S E : Type 0} where
  -- at most k turns, the first of which is turn i
  unfoldable pub walk : (ℕ → S → Turn S E) → ℕ → ℕ → Turn S E → Turn S E
  walk step zero i o = o
  walk step (suc k) i (on s) = walk step k (i + 1) (step i s)
  walk step (suc k) i (out e) = out e
