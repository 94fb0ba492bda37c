-- `pow2::walk` meets its contract: each step keeps what the exponent is clamped to, and comes nearer to 0. Assumes nothing.
use mathlib.Core.Path.{◌≡◌}
use Prim.Native.Nat.{◌<◌}
use lib.IntN.{nat_abs}
use Rattle.pow2.proofs.Toward.{end}
use Rattle.pow2.proofs.walk.Given as goal

abbrev pub invariant-loop-e : goal.invariant-loop-e
invariant-loop-e l = (nat_abs l.e < 2041) × (end (l.e) ≡ end l.exp)

abbrev pub decreases-loop-e : goal.decreases-loop-e
decreases-loop-e l = nat_abs l.e
