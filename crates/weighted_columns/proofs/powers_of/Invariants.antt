-- `weighted_columns::powers_of` meets its contract. Assumes nothing.
use Prim.Native.Nat.{◌-◌, ◌≤◌}
use mathlib.Core.Path.{◌≡◌}
use Rattle.lists.proofs.Loop.{Filled}
use Rattle.combination.specs.Combination.{gain, magnitude}
use Rattle.weighted_columns.proofs.powers_of.Given as goal

abbrev pub invariant-loop-j : goal.invariant-loop-j
invariant-loop-j l = (l.j ≤ l.d) × Filled 0 l.j (gain l.n l.further l.tau) l.initial.gains l.gains × (l.sum ≡ magnitude l.n l.further l.tau l.j)

abbrev pub decreases-loop-j : goal.decreases-loop-j
decreases-loop-j l = l.d - l.j
