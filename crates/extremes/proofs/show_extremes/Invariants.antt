-- `extremes::show_extremes` meets its contract: after i turns the first i places of both slices are written. Assumes nothing.
use Rattle.lists.proofs.Loop.{Filled}
use Rattle.extremes.specs.Extremes.{largest, smallest}
use Rattle.extremes.proofs.show_extremes.Given as goal

abbrev pub invariant-loop-i : goal.invariant-loop-i
invariant-loop-i l = Filled 0 l.i (largest l.width l.x) l.initial.high l.high × Filled 0 l.i (smallest l.width l.x) l.initial.low l.low
