-- `axpy_dot::axpy_dot_runs` meets its contract. Assumes nothing.
use mathlib.Core.Path.{◌≡◌}
use Prim.Native.Nat.{◌*◌, ◌≤◌}
use Rattle.lists.specs.Window.{window}
use Rattle.lists.proofs.Loop.{Filled}
use Rattle.dot.specs.Dot.{lanes}
use Rattle.dot.proofs.Blocks.{sum_at}
use Rattle.axpy_dot.proofs.axpy_dot_runs.Given as goal

abbrev pub invariant-loop-b : goal.invariant-loop-b
invariant-loop-b l =
    (l.b ≤ l.m) × Filled l.y_at (4 * l.b) (sum_at l.initial.work l.y_at l.x_at l.v_at (4 * l.m) l.a) l.initial.work l.work × (l.acc ≡ lanes (window l.y_at (4 * l.m) l.work) (window l.v_at (4 * l.m) l.work) l.b)
