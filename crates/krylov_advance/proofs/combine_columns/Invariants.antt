-- `krylov_advance::combine_columns` meets its contract. Assumes nothing.
use mathlib.Core.Path.{◌≡◌}
use Rattle.lists.specs.Window.{splice}
use Rattle.krylov_advance.proofs.Columns.{sums}
use Rattle.krylov_advance.proofs.combine_columns.Given as goal

abbrev pub invariant-loop-i : goal.invariant-loop-i
invariant-loop-i l = l.work ≡ splice l.y_at (sums l.beta l.len l.count l.fn.trial.f l.initial.work l.i) l.initial.work
