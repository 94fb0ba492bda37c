-- `csr_shift::csr_row` meets its contract. Assumes nothing.
use Prim.Native.Nat.{◌+◌}
use mathlib.Core.Path.{◌≡◌}
use lib.ListN.{length}
use Rattle.lists.specs.Loop.{iter}
use Rattle.doubles.specs.F64.{+0}
use Rattle.general_operator.specs.Matrix.{matrix}
use Rattle.csr_shift.specs.Shift.{row, csr_entry}
use Rattle.csr_shift.proofs.csr_row.Given as goal

abbrev pub invariant-loop-c : goal.invariant-loop-c
invariant-loop-c l =
    row l.diagonal l.rest ≡ iter (λ k s. csr_entry (matrix l.q) l.i (l.from + k) s) (length l.yielded) (row +0 +0)
