-- `csr_matvec::matvec_in` meets its contract. Assumes nothing.
use borrow.Author.Rules.{rules}
use mathlib.Core.Path.{◌≡◌}
use Prim.Native.Nat.{◌+◌, ◌-◌, ◌≤◌}
use lib.ListN.{get_or}
use Rattle.lists.specs.Window.{window}
use Rattle.lists.proofs.Loop.{Filled}
use Rattle.general_operator.specs.Csr.{row_product}
use Rattle.csr_matvec.specs.Values.{factored}
use Rattle.csr_matvec.proofs.matvec_in.Given as goal

abbrev pub invariant-loop-i : goal.invariant-loop-i
invariant-loop-i l =
    (l.i ≤ l.n) × Filled l.dst_at l.i (λ k. factored l.scaled l.tau (row_product l.cols l.vals (window l.src_at l.n l.initial.work) (get_or l.starts k 0) (get_or l.starts (k + 1) 0))) l.initial.work l.work × (l.from ≡ get_or l.starts l.i 0)

abbrev pub decreases-loop-i : goal.decreases-loop-i
decreases-loop-i l = l.n - l.i
