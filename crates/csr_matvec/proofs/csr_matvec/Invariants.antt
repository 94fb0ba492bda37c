-- `csr_matvec::csr_matvec` meets its contract. Assumes nothing.
use mathlib.Core.Path.{◌≡◌}
use Prim.Native.Nat.{◌+◌, ◌-◌}
use lib.ListN.{get_or}
use Rattle.lists.proofs.Loop.{Filled}
use Rattle.general_operator.specs.Csr.{row_product}
use Rattle.csr_matvec.proofs.csr_matvec.Given as goal

abbrev pub invariant-loop-i : goal.invariant-loop-i
invariant-loop-i l =
    Filled 0 l.i (λ k. row_product l.cols l.vals l.src (get_or l.starts k 0) (get_or l.starts (k + 1) 0)) l.initial.dst l.dst × (l.from ≡ get_or l.starts l.i 0)
