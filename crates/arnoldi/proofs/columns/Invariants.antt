-- `arnoldi::columns` meets its contract. Assumes nothing.
use Prim.Native.Nat.{◌+◌, ◌≤◌}
use Rattle.lists.specs.Walk.{on}
use Rattle.lists.proofs.Walk.{Left}
use Rattle.gram_schmidt.specs.Basis.{arnoldi_step}
use Rattle.gram_schmidt.specs.Memory.{setting_in, Spared, columns_at}
use Rattle.arnoldi.proofs.columns.Given as goal

abbrev pub invariant-loop-j : goal.invariant-loop-j
invariant-loop-j l =
    (l.applied ≤ l.j) × Spared l.o.l l.k l.initial.work l.work × Left (arnoldi_step (setting_in l.o l.k l.initial.work) l.beta) l.m l.j (on (columns_at l.o.l l.k 1 0 l.initial.work)) (on (columns_at l.o.l l.k (l.j + 1) l.applied l.work))
