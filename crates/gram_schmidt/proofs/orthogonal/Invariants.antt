-- `gram_schmidt::orthogonal` meets its contract. Assumes nothing.
use mathlib.Core.Path.{◌≡◌}
use Prim.Native.Nat.{ℕ, ◌-◌, ◌*◌, ◌≤◌}
use lib.ListN.{length}
use Rattle.lists.specs.Window.{window}
use Rattle.dot.specs.Dot.{dot}
use Rattle.gram_schmidt.specs.Basis.{orthogonal}
use Rattle.gram_schmidt.specs.Memory.{column, behind, rest_at}
use Rattle.gram_schmidt.proofs.orthogonal.Given as goal

abbrev pub invariant-loop-i : goal.invariant-loop-i
invariant-loop-i l =
    (l.i ≤ l.j) × (length l.work ≡ length l.initial.work) × (l.work ≡ behind l.z_at l.h_at (orthogonal (column l.len l.initial.work) l.dim l.j l.i (rest_at l.len l.z_at l.h_at l.dim l.initial.work)) l.initial.work) × (l.c ≡ dot (window l.z_at l.len l.work) (window (l.i * l.len) l.len l.work))

abbrev pub decreases-loop-i : goal.decreases-loop-i
decreases-loop-i l = l.j - l.i
