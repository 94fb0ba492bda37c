-- `csr_matvec::quotients_in` meets its contract. Assumes nothing.
use borrow.Author.Rules.{rules}
use native.Mathlib.Omega.{arith}
use mathlib.Core.Path.{◌≡◌, refl, ap, ◌∙◌}
use Prim.Native.Nat.{◌+◌, ◌-◌, ◌≤◌}
use lib.ListN.{length, get_or}
use Rattle.lists.specs.Window.{window}
use Rattle.lists.proofs.Window.{part_window, length_window}
use Rattle.lists.proofs.Loop.{started, turned, finished, window_apart, window_disjoint}
use Rattle.general_operator.proofs.Rows.{start_le}
use Rattle.csr_matvec.specs.Values.{factored, generator_by}
use Rattle.csr_matvec.proofs.quotients_in.Goals as goal

pub loop-i-init : goal.loop-i-init
loop-i-init c = (omega arith, started _ _ _, refl)

pub row_product-s-requires : goal.row_product-s-requires
row_product-s-requires c =
    let a = c.args in
    let i = c.loop-i.i in
    let v = c.requires.valid in
    let here : a.q_at + length a.q.vals.now ≤ length c.loop-i.work = omega arith in
    let there : a.src_at + a.q.n ≤ length c.loop-i.work = omega arith in
    let size : length (window a.q_at (length a.q.vals.now) a.work.now) ≡ length a.q.vals.now = length_window _ _ _ (omega arith) in
    let top : get_or a.q.starts.now (i + 1) 0 ≤ length (window a.q_at (length a.q.vals.now) a.work.now) = start_le v (i + 1) (omega arith) in
    record { from_le_to = (rw c.loop-i.invariant.2 (v.rising i (omega arith)), (omega (arith, v.paired), rw (part_window, length_window) (omega arith))); by_index = (λ k h. rw (part_window, length_window) (v.below k h)) }

pub loop-i-preserved : goal.loop-i-preserved
loop-i-preserved c =
    let a = c.args in
    let inv = c.loop-i.invariant in
    let same = window_apart inv.1 a.src_at a.q.n c.requires.apart inv.0 in
    let same-q = window_disjoint inv.1 a.q.n a.q_at (length a.q.vals.now) c.requires.disjoint inv.0 in
    (omega arith, turned inv.1 (c.factored.ensures ∙ ap (factored _ _) (c.row_product-s.ensures ∙ rw (inv.2, part_window a.q_at, part_window a.src_at, same, same-q))), refl)

pub returns : goal.returns
unfolding generator_by
returns c = finished c.loop-i.invariant.1 _ (omega arith) (omega arith)
