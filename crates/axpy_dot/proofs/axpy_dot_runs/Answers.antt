-- `axpy_dot::axpy_dot_runs` meets its contract. Assumes nothing.
use native.Mathlib.Omega.{arith}
use mathlib.Core.Path.{◌≡◌, ◌∙◌}
use Prim.Native.Nat.{◌+◌, ◌*◌, ◌≤◌}
use Rattle.lists.proofs.Bounds.{within_apart}
use Rattle.lists.proofs.Window.{part_window}
use Rattle.lists.proofs.Loop.{started, window_apart}
use Rattle.dot.proofs.Blocks.{lanes_none, block, carried, ended, whole}
use Rattle.axpy_dot.proofs.axpy_dot_runs.Goals as goal

pub loop-b-init : goal.loop-b-init
loop-b-init c = (omega arith, started _ _ _, c.no_lanes-acc.ensures ∙ lanes_none _ _)

pub axpy_in-requires : goal.axpy_in-requires
axpy_in-requires c =
    let a = c.args in
    let l : 4 * c.loop-b.b + 4 * c.min-count.result ≤ 4 * a.m = omega arith in
    let long = c.loop-b.invariant.1.long in
    record { len_in_bounds = omega arith; len_in_bounds_2 = omega arith; apart = within_apart a.y_at a.x_at (4 * a.m) (4 * c.loop-b.b) (4 * c.min-count.result) c.requires.apart.0 l }

pub add_blocks-acc-requires : goal.add_blocks-acc-requires
add_blocks-acc-requires c =
    let a = c.args in
    let b = c.loop-b.b in
    let count = c.min-count.result in
    let more : 4 * b + 4 * count ≤ 4 * a.m = omega arith in
    let filled = block a.work.now a.y_at a.x_at a.v_at (4 * a.m) a.a (4 * b) (4 * count) c.loop-b.invariant.1 more c.requires.m_in_bounds.0 c.requires.m_in_bounds.1 c.requires.apart.0 c.axpy_in.ensures in
    record { count_in_bounds = (omega (arith, filled.long), omega (arith, filled.long)); acc_value = carried a.work.now a.y_at a.x_at a.v_at (4 * a.m) a.a b (4 * b) (4 * b + 4 * count) c.loop-b.invariant.1 filled (omega arith) (omega arith) more c.requires.m_in_bounds.0 c.requires.apart.1 c.loop-b.invariant.2 }

pub loop-b-preserved : goal.loop-b-preserved
loop-b-preserved c =
    let a = c.args in
    let b = c.loop-b.b in
    let e : c.min-count.result ≡ 64 = omega arith in
    let more : 4 * b + 4 * c.min-count.result ≤ 4 * a.m = omega arith in
    let n : 4 * b + 4 * c.min-count.result ≡ 4 * (b + 64) = omega arith in
    let filled = block a.work.now a.y_at a.x_at a.v_at (4 * a.m) a.a (4 * b) (4 * c.min-count.result) c.loop-b.invariant.1 more c.requires.m_in_bounds.0 c.requires.m_in_bounds.1 c.requires.apart.0 c.axpy_in.ensures in
    (omega arith, rw n at filled, rw (part_window, part_window, e) at c.add_blocks-acc.ensures)

pub returns : goal.returns
returns c =
    let a = c.args in
    let inv = c.loop-b.invariant in
    let e : c.loop-b.b ≡ a.m = omega arith in
    let new = whole a.work.now a.y_at a.x_at a.v_at (4 * a.m) a.a (4 * c.loop-b.b) inv.1 (omega arith) (omega arith) c.requires.m_in_bounds.0 c.requires.m_in_bounds.1 in
    let kept = window_apart inv.1 a.v_at (4 * a.m) c.requires.apart.1 (omega arith) in
    record { work_after = ended a.work.now a.y_at a.x_at a.v_at (4 * a.m) a.a (4 * c.loop-b.b) inv.1 (omega arith) (omega arith) c.requires.m_in_bounds.0 c.requires.m_in_bounds.1; value = rw (new, kept, e) at inv.2 }

pub returns-2 : goal.returns-2
returns-2 c =
    let a = c.args in
    let b = c.loop-b.b in
    let e : b + c.min-count.result ≡ a.m = omega arith in
    let more : 4 * b + 4 * c.min-count.result ≤ 4 * a.m = omega arith in
    let filled = block a.work.now a.y_at a.x_at a.v_at (4 * a.m) a.a (4 * b) (4 * c.min-count.result) c.loop-b.invariant.1 more c.requires.m_in_bounds.0 c.requires.m_in_bounds.1 c.requires.apart.0 c.axpy_in.ensures in
    let new = whole a.work.now a.y_at a.x_at a.v_at (4 * a.m) a.a (4 * b + 4 * c.min-count.result) filled more (omega arith) c.requires.m_in_bounds.0 c.requires.m_in_bounds.1 in
    let kept = window_apart filled a.v_at (4 * a.m) c.requires.apart.1 more in
    record { work_after = ended a.work.now a.y_at a.x_at a.v_at (4 * a.m) a.a (4 * b + 4 * c.min-count.result) filled more (omega arith) c.requires.m_in_bounds.0 c.requires.m_in_bounds.1; value = rw (part_window, part_window, new, kept, e) at c.add_blocks-acc.ensures }
