-- `axpy_dot::axpy_dot_in` meets its contract. Assumes nothing.
use native.Mathlib.Omega.{arith}
use mathlib.Core.Path.{◌≡◌, ap, ◌∙◌}
use lib.ListN.{length, take, drop}
use Prim.Native.Nat.{◌+◌, ◌-◌, ◌*◌, ◌/◌, ◌%◌}
use Rattle.lists.proofs.Bounds.{within_apart}
use Rattle.lists.proofs.Window.{part_window, length_window}
use Rattle.lists.proofs.Loop.{Filled}
use Rattle.dot.proofs.Blocks.{sum_at, begun, block, lanes_on, ended, inner}
use Rattle.axpy_dot.proofs.axpy_dot_in.Goals as goal

pub axpy_dot_blocks-acc-requires : goal.axpy_dot_blocks-acc-requires
axpy_dot_blocks-acc-requires c =
    let pre = c.requires in
    record { m_in_bounds = (omega arith, omega arith, omega arith); apart = ((λ t. omega (arith, pre.apart.0 (omega arith))), (λ t. omega (arith, pre.apart.1 (omega arith)))) }

pub axpy_in-requires : goal.axpy_in-requires
axpy_in-requires c =
    let a = c.args in
    let long = (begun a.work.now a.y_at a.x_at a.v_at a.len a.a (4 * (a.len / 4)) (omega arith) (omega arith) c.axpy_dot_blocks-acc.ensures.work_after).long in
    record { len_in_bounds = omega arith; len_in_bounds_2 = omega arith; apart = within_apart a.y_at a.x_at a.len (4 * (a.len / 4)) (a.len % 4) c.requires.apart.0 (omega arith) }

pub joined-requires : goal.joined-requires
joined-requires c =
    let filled : (let a = c.args in
    Filled a.y_at (4 * (a.len / 4) + a.len % 4) (sum_at a.work.now a.y_at a.x_at a.v_at a.len a.a) a.work.now c.axpy_in.new.work) = let a = c.args in
    let pre = c.requires in
    let first = begun a.work.now a.y_at a.x_at a.v_at a.len a.a (4 * (a.len / 4)) (omega arith) (omega arith) c.axpy_dot_blocks-acc.ensures.work_after in
    block a.work.now a.y_at a.x_at a.v_at a.len a.a (4 * (a.len / 4)) (a.len % 4) first (omega arith) pre.len_in_bounds.0 pre.len_in_bounds.1 pre.apart.0 c.axpy_in.ensures in
    let a = c.args in
    let pre = c.requires in
    let w = c.axpy_in.new.work in
    let all = filled in
    let long = all.long in
    let ly : length (take (a.y_at + a.len - a.y_at) (drop a.y_at w)) ≡ a.len = ap length (part_window a.y_at a.len w) ∙ length_window a.y_at a.len w (omega arith) in
    record { x_len = omega arith; acc_value = rw ly (lanes_on a.work.now a.y_at a.x_at a.v_at a.len a.a (4 * (a.len / 4) + a.len % 4) (a.len / 4) all (omega arith) (omega arith) (omega arith) pre.len_in_bounds.0 pre.len_in_bounds.1 pre.apart.1 c.axpy_dot_blocks-acc.ensures.value) }

pub returns : goal.returns
returns c =
    let filled : (let a = c.args in
    Filled a.y_at (4 * (a.len / 4) + a.len % 4) (sum_at a.work.now a.y_at a.x_at a.v_at a.len a.a) a.work.now c.axpy_in.new.work) = let a = c.args in
    let pre = c.requires in
    let first = begun a.work.now a.y_at a.x_at a.v_at a.len a.a (4 * (a.len / 4)) (omega arith) (omega arith) c.axpy_dot_blocks-acc.ensures.work_after in
    block a.work.now a.y_at a.x_at a.v_at a.len a.a (4 * (a.len / 4)) (a.len % 4) first (omega arith) pre.len_in_bounds.0 pre.len_in_bounds.1 pre.apart.0 c.axpy_in.ensures in
    let a = c.args in
    let pre = c.requires in
    let n = 4 * (a.len / 4) + a.len % 4 in
    record { work_after = ended a.work.now a.y_at a.x_at a.v_at a.len a.a n filled (omega arith) (omega arith) pre.len_in_bounds.0 pre.len_in_bounds.1; value = inner a.work.now a.y_at a.x_at a.v_at a.len a.a n filled (omega arith) (omega arith) pre.len_in_bounds.0 pre.len_in_bounds.1 pre.apart.1 c.joined.ensures }
