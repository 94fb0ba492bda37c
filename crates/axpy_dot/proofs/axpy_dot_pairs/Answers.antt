-- `axpy_dot::axpy_dot_pairs` meets its contract. Assumes nothing.
use native.Mathlib.Omega.{arith}
use mathlib.Core.Path.{◌≡◌, ◌∙◌}
use Prim.Native.Nat.{◌*◌}
use Rattle.lists.proofs.Loop.{started}
use Rattle.dot.proofs.Blocks.{product_at, products, product_here, product_next, pair_filled, pair_none, pair_turn, pair_lanes, ended}
use Rattle.axpy_dot.proofs.axpy_dot_pairs.Goals as goal

pub loop-b-init : goal.loop-b-init
loop-b-init c =
    let a = c.args in
    let f = product_at a.work.now a.y_at a.x_at a.v_at (4 * a.m) a.a in
    (omega arith, started _ _ _, pair_none f 0 (omega arith), pair_none f 1 (omega arith))

pub axpy_dot_pair-t-requires : goal.axpy_dot_pair-t-requires
axpy_dot_pair-t-requires c = let l = c.loop-b.invariant.1.long in (omega arith, omega arith, omega arith)

pub loop-b-preserved : goal.loop-b-preserved
loop-b-preserved c =
    let a = c.args in
    let apart = c.requires.apart in
    let inv = c.loop-b.invariant in
    let b = c.loop-b.b in
    let e = c.axpy_dot_pair-t.ensures in
    let f = product_at a.work.now a.y_at a.x_at a.v_at (4 * a.m) a.a in
    let first = product_here a.work.now a.y_at a.x_at a.v_at (4 * a.m) a.a inv.1 apart.0 (2 * b) apart.1 (omega arith) (omega arith) in
    let second = product_next a.work.now a.y_at a.x_at a.v_at (4 * a.m) a.a inv.1 apart.0 (2 * b) apart.1 (omega arith) (omega arith) in
    (omega arith, rw e.work_after (pair_filled a.work.now a.y_at a.x_at a.v_at (4 * a.m) a.a b inv.1 (omega arith) apart.0), inv.3, e.value ∙ pair_turn f b inv.2 first second)

pub returns : goal.returns
returns c =
    let a = c.args in
    let inv = c.loop-b.invariant in
    let e : c.loop-b.b ≡ 2 * a.m = omega arith in
    let f = product_at a.work.now a.y_at a.x_at a.v_at (4 * a.m) a.a in
    let all = products a.work.now a.y_at a.x_at a.v_at (4 * a.m) a.a c.requires.m_in_bounds.0 c.requires.m_in_bounds.1 in
    record { work_after = ended a.work.now a.y_at a.x_at a.v_at (4 * a.m) a.a (2 * c.loop-b.b) inv.1 (omega arith) (omega arith) c.requires.m_in_bounds.0 c.requires.m_in_bounds.1; value = pair_lanes f _ _ a.m all (rw e at inv.2) (rw e at inv.3) }
