-- `dot::tail` meets its contract. Assumes nothing.
use native.Mathlib.Omega.{arith}
use native.Mathlib.Nat.{add-sub_cancel_left}
use mathlib.Core.Path.{sym}
use Prim.Native.Nat.{◌+◌, ◌-◌}
use lib.Ieee.{nan}
use Rattle.std.proofs.lemmas.List.{length_push}
use Rattle.lists.proofs.Slices.{zip_parts_turn, zip_parts_end}
use Rattle.doubles.proofs.Sum.{sum_none, sum_turn}
use Rattle.dot.specs.Dot.{tail}
use Rattle.dot.proofs.tail.Goals as goal

pub loop-u-init : goal.loop-u-init
unfolding tail
loop-u-init c = sym (sum_none _)

pub loop-u-preserved : goal.loop-u-preserved
unfolding tail
loop-u-preserved c =
    let a = c.args in
    let t = zip_parts_turn a.b a.b (a.b + a.n - a.b) a.x.now a.y.now (omega arith) (omega arith) c.into_iter-u-iterator.result c.loop-u.u-iterator c.next.new.self _ _ (cc) (cc) c.loop-u.yielded_by (c.in-Some.u, c.in-Some.v) c.in-Some.is c.next.ensures.steps in
    rw (length_push c.loop-u.yielded (c.in-Some.u, c.in-Some.v)) (sum_turn _ _ _ _ c.loop-u.invariant (rw (t.1 nan, t.2 nan)))

pub returns : goal.returns
returns c =
    let a = c.args in
    let e = zip_parts_end a.b a.b (a.b + a.n - a.b) a.x.now a.y.now (omega arith) (omega arith) c.into_iter-u-iterator.result c.loop-u.u-iterator c.next.new.self _ _ (cc) (cc) c.loop-u.yielded_by c.in-None.is c.next.ensures.steps in
    rw (e, add-sub_cancel_left a.b a.n) at c.loop-u.invariant
