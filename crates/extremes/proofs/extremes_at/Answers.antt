-- `extremes::extremes_at` meets its contract: the loop carries the largest and the smallest number passed. Assumes nothing.
use mathlib.Core.Path.{◌≡◌, sym, ap, ◌∙◌}
use mathlib.Core.List.{List}
use Prim.Native.Nat.{ℕ, ◌+◌, ◌-◌, ◌<◌}
use native.Mathlib.Omega.{arith}
use lib.Ieee.{Float, nan}
use Rattle.lists.specs.Loop.{iter}
use Rattle.lists.specs.Window.{window}
use Rattle.lists.proofs.Loop.{iter_none, iter_turn}
use Rattle.lists.proofs.Window.{length_window, get_d_window}
use Rattle.doubles.specs.F64.{at, max_num, min_num}
use Rattle.extremes.specs.Extremes.{unsigned_zero, extreme, largest, smallest}
use Rattle.extremes.proofs.extremes_at.Goals as goal

-- number k of the n that follow place p
turn : (op : Float → Float → Float) (x : List Float) (p n k : ℕ) (s v : Float) → k < n → s ≡ iter (λ j m. op m (at x (p + (j + 1)))) k (at x p) → v ≡ op s (at (window (p + 1) n x) k)
    → v ≡ iter (λ j m. op m (at x (p + (j + 1)))) (k + 1) (at x p)
turn op x p n k s v h e f =
    let place : p + 1 + k ≡ p + (k + 1) = omega arith in
    iter_turn _ k _ s v e (f ∙ ap (op s) (get_d_window (p + 1) n x k nan h ∙ ap (at x) place))

pub loop-t-init : goal.loop-t-init
loop-t-init c = (sym (iter_none _ _), sym (iter_none _ _))

pub loop-t-preserved : goal.loop-t-preserved
unfolding window
loop-t-preserved c =
    let x = c.args.x.now in
    let p = c.window_start-from.result in
    let n = c.args.i + 1 - (p + 1) in
    let h : c.loop-t.t-index < n = omega (arith, c.loop-t-test.true, length_window (p + 1) n x (omega arith)) in
    (turn max_num x p n c.loop-t.t-index _ _ h c.loop-t.invariant.0 c.max-high.ensures, turn min_num x p n c.loop-t.t-index _ _ h c.loop-t.invariant.1 c.min-low.ensures)

pub returns : goal.returns
unfolding largest smallest extreme window
returns c =
    let p = c.window_start-from.result in
    let n = c.args.i + 1 - (p + 1) in
    let e : c.loop-t.t-index ≡ c.args.i - p = omega (arith, c.loop-t-test.false, c.loop-t.auto.t-index-end, c.window_start-from.ensures.upper_bound, length_window (p + 1) n c.args.x.now (omega (arith, c.window_start-from.ensures.upper_bound))) in
    rw (← c.window_start-from.ensures.value)
    (c.unsigned_zero.ensures ∙ ap unsigned_zero (rw e at c.loop-t.invariant.0), c.unsigned_zero-2.ensures ∙ ap unsigned_zero (rw e at c.loop-t.invariant.1))
