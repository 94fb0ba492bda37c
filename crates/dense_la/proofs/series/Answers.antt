-- `dense_la::series` meets its contract. Assumes nothing.
use mathlib.Core.Path.{◌≡◌, sym, ap, ◌∙◌}
use Prim.Native.Nat.{ℕ, ◌+◌, ◌-◌, ◌≤◌}
use native.Mathlib.Omega.{arith}
use lib.Ieee.{Float}
use Rattle.lists.proofs.Loop.{iter_none, iter_turn}
use Rattle.dense_la.specs.DenseExp.{Series, series, series_step}
use Rattle.dense_la.proofs.series.Goals as goal

-- the turn for d is that of the place before
turn : (a : Float) (d : ℕ) (s v : Series) → 1 ≤ d → s ≡ series a (d - 1) → v ≡ series_step a (d - 1) s → v ≡ series a (d + 1 - 1)
unfolding series
turn a d s v h e f =
    let place : d - 1 + 1 ≡ d + 1 - 1 = omega arith in
    iter_turn (series_step a) (d - 1) _ s v e f ∙ ap (series a) place

pub loop-d-init : goal.loop-d-init
unfolding series
loop-d-init c = sym (iter_none (series_step c.args.a) _)

pub loop-d-preserved : goal.loop-d-preserved
unfolding series_step
loop-d-preserved c =
    let d : c.loop-d.d - 1 + 1 ≡ c.loop-d.d = omega arith in
    turn c.args.a c.loop-d.d _ _ (omega arith) c.loop-d.invariant (rw (d, c.matmul.ensures))
