-- `weighted_columns::powers_of` meets its contract. Assumes nothing.
use native.Mathlib.Omega.{arith}
use mathlib.Core.Path.{◌≡◌, sym, ap, ◌∙◌}
use Rattle.lists.proofs.Loop.{iter_none, iter_turn, started, turned₀, finished, front_filled}
use Rattle.lists.proofs.Bounds.{column_within}
use Rattle.doubles.specs.F64.{+0}
use Rattle.combination.specs.Combination.{gain, magnitude}
use Rattle.weighted_columns.specs.declared.Share.{Share}
use Rattle.weighted_columns.proofs.powers_of.Goals as goal

pub loop-j-init : goal.loop-j-init
unfolding magnitude
loop-j-init c = (omega arith, started _ _ _, sym (iter_none _ _))

pub share_of-next-requires : goal.share_of-next-requires
share_of-next-requires c =
    let a = c.args in
    (omega (arith, column_within c.loop-j.j a.d a.n (omega arith)), omega arith)

pub loop-j-preserved : goal.loop-j-preserved
unfolding magnitude
loop-j-preserved c =
    let e = c.share_of-next.ensures in
    let i = c.loop-j.invariant in
    (omega arith, turned₀ i.1 (ap (λ (x : Share). x.gain) e), iter_turn _ _ _ _ _ i.2 (ap (λ (x : Share). x.sum) e))

pub returns : goal.returns
returns c =
    let a = c.args in
    let e : c.loop-j.j ≡ a.d = omega arith in
    let gains = finished c.loop-j.invariant.1 a.d (omega arith) (omega arith) ∙ front_filled 3 a.d (gain a.n a.further.now a.tau) +0 (omega arith) in
    let sum = rw e at c.loop-j.invariant.2 in
    λ i. record { gains = gains i; sum = sum i }
