-- `rotation::passed_on` meets its contract. Assumes nothing.
use borrow.Author.Rules.{scaled_Fits}
use lib.Dec.{lit<}
use native.Mathlib.Omega.{arith}
use mathlib.Core.Path.{refl, sym, ◌∙◌}
use Rattle.rotation.proofs.Queue.{count_few, place_below, waits_none, passed_on_is}
use Rattle.rotation.proofs.passed_on.Goals as goal

pub returns-then-k-eq0 : goal.returns-then-k-eq0
returns-then-k-eq0 c = rw (waits_none c.args.unit (sym c.count_in-k.ensures ∙ c.if-k-eq0.true)) refl

pub offset_bounds-places-p : goal.offset_bounds-places-p
offset_bounds-places-p c = scaled_Fits _ 16 144 (place_below c.args.unit 0 (omega (arith, c.count_in-k.ensures, c.if-k-eq0.false))) (lit< tt)

pub bounds-places-p : goal.bounds-places-p
bounds-places-p c = place_below c.args.unit 0 (omega (arith, c.count_in-k.ensures, c.if-k-eq0.false))

pub shifted-requires : goal.shifted-requires
shifted-requires c =
    let few = count_few c.args.unit in
    let k = c.count_in-k.ensures in
    let some = c.if-k-eq0.false in
    (omega (arith, some), omega (arith, few, k), omega (arith, few, k))

pub returns : goal.returns
returns c =
    let a = c.args in
    passed_on_is a.unit _ c.count_in-k.ensures c.if-k-eq0.false a.run c.end_of.ensures c.shifted.ensures
