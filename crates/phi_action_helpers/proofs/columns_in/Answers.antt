-- `phi_action_helpers::columns_in` meets its contract. Assumes nothing.
use native.Mathlib.Omega.{arith}
use mathlib.Core.Path.{◌≡◌, refl, ◌∙◌}
use Rattle.phi_action_helpers.proofs.Augmented.{no_column, next_column}
use Rattle.phi_action_helpers.proofs.columns_in.Goals as goal

pub loop-j-init : goal.loop-j-init
loop-j-init c =
    let a = c.args in
    (omega arith, refl, no_column a.o.vectors.now a.o.b.places a.sc a.o.l.w a.o.l.n a.work.now (omega arith))

pub add_column_in-requires : goal.add_column_in-requires
add_column_in-requires c = (omega (arith, c.requires.count_bound.1 c.loop-j.j c.loop-j-test.true), omega (arith, c.loop-j.invariant.1))

pub loop-j-preserved : goal.loop-j-preserved
loop-j-preserved c =
    let a = c.args in
    (omega arith, c.add_column_in.auto.work ∙ c.loop-j.invariant.1, next_column a.o.vectors.now a.o.b.places a.sc a.o.l.w a.o.l.n c.loop-j.j a.work.now c.loop-j.invariant.2 c.add_column_in.ensures (omega arith))

pub returns : goal.returns
returns c =
    let a = c.args in
    let e : c.loop-j.j ≡ a.o.b.count = omega arith in
    rw e at c.loop-j.invariant.2
