-- `exports_rotation::write_places` meets its contract. Assumes nothing.
use native.Mathlib.Omega.{arith}
use mathlib.Core.Path.{◌≡◌, refl, ap, ◌∙◌}
use Prim.Native.Nat.{ℕ}
use Rattle.lists.specs.Loop.{stack}
use Rattle.lists.specs.Window.{splice}
use Rattle.lists.proofs.Stack.{stack_start, stack_whole}
use Rattle.rotation.specs.Unit.{run_at}
use Rattle.exports_paused.specs.Told.{counts_of}
use Rattle.exports_rotation.proofs.Units.{row_more}
use Rattle.exports_rotation.proofs.write_places.Goals as goal

pub loop-p-init : goal.loop-p-init
loop-p-init c = (stack_start 0 10 _ _, stack_start 0 8 _ _)

pub write_at-requires : goal.write_at-requires
write_at-requires c =
    let inv = c.loop-p.invariant in
    let pre = c.requires in
    (omega arith, inv.0.long ∙ pre.0, inv.1.long ∙ pre.1)

pub loop-p-preserved : goal.loop-p-preserved
loop-p-preserved c =
    let inv = c.loop-p.invariant in
    let w = c.write_at.ensures in
    (row_more inv.0 _ refl w.numbers_after, row_more inv.1 _ refl w.counts_after)

pub shape_of-numbers : goal.shape_of-numbers
shape_of-numbers c = c.loop-p.invariant.0.long

pub shape_of-counts : goal.shape_of-counts
shape_of-counts c = c.loop-p.invariant.1.long

pub returns : goal.returns
returns c =
    let inv = c.loop-p.invariant in
    let all : c.loop-p.p ≡ 16 = omega arith in
    record { numbers_after = stack_whole inv.0 16 all c.requires.0; counts_after = inv.1.is ∙ ap (λ (k : ℕ). splice 0 (stack k (λ p. counts_of (run_at c.args.unit p))) c.args.counts.now) all }
