-- `krylov_advance::combine_columns` meets its contract. Assumes nothing.
use native.Mathlib.Omega.{arith}
use Prim.Native.Nat.{ℕ, ◌<◌, ◌≤◌}
use mathlib.Core.List.{List}
use mathlib.Core.Path.{◌≡◌, ap, ◌∙◌}
use lib.ListN.{length, take}
use lib.Seq.{length-take-le, get_or-take}
use lib.Ieee.{Float, nan}
use Rattle.lists.proofs.Window.{length_splice}
use Rattle.lists.proofs.Bounds.{column_within}
use Rattle.krylov_advance.proofs.Columns.{sums_start, sums_turn, sums_all}
use Rattle.krylov_advance.proofs.combine_columns.Goals as goal

-- a turn is for a column
counted : (f : List Float) (count i : ℕ) → count ≤ 130 → length f ≡ 130 → i < length (take count f) → i < count
counted f count i l e h = omega (arith, length-take-le count f (omega (arith, e)))

pub loop-i-init : goal.loop-i-init
loop-i-init c = let a = c.args in sums_start a.beta a.len a.count a.trial.f a.work.now a.y_at c.clear_in.ensures

pub overflow_mul-i : goal.overflow_mul-i
overflow_mul-i c =
    let a = c.args in
    let p = c.requires in
    omega (arith, column_within c.loop-i.i a.count a.len (counted a.trial.f a.count c.loop-i.i p.0 p.3 c.loop-i-test.true))

pub axpy_in-requires : goal.axpy_in-requires
axpy_in-requires c =
    let a = c.args in
    let p = c.requires in
    let col = column_within c.loop-i.i a.count a.len (counted a.trial.f a.count c.loop-i.i p.0 p.3 c.loop-i-test.true) in
    let long : length c.loop-i.work ≡ length a.work.now = c.loop-i.auto.work ∙ ap length c.clear_in.ensures ∙ length_splice _ _ _ in
    record { len_in_bounds = omega (arith, long); len_in_bounds_2 = omega (arith, long, col); apart = omega (arith, col) }

pub loop-i-preserved : goal.loop-i-preserved
loop-i-preserved c =
    let a = c.args in
    let p = c.requires in
    let long : length c.clear_in.new.work ≡ length a.work.now = ap length c.clear_in.ensures ∙ length_splice _ _ _ in
    let h = counted a.trial.f a.count c.loop-i.i p.0 p.3 c.loop-i-test.true in
    let f = get_or-take a.count a.trial.f c.loop-i.i nan h in
    sums_turn a.beta a.len a.count a.trial.f c.clear_in.new.work a.y_at p.1 (omega (arith, long)) c.loop-i.i h c.loop-i.invariant (rw f at c.axpy_in.ensures)

pub shape_of-work : goal.shape_of-work
shape_of-work c = c.loop-i.auto.work ∙ ap length c.clear_in.ensures ∙ length_splice _ _ _

pub returns : goal.returns
returns c =
    let a = c.args in
    let p = c.requires in
    let e : c.loop-i.i ≡ a.count = omega (arith, length-take-le a.count a.trial.f (omega (arith, p.0, p.3))) in
    rw e at c.loop-i.invariant ∙ sums_all a.beta a.len a.count a.trial.f a.work.now a.y_at c.clear_in.ensures (omega (arith, p.0, p.3)) p.1 p.2
