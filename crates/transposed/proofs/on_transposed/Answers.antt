-- `transposed::on_transposed` meets its contract. Assumes nothing.
use mathlib.Core.Path.{sym}
use native.Mathlib.Omega.{arith}
use lib.Seq.{length-take-le}
use Rattle.general_operator.specs.Csr.{Csr, csr}
use Rattle.generator_action.specs.Mass.{Mass, given}
use Rattle.generator_action.specs.Generator.{Generator}
use Rattle.transpose.specs.Transpose.{Buffers, buffers}
use Rattle.checks.proofs.First.{passed_on}
use Rattle.transposed.proofs.Fronts.{over_refusal, Handed, handed, rows_few, starts_fit, columns_fit, values_fit, front_passed, over_fronts}
use Rattle.transposed.proofs.on_transposed.Goals as goal

pub overflow_add-q_rows : goal.overflow_add-q_rows
overflow_add-q_rows g c = omega (arith, rows_few (handed _ _ _ (c.transposed_shape.ensures.value, c.transposed_shape.ensures.t_vals_after) c.in_ok-g.was))

pub slice_bounds-q_rows-end : goal.slice_bounds-q_rows-end
slice_bounds-q_rows-end g c = starts_fit (handed _ _ _ (c.transposed_shape.ensures.value, c.transposed_shape.ensures.t_vals_after) c.in_ok-g.was)

pub slice_bounds-q_rows-end-2 : goal.slice_bounds-q_rows-end-2
slice_bounds-q_rows-end-2 g c = sym (length-take-le _ _ (starts_fit (handed _ _ _ (c.transposed_shape.ensures.value, c.transposed_shape.ensures.t_vals_after) c.in_ok-g.was)))

pub slice_bounds-q_cols-end : goal.slice_bounds-q_cols-end
slice_bounds-q_cols-end g c = columns_fit (handed _ _ _ (c.transposed_shape.ensures.value, c.transposed_shape.ensures.t_vals_after) c.in_ok-g.was)

pub slice_bounds-q_cols-end-2 : goal.slice_bounds-q_cols-end-2
slice_bounds-q_cols-end-2 g c = sym (length-take-le _ _ (columns_fit (handed _ _ _ (c.transposed_shape.ensures.value, c.transposed_shape.ensures.t_vals_after) c.in_ok-g.was)))

pub slice_bounds-q_vals-end : goal.slice_bounds-q_vals-end
slice_bounds-q_vals-end g c = values_fit (handed _ _ _ (c.transposed_shape.ensures.value, c.transposed_shape.ensures.t_vals_after) c.in_ok-g.was)

pub slice_bounds-q_vals-end-2 : goal.slice_bounds-q_vals-end-2
slice_bounds-q_vals-end-2 g c = sym (length-take-le _ _ (values_fit (handed _ _ _ (c.transposed_shape.ensures.value, c.transposed_shape.ensures.t_vals_after) c.in_ok-g.was)))

pub call-requires : goal.call-requires
call-requires g c = c.requires _ _ _ _ _ _ _ (front_passed (handed _ _ _ (c.transposed_shape.ensures.value, c.transposed_shape.ensures.t_vals_after) c.in_ok-g.was) _)

pub returns-in_err-g : goal.returns-in_err-g
returns-in_err-g g c =
    λ job runs refuses.
    rw (passed_on c.from_residual.ensures.1)
    (over_refusal _ _ _ (c.transposed_shape.ensures.value, c.transposed_shape.ensures.t_vals_after) c.in_err-g.was (λ e. refuses _ _ _ e))

pub returns : goal.returns
returns g c =
    λ job runs refuses.
    let a : Csr = csr c.args.n c.args.starts.now c.args.cols.now c.args.vals.now in
    let m : Mass = given c.args.with_mass c.args.mass.now in
    let b : Buffers = buffers c.args.t_starts.now c.args.t_cols.now c.args.t_vals.now in
    let known : Handed a m b c.transposed_shape.new.t_starts c.transposed_shape.new.t_cols c.transposed_shape.new.t_vals c.in_ok-g.g = handed a m b (c.transposed_shape.ensures.value, c.transposed_shape.ensures.t_vals_after) c.in_ok-g.was in
    over_fronts known (λ (q : Generator). job q c.args.out.now c.args.work.now) _ (runs _ _ _ _ _ _ _ _ _ _ c.call.ensures _ known.sound)
