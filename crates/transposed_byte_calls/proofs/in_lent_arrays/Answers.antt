-- `transposed_byte_calls::in_lent_arrays` meets its contract. Assumes nothing.
use mathlib.Core.Path.{sym, ◌∙◌, ap}
use lib.ListN.{length}
use Rattle.general_operator.specs.Csr.{csr}
use Rattle.generator_action.specs.Mass.{given}
use Rattle.transpose.specs.Transpose.{buffers}
use Rattle.le_bytes.proofs.Counts.{count_numbers, count_doubles, within_bytes, within_fours}
use Rattle.transposed_byte_calls.specs.Replies.{lent, packs}
use Rattle.transposed_byte_calls.specs.Inner.{called_transposed}
use Rattle.transposed_byte_calls.proofs.in_lent_arrays.Goals as goal

pub slice_bounds-run-end : goal.slice_bounds-run-end
slice_bounds-run-end c = sym (ap length c.array-starts_array.ensures ∙ count_numbers c.args.t_starts.now)

pub slice_bounds-run-end-2 : goal.slice_bounds-run-end-2
slice_bounds-run-end-2 c = sym (ap length c.array-cols_array.ensures ∙ count_numbers c.args.t_cols.now)

pub slice_bounds-run-end-3 : goal.slice_bounds-run-end-3
slice_bounds-run-end-3 c = sym (ap length c.array-vals_array.ensures ∙ count_doubles c.args.t_vals.now)

pub slice_bounds-run-end-4 : goal.slice_bounds-run-end-4
slice_bounds-run-end-4 c = sym (ap length c.array-out_array.ensures ∙ count_doubles c.args.out.now)

pub slice_bounds-run-end-5 : goal.slice_bounds-run-end-5
slice_bounds-run-end-5 c = sym (ap length c.array-work_array.ensures ∙ count_doubles c.args.work.now)

pub run-requires : goal.run-requires
run-requires c =
    let a = c.args in
    (within_fours (ap length c.array-starts_array.ensures ∙ count_numbers a.t_starts.now), within_fours (ap length c.array-cols_array.ensures ∙ count_numbers a.t_cols.now), within_bytes (ap length c.array-vals_array.ensures ∙ count_doubles a.t_vals.now), within_bytes (ap length c.array-out_array.ensures ∙ count_doubles a.out.now), within_bytes (ap length c.array-work_array.ensures ∙ count_doubles a.work.now))

pub returns : goal.returns
returns c =
    let a = c.args in
    c.run.ensures
    ∙ (λ i. packs (called_transposed a.call (csr a.n a.starts.now a.cols.now a.vals.now) (given a.with_mass a.mass.now) (buffers (c.array-starts_array.ensures i) (c.array-cols_array.ensures i) (c.array-vals_array.ensures i)) a.tau a.k a.v.now (c.array-out_array.ensures i) (c.array-work_array.ensures i)) a.out.now a.work.now (lent a.t_starts.now a.t_cols.now a.t_vals.now))
