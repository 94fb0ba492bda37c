-- `transposed_byte_calls::check_in_arrays` meets its contract. Assumes nothing.
use mathlib.Core.Path.{sym, ◌∙◌, ap}
use lib.ListN.{length}
use Rattle.general_operator.specs.Csr.{csr}
use Rattle.generator_action.specs.Mass.{given}
use Rattle.transpose.specs.Transpose.{buffers}
use Rattle.le_bytes.proofs.Counts.{count_numbers, count_doubles, within_bytes, within_fours}
use Rattle.transposed_byte_calls.specs.Replies.{lent, matrix_packs}
use Rattle.transposed_byte_calls.specs.Inner.{checked_transposed}
use Rattle.transposed_byte_calls.proofs.check_in_arrays.Goals as goal

pub slice_bounds-run_check-end : goal.slice_bounds-run_check-end
slice_bounds-run_check-end c = sym (ap length c.array-starts_read.ensures ∙ count_numbers c.args.starts.now)

pub slice_bounds-run_check-end-2 : goal.slice_bounds-run_check-end-2
slice_bounds-run_check-end-2 c = sym (ap length c.array-cols_read.ensures ∙ count_numbers c.args.cols.now)

pub slice_bounds-run_check-end-3 : goal.slice_bounds-run_check-end-3
slice_bounds-run_check-end-3 c = sym (ap length c.array-vals_read.ensures ∙ count_doubles c.args.vals.now)

pub slice_bounds-run_check-end-4 : goal.slice_bounds-run_check-end-4
slice_bounds-run_check-end-4 c = sym (ap length c.array-mass_read.ensures ∙ count_doubles c.args.mass.now)

pub slice_bounds-run_check-end-5 : goal.slice_bounds-run_check-end-5
slice_bounds-run_check-end-5 c = sym (ap length c.array-starts_array.ensures ∙ count_numbers c.args.t_starts.now)

pub slice_bounds-run_check-end-6 : goal.slice_bounds-run_check-end-6
slice_bounds-run_check-end-6 c = sym (ap length c.array-cols_array.ensures ∙ count_numbers c.args.t_cols.now)

pub slice_bounds-run_check-end-7 : goal.slice_bounds-run_check-end-7
slice_bounds-run_check-end-7 c = sym (ap length c.array-vals_array.ensures ∙ count_doubles c.args.t_vals.now)

pub run_check-requires : goal.run_check-requires
run_check-requires c =
    let a = c.args in
    (within_fours (ap length c.array-starts_array.ensures ∙ count_numbers a.t_starts.now), within_fours (ap length c.array-cols_array.ensures ∙ count_numbers a.t_cols.now), within_bytes (ap length c.array-vals_array.ensures ∙ count_doubles a.t_vals.now))

pub returns : goal.returns
returns c =
    let a = c.args in
    c.run_check.ensures
    ∙ (λ i. matrix_packs (checked_transposed (csr a.n (c.array-starts_read.ensures i) (c.array-cols_read.ensures i) (c.array-vals_read.ensures i)) (given a.with_mass (c.array-mass_read.ensures i)) (buffers (c.array-starts_array.ensures i) (c.array-cols_array.ensures i) (c.array-vals_array.ensures i))) (lent a.t_starts.now a.t_cols.now a.t_vals.now))
