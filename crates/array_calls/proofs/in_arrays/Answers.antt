-- `array_calls::in_arrays` meets its contract. Assumes nothing.
use mathlib.Core.Path.{sym, ◌∙◌, ap}
use lib.ListN.{length}
use Rattle.general_operator.specs.Csr.{csr}
use Rattle.generator_action.specs.Mass.{given}
use Rattle.generator_action.specs.Generator.{forward}
use Rattle.le_bytes.proofs.Counts.{count_numbers, count_doubles, within_bytes}
use Rattle.array_calls.specs.Replies.{packed}
use Rattle.byte_calls.specs.Inner.{called}
use Rattle.array_calls.proofs.in_arrays.Goals as goal

pub slice_bounds-run-end : goal.slice_bounds-run-end
slice_bounds-run-end c = sym (ap length c.array-starts_array.ensures ∙ count_numbers c.args.starts.now)

pub slice_bounds-run-end-2 : goal.slice_bounds-run-end-2
slice_bounds-run-end-2 c = sym (ap length c.array-cols_array.ensures ∙ count_numbers c.args.cols.now)

pub slice_bounds-run-end-3 : goal.slice_bounds-run-end-3
slice_bounds-run-end-3 c = sym (ap length c.array-vals_array.ensures ∙ count_doubles c.args.vals.now)

pub slice_bounds-run-end-4 : goal.slice_bounds-run-end-4
slice_bounds-run-end-4 c = sym (ap length c.array-mass_array.ensures ∙ count_doubles c.args.mass.now)

pub slice_bounds-run-end-5 : goal.slice_bounds-run-end-5
slice_bounds-run-end-5 c = sym (ap length c.array-v_array.ensures ∙ count_doubles c.args.v.now)

pub slice_bounds-run-end-6 : goal.slice_bounds-run-end-6
slice_bounds-run-end-6 c = sym (ap length c.array-out_array.ensures ∙ count_doubles c.args.out.now)

pub slice_bounds-run-end-7 : goal.slice_bounds-run-end-7
slice_bounds-run-end-7 c = sym (ap length c.array-work_array.ensures ∙ count_doubles c.args.work.now)

pub run-requires : goal.run-requires
run-requires c =
    let a = c.args in
    (within_bytes (ap length c.array-out_array.ensures ∙ count_doubles a.out.now), within_bytes (ap length c.array-work_array.ensures ∙ count_doubles a.work.now))

pub returns : goal.returns
returns c =
    let a = c.args in
    c.run.ensures
    ∙ (λ i. packed (called a.call (forward (csr a.n (c.array-starts_array.ensures i) (c.array-cols_array.ensures i) (c.array-vals_array.ensures i)) (given a.with_mass (c.array-mass_array.ensures i))) a.tau a.k (c.array-v_array.ensures i) (c.array-out_array.ensures i) (c.array-work_array.ensures i)) a.out.now a.work.now)
