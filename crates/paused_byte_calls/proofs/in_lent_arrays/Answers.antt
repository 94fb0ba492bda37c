-- `paused_byte_calls::in_lent_arrays` meets its contract. Assumes nothing.
use mathlib.Core.Path.{sym, ◌∙◌, ap}
use lib.ListN.{length}
use Rattle.general_operator.specs.Csr.{csr}
use Rattle.generator_action.specs.Mass.{given}
use Rattle.le_bytes.proofs.Counts.{count_doubles, count_words, within_bytes}
use Rattle.paused_byte_calls.specs.Replies.{slices, packs}
use Rattle.paused_byte_calls.specs.Inner.{job, called_run}
use Rattle.paused_byte_calls.proofs.in_lent_arrays.Goals as goal

pub slice_bounds-run-end : goal.slice_bounds-run-end
slice_bounds-run-end c = sym (ap length c.array-out_array.ensures ∙ count_doubles c.args.out.now)

pub slice_bounds-run-end-2 : goal.slice_bounds-run-end-2
slice_bounds-run-end-2 c = sym (ap length c.array-work_array.ensures ∙ count_doubles c.args.work.now)

pub slice_bounds-run-end-3 : goal.slice_bounds-run-end-3
slice_bounds-run-end-3 c = sym (ap length c.array-field_array.ensures ∙ count_doubles c.args.field.now)

pub slice_bounds-run-end-4 : goal.slice_bounds-run-end-4
slice_bounds-run-end-4 c = sym (ap length c.array-numbers_array.ensures ∙ count_doubles c.args.numbers.now)

pub slice_bounds-run-end-5 : goal.slice_bounds-run-end-5
slice_bounds-run-end-5 c = sym (ap length c.array-counts_array.ensures ∙ count_words c.args.counts.now)

pub run-requires : goal.run-requires
run-requires c =
    let a = c.args in
    (within_bytes (ap length c.array-out_array.ensures ∙ count_doubles a.out.now), within_bytes (ap length c.array-work_array.ensures ∙ count_doubles a.work.now), within_bytes (ap length c.array-field_array.ensures ∙ count_doubles a.field.now), within_bytes (ap length c.array-numbers_array.ensures ∙ count_doubles a.numbers.now), within_bytes (ap length c.array-counts_array.ensures ∙ count_words a.counts.now))

pub returns : goal.returns
returns c =
    let a = c.args in
    c.run.ensures
    ∙ (λ i. packs (called_run a.call (job (csr a.n a.starts.now a.cols.now a.vals.now) (given a.with_mass a.mass.now) a.tau a.count a.w.now) (c.array-out_array.ensures i) (c.array-work_array.ensures i) (c.array-field_array.ensures i) (c.array-numbers_array.ensures i) (c.array-counts_array.ensures i)) (slices a.out.now a.work.now a.field.now a.numbers.now a.counts.now))
