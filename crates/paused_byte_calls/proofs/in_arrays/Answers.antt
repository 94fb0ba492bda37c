-- `paused_byte_calls::in_arrays` meets its contract. Assumes nothing.
use mathlib.Core.Path.{sym, ◌∙◌, ap}
use lib.ListN.{length}
use Rattle.general_operator.specs.Csr.{csr}
use Rattle.generator_action.specs.Mass.{given}
use Rattle.le_bytes.specs.Bytes.{doubles_of, words_of}
use Rattle.le_bytes.proofs.Counts.{count_numbers, count_doubles}
use Rattle.paused_byte_calls.specs.Replies.{slices, packs}
use Rattle.paused_byte_calls.specs.Inner.{job, called_run}
use Rattle.paused_byte_calls.proofs.in_arrays.Goals as goal

pub slice_bounds-in_lent_arrays-end : goal.slice_bounds-in_lent_arrays-end
slice_bounds-in_lent_arrays-end c = sym (ap length c.array-starts_array.ensures ∙ count_numbers c.args.starts.now)

pub slice_bounds-in_lent_arrays-end-2 : goal.slice_bounds-in_lent_arrays-end-2
slice_bounds-in_lent_arrays-end-2 c = sym (ap length c.array-cols_array.ensures ∙ count_numbers c.args.cols.now)

pub slice_bounds-in_lent_arrays-end-3 : goal.slice_bounds-in_lent_arrays-end-3
slice_bounds-in_lent_arrays-end-3 c = sym (ap length c.array-vals_array.ensures ∙ count_doubles c.args.vals.now)

pub slice_bounds-in_lent_arrays-end-4 : goal.slice_bounds-in_lent_arrays-end-4
slice_bounds-in_lent_arrays-end-4 c = sym (ap length c.array-mass_array.ensures ∙ count_doubles c.args.mass.now)

pub slice_bounds-in_lent_arrays-end-5 : goal.slice_bounds-in_lent_arrays-end-5
slice_bounds-in_lent_arrays-end-5 c = sym (ap length c.array-w_array.ensures ∙ count_doubles c.args.w.now)

pub in_lent_arrays-requires : goal.in_lent_arrays-requires
in_lent_arrays-requires c = c.requires.out_len_bound

pub returns : goal.returns
returns c =
    let a = c.args in
    c.in_lent_arrays.ensures
    ∙ (λ i. packs (called_run a.call (job (csr a.n (c.array-starts_array.ensures i) (c.array-cols_array.ensures i) (c.array-vals_array.ensures i)) (given a.with_mass (c.array-mass_array.ensures i)) a.tau a.count (c.array-w_array.ensures i)) (doubles_of a.out.now) (doubles_of a.work.now) (doubles_of a.field.now) (doubles_of a.numbers.now) (words_of a.counts.now)) (slices a.out.now a.work.now a.field.now a.numbers.now a.counts.now))
