-- `exports_paused_bytes::answer` meets its contract. Assumes nothing.
use native.Mathlib.Omega.{arith}
use mathlib.Core.Path.{sym}
use lib.Seq.{length-take-le}
use Rattle.le_bytes.specs.Bytes.{doubles_of}
use Rattle.le_bytes.proofs.Counts.{count_doubles}
use Rattle.byte_arrays.proofs.Parts.{within_numbers, within_columns, within_doubles}
use Rattle.exports_paused_bytes.proofs.Cuts.{job_cut}
use Rattle.exports_paused_bytes.proofs.answer.Goals as goal

pub slice_bounds-in_arrays-end : goal.slice_bounds-in_arrays-end
slice_bounds-in_arrays-end c = sym (length-take-le _ _ c.part-starts_part.ensures.0)

pub slice_bounds-in_arrays-end-2 : goal.slice_bounds-in_arrays-end-2
slice_bounds-in_arrays-end-2 c = sym (length-take-le _ _ c.part-cols_part.ensures.0)

pub slice_bounds-in_arrays-end-3 : goal.slice_bounds-in_arrays-end-3
slice_bounds-in_arrays-end-3 c = sym (length-take-le _ _ (omega (arith, c.part-mass_part.ensures.0, c.used-mass_len.ensures.1)))

pub slice_bounds-in_arrays-end-4 : goal.slice_bounds-in_arrays-end-4
slice_bounds-in_arrays-end-4 c = sym (length-take-le _ _ c.part-w_part.ensures.0)

pub slice_bounds-in_arrays-end-6 : goal.slice_bounds-in_arrays-end-6
slice_bounds-in_arrays-end-6 c = sym (length-take-le _ _ c.part-out_part.ensures.0)

pub slice_bounds-in_arrays-end-8 : goal.slice_bounds-in_arrays-end-8
slice_bounds-in_arrays-end-8 c = sym (length-take-le _ _ c.part-field_part.ensures.0)

pub slice_bounds-in_arrays-end-10 : goal.slice_bounds-in_arrays-end-10
slice_bounds-in_arrays-end-10 c = sym (length-take-le _ _ c.part-numbers_part.ensures.0)

pub slice_bounds-in_arrays-end-12 : goal.slice_bounds-in_arrays-end-12
slice_bounds-in_arrays-end-12 c = sym (length-take-le _ _ c.part-counts_part.ensures.0)

pub in_arrays-r-requires : goal.in_arrays-r-requires
in_arrays-r-requires c =
    let a = c.args in
    record { starts_len_bound = (within_numbers a.starts.now c.part-starts_part.ensures.0 c.part-starts_part.ensures.1, within_columns a.cols.now c.part-cols_part.ensures.0 c.part-cols_part.ensures.1, c.requires.1, within_doubles a.mass.now (omega (arith, c.part-mass_part.ensures.0, c.used-mass_len.ensures.1)) c.part-mass_part.ensures.1, within_doubles a.w.now c.part-w_part.ensures.0 c.part-w_part.ensures.1); out_len_bound = (within_doubles a.out.now c.part-out_part.ensures.0 c.part-out_part.ensures.1, c.requires.2, within_doubles a.field.now c.part-field_part.ensures.0 c.part-field_part.ensures.1, within_doubles a.numbers.now c.part-numbers_part.ensures.0 c.part-numbers_part.ensures.1, within_doubles a.counts.now c.part-counts_part.ensures.0 c.part-counts_part.ensures.1) }

pub returns : goal.returns
returns c =
    let a = c.args in
    job_cut a.call a.n (doubles_of a.vals.now) c.requires.0 (omega (arith, count_doubles a.vals.now, c.requires.1)) a.with_mass a.tau a.count a.starts.now a.cols.now a.mass.now a.w.now a.out.now a.work.now a.field.now a.numbers.now a.counts.now
    c.used-mass_len.result c.part-starts_part.result c.part-cols_part.result c.part-mass_part.result c.part-w_part.result c.part-out_part.result c.part-field_part.result c.part-numbers_part.result c.part-counts_part.result
    (λ i. omega (arith, c.slice_known-1.given i)) (λ i. omega (arith, c.slice_known-3-1.given i)) (λ i. omega (arith, c.slice_known-4-1.given i)) (λ i. omega (arith, c.slice_known-5-1.given i))
    c.used-mass_len.ensures.0 c.part-starts_part.ensures.2 c.part-cols_part.ensures.2 c.part-mass_part.ensures.2 c.part-w_part.ensures.2 c.part-out_part.ensures.2 c.part-field_part.ensures.2 c.part-numbers_part.ensures.2 c.part-counts_part.ensures.2
    c.in_arrays-r.ensures c.reported.ensures
