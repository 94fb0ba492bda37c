-- `exports_transposed_bytes::answer` meets its contract. Assumes nothing.
use native.Mathlib.Omega.{arith}
use mathlib.Core.Path.{sym}
use lib.Seq.{length-take-le}
use Rattle.le_bytes.specs.Bytes.{doubles_of}
use Rattle.le_bytes.proofs.Counts.{count_doubles}
use Rattle.byte_arrays.proofs.Parts.{within_numbers, within_columns, within_doubles}
use Rattle.exports_transposed_bytes.proofs.Cuts.{job_cut}
use Rattle.exports_transposed_bytes.proofs.answer.Goals as goal

pub slice_bounds-in_arrays-end : goal.slice_bounds-in_arrays-end
slice_bounds-in_arrays-end c = sym (length-take-le _ _ c.part-starts_part.ensures.0)

pub slice_bounds-in_arrays-end-2 : goal.slice_bounds-in_arrays-end-2
slice_bounds-in_arrays-end-2 c = sym (length-take-le _ _ c.part-cols_part.ensures.0)

pub slice_bounds-in_arrays-end-3 : goal.slice_bounds-in_arrays-end-3
slice_bounds-in_arrays-end-3 c = sym (length-take-le _ _ (omega (arith, c.part-mass_part.ensures.0, c.used-mass_len.ensures.1)))

pub slice_bounds-in_arrays-end-5 : goal.slice_bounds-in_arrays-end-5
slice_bounds-in_arrays-end-5 c = sym (length-take-le _ _ c.part-t_starts_part.ensures.0)

pub slice_bounds-in_arrays-end-7 : goal.slice_bounds-in_arrays-end-7
slice_bounds-in_arrays-end-7 c = sym (length-take-le _ _ c.part-t_cols_part.ensures.0)

pub slice_bounds-in_arrays-end-9 : goal.slice_bounds-in_arrays-end-9
slice_bounds-in_arrays-end-9 c = sym (length-take-le _ _ c.part-t_vals_part.ensures.0)

pub slice_bounds-in_arrays-end-10 : goal.slice_bounds-in_arrays-end-10
slice_bounds-in_arrays-end-10 c = sym (length-take-le _ _ c.part-v_part.ensures.0)

pub slice_bounds-in_arrays-end-12 : goal.slice_bounds-in_arrays-end-12
slice_bounds-in_arrays-end-12 c = sym (length-take-le _ _ c.part-out_part.ensures.0)

pub in_arrays-t-requires : goal.in_arrays-t-requires
in_arrays-t-requires c =
    let a = c.args in
    record { starts_len_bound = (within_numbers a.starts.now c.part-starts_part.ensures.0 c.part-starts_part.ensures.1, within_columns a.cols.now c.part-cols_part.ensures.0 c.part-cols_part.ensures.1, c.requires.1, within_doubles a.mass.now (omega (arith, c.part-mass_part.ensures.0, c.used-mass_len.ensures.1)) c.part-mass_part.ensures.1, within_doubles a.v.now c.part-v_part.ensures.0 c.part-v_part.ensures.1); t_starts_len_bound = (within_numbers a.t_starts.now c.part-t_starts_part.ensures.0 c.part-t_starts_part.ensures.1, within_numbers a.t_cols.now c.part-t_cols_part.ensures.0 c.part-t_cols_part.ensures.1, within_doubles a.t_vals.now c.part-t_vals_part.ensures.0 c.part-t_vals_part.ensures.1, within_doubles a.out.now c.part-out_part.ensures.0 c.part-out_part.ensures.1, c.requires.2) }

pub returns : goal.returns
returns c =
    let a = c.args in
    job_cut a.t_starts.now a.t_cols.now a.t_vals.now c.part-t_starts_part.result c.part-t_cols_part.result c.part-t_vals_part.result (λ i. omega (arith, c.slice_known-1.given i)) (λ i. omega (arith, c.slice_known-2-1.given i)) (λ i. omega (arith, c.slice_known-3-1.given i)) c.part-t_starts_part.ensures.0 c.part-t_cols_part.ensures.0 c.part-t_vals_part.ensures.0
    a.n (doubles_of a.vals.now) c.requires.0 (omega (arith, count_doubles a.vals.now, c.requires.1)) a.with_mass a.starts.now a.cols.now a.mass.now c.used-mass_len.result c.part-starts_part.result c.part-cols_part.result c.part-mass_part.result
    c.used-mass_len.ensures.0 c.part-starts_part.ensures.2 c.part-cols_part.ensures.2 c.part-mass_part.ensures.2 c.part-t_starts_part.ensures.2 c.part-t_cols_part.ensures.2 c.part-t_vals_part.ensures.2
    a.call a.tau a.k a.v.now a.out.now a.work.now c.part-v_part.result c.part-out_part.result (λ i. omega (arith, c.slice_known-4-1.given i)) c.part-v_part.ensures.2 c.part-out_part.ensures.2
    c.in_arrays-t.result c.reported.result c.in_arrays-t.ensures c.reported.ensures
