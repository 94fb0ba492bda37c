-- `transposed_checks::check_transposed` meets its contract. Assumes nothing.
use borrow.Author.Rules.{rules}
use native.Mathlib.Omega.{arith}
use mathlib.Core.Path.{sym}
use lib.Seq.{length-take-le}
use Rattle.checks.proofs.First.{passed_on}
use Rattle.general_operator.specs.Csr.{Csr, csr}
use Rattle.generator_action.specs.Mass.{Mass, given}
use Rattle.transpose.specs.Transpose.{Buffers, buffers, lengths}
use Rattle.transpose.proofs.Passed.{Transposable}
use Rattle.transpose.proofs.Answer.{refused_answer, refused_buffers, sound_passed, Written, written_starts, written_columns, written_values, fronts_valid, fronts_finite, sound_answer, sound_buffers}
use Rattle.transposed_checks.proofs.check_transposed.Goals as goal

pub returns-in_err-check_before : goal.returns-in_err-check_before
returns-in_err-check_before c =
    rw (passed_on c.from_residual.ensures.1)
    (let a : Csr = csr c.args.n c.args.starts.now c.args.cols.now c.args.vals.now in
    let m : Mass = given c.args.with_mass c.args.mass.now in
    let b : Buffers = buffers c.args.t_starts.now c.args.t_cols.now c.args.t_vals.now in
    let e = c.in_err-check_before.was in
    let d = c.check_before.ensures in
    record { value = refused_answer a m b e d; t_vals_after = refused_buffers a m b e d })

pub transpose_csr-requires : goal.transpose_csr-requires
transpose_csr-requires c =
    let a : Csr = csr c.args.n c.args.starts.now c.args.cols.now c.args.vals.now in
    let m : Mass = given c.args.with_mass c.args.mass.now in
    let b : Buffers = buffers c.args.t_starts.now c.args.t_cols.now c.args.t_vals.now in
    let t = sound_passed a m b c.in_ok-check_before.was c.check_before.ensures in
    record { valid = t.valid; starts_value = (t.from_0, t.divided); n_in_bounds = (t.room.starts, t.room.columns, t.room.values) }

pub overflow_add-rows : goal.overflow_add-rows
overflow_add-rows c =
    let a : Csr = csr c.args.n c.args.starts.now c.args.cols.now c.args.vals.now in
    let m : Mass = given c.args.with_mass c.args.mass.now in
    let b : Buffers = buffers c.args.t_starts.now c.args.t_cols.now c.args.t_vals.now in
    let passed : Transposable a m (lengths b) = sound_passed a m b c.in_ok-check_before.was c.check_before.ensures in
    omega (arith, passed.valid.few)

pub slice_bounds-entry_norm-end : goal.slice_bounds-entry_norm-end
slice_bounds-entry_norm-end c =
    let a : Csr = csr c.args.n c.args.starts.now c.args.cols.now c.args.vals.now in
    let m : Mass = given c.args.with_mass c.args.mass.now in
    let b : Buffers = buffers c.args.t_starts.now c.args.t_cols.now c.args.t_vals.now in
    let passed : Transposable a m (lengths b) = sound_passed a m b c.in_ok-check_before.was c.check_before.ensures in
    let written : Written a m b c.transpose_csr.new.t_starts c.transpose_csr.new.t_cols c.transpose_csr.new.t_vals = let p = c.transpose_csr.ensures in record { starts = p.t_starts_after; columns = p.t_cols_after; values = p.t_vals_after } in
    written_starts passed written

pub slice_bounds-entry_norm-end-2 : goal.slice_bounds-entry_norm-end-2
slice_bounds-entry_norm-end-2 c =
    let a : Csr = csr c.args.n c.args.starts.now c.args.cols.now c.args.vals.now in
    let m : Mass = given c.args.with_mass c.args.mass.now in
    let b : Buffers = buffers c.args.t_starts.now c.args.t_cols.now c.args.t_vals.now in
    let passed : Transposable a m (lengths b) = sound_passed a m b c.in_ok-check_before.was c.check_before.ensures in
    let written : Written a m b c.transpose_csr.new.t_starts c.transpose_csr.new.t_cols c.transpose_csr.new.t_vals = let p = c.transpose_csr.ensures in record { starts = p.t_starts_after; columns = p.t_cols_after; values = p.t_vals_after } in
    sym (length-take-le _ _ (written_starts passed written))

pub slice_bounds-entry_norm-end-3 : goal.slice_bounds-entry_norm-end-3
slice_bounds-entry_norm-end-3 c =
    let a : Csr = csr c.args.n c.args.starts.now c.args.cols.now c.args.vals.now in
    let m : Mass = given c.args.with_mass c.args.mass.now in
    let b : Buffers = buffers c.args.t_starts.now c.args.t_cols.now c.args.t_vals.now in
    let passed : Transposable a m (lengths b) = sound_passed a m b c.in_ok-check_before.was c.check_before.ensures in
    let written : Written a m b c.transpose_csr.new.t_starts c.transpose_csr.new.t_cols c.transpose_csr.new.t_vals = let p = c.transpose_csr.ensures in record { starts = p.t_starts_after; columns = p.t_cols_after; values = p.t_vals_after } in
    written_columns passed written

pub slice_bounds-entry_norm-end-4 : goal.slice_bounds-entry_norm-end-4
slice_bounds-entry_norm-end-4 c =
    let a : Csr = csr c.args.n c.args.starts.now c.args.cols.now c.args.vals.now in
    let m : Mass = given c.args.with_mass c.args.mass.now in
    let b : Buffers = buffers c.args.t_starts.now c.args.t_cols.now c.args.t_vals.now in
    let passed : Transposable a m (lengths b) = sound_passed a m b c.in_ok-check_before.was c.check_before.ensures in
    let written : Written a m b c.transpose_csr.new.t_starts c.transpose_csr.new.t_cols c.transpose_csr.new.t_vals = let p = c.transpose_csr.ensures in record { starts = p.t_starts_after; columns = p.t_cols_after; values = p.t_vals_after } in
    sym (length-take-le _ _ (written_columns passed written))

pub slice_bounds-entry_norm-end-5 : goal.slice_bounds-entry_norm-end-5
slice_bounds-entry_norm-end-5 c =
    let a : Csr = csr c.args.n c.args.starts.now c.args.cols.now c.args.vals.now in
    let m : Mass = given c.args.with_mass c.args.mass.now in
    let b : Buffers = buffers c.args.t_starts.now c.args.t_cols.now c.args.t_vals.now in
    let passed : Transposable a m (lengths b) = sound_passed a m b c.in_ok-check_before.was c.check_before.ensures in
    let written : Written a m b c.transpose_csr.new.t_starts c.transpose_csr.new.t_cols c.transpose_csr.new.t_vals = let p = c.transpose_csr.ensures in record { starts = p.t_starts_after; columns = p.t_cols_after; values = p.t_vals_after } in
    written_values passed written

pub slice_bounds-entry_norm-end-6 : goal.slice_bounds-entry_norm-end-6
slice_bounds-entry_norm-end-6 c =
    let a : Csr = csr c.args.n c.args.starts.now c.args.cols.now c.args.vals.now in
    let m : Mass = given c.args.with_mass c.args.mass.now in
    let b : Buffers = buffers c.args.t_starts.now c.args.t_cols.now c.args.t_vals.now in
    let passed : Transposable a m (lengths b) = sound_passed a m b c.in_ok-check_before.was c.check_before.ensures in
    let written : Written a m b c.transpose_csr.new.t_starts c.transpose_csr.new.t_cols c.transpose_csr.new.t_vals = let p = c.transpose_csr.ensures in record { starts = p.t_starts_after; columns = p.t_cols_after; values = p.t_vals_after } in
    sym (length-take-le _ _ (written_values passed written))

pub entry_norm-requires : goal.entry_norm-requires
entry_norm-requires c =
    let a : Csr = csr c.args.n c.args.starts.now c.args.cols.now c.args.vals.now in
    let m : Mass = given c.args.with_mass c.args.mass.now in
    let b : Buffers = buffers c.args.t_starts.now c.args.t_cols.now c.args.t_vals.now in
    let passed : Transposable a m (lengths b) = sound_passed a m b c.in_ok-check_before.was c.check_before.ensures in
    let written : Written a m b c.transpose_csr.new.t_starts c.transpose_csr.new.t_cols c.transpose_csr.new.t_vals = let p = c.transpose_csr.ensures in record { starts = p.t_starts_after; columns = p.t_cols_after; values = p.t_vals_after } in
    record { valid = fronts_valid passed written; finite = fronts_finite passed written }

pub returns : goal.returns
returns c =
    let a : Csr = csr c.args.n c.args.starts.now c.args.cols.now c.args.vals.now in
    let m : Mass = given c.args.with_mass c.args.mass.now in
    let b : Buffers = buffers c.args.t_starts.now c.args.t_cols.now c.args.t_vals.now in
    let written : Written a m b c.transpose_csr.new.t_starts c.transpose_csr.new.t_cols c.transpose_csr.new.t_vals = let p = c.transpose_csr.ensures in record { starts = p.t_starts_after; columns = p.t_cols_after; values = p.t_vals_after } in
    let e = c.in_ok-check_before.was in
    let d = c.check_before.ensures in
    record { value = sound_answer {a = a} {mass = m} {b = b} e d written c.entry_norm.ensures; t_vals_after = sound_buffers {a = a} {mass = m} {b = b} e d written }
