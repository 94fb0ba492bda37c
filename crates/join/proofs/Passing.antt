-- A valid matrix with finite entries passes 1 to 6, to be moved to `general_operator`. Assumes nothing.
use mathlib.Core.Bool.{false}
use mathlib.Core.Path.{◌≡◌, refl, sym}
use native.Mathlib.Nat.{le_refl}
use native.Mathlib.Omega.{arith}
use lib.ListN.{length}
use borrow.Author.Tests.{le-ltb, lt-leb, eq-eqb, ne_eqb}
use Rattle.lists.proofs.Find.{Passed, found_none, exists_none}
use Rattle.checks.specs.First.{first}
use Rattle.checks.proofs.First.{passes, ends_sound, sound_on}
use Rattle.general_operator.specs.Csr.{Csr, Valid}
use Rattle.general_operator.specs.Checks.{wrong_rows, wrong_entries, too_large, falls, bad_column, bad_entry, shape_checks, row_checks, entry_checks, matrix_checks}
use Rattle.generator_action.specs.Known.{Finite}
use Rattle.checks.specs.Reasons.{Sound}
use Rattle.checks.specs.declared.Reason.TheVariants.{RowStartsLength, EntryCount, MatrixTooLarge, RowStartsFall, ColumnRange, EntryNotFinite}

module _ {q : Csr} (v : Valid q) where
  rows_pass : wrong_rows q.n (length q.starts) ≡ false
  unfolding wrong_rows
  rows_pass = rw (ne_eqb q.n 0 (λ e. omega (arith, v.some)), eq-eqb _ _ v.rows) refl

  entries_pass : wrong_entries q.n q.starts (length q.columns) (length q.entries) ≡ false
  unfolding wrong_entries
  entries_pass = rw (eq-eqb _ _ v.paired, eq-eqb _ _ v.last) refl

  size_passes : too_large q.n (length q.entries) ≡ false
  unfolding too_large
  size_passes = rw (le-ltb 1000000 q.n v.few, le-ltb 16777216 (length q.entries) v.light) refl

  shape_passes : Sound ≡ first (shape_checks q.n q.starts (length q.columns) (length q.entries))
  unfolding shape_checks
  shape_passes = passes RowStartsLength _ _ rows_pass (passes EntryCount _ _ entries_pass (passes MatrixTooLarge _ _ size_passes ends_sound))

  starts_pass : Sound ≡ first (row_checks q.n q.starts)
  unfolding row_checks falls
  starts_pass =
      let none : Passed (falls q.starts) q.n = record { none = λ k l. le-ltb _ _ (v.rising k l) } in
      passes RowStartsFall _ _ (sym (exists_none none q.n (le_refl q.n))) ends_sound

  module _ (f : Finite q) where
    fine_entries : Sound ≡ first (entry_checks q.n q.columns q.entries)
    unfolding entry_checks bad_entry bad_column
    fine_entries =
        let n = length q.entries in
        let none : Passed (bad_entry q.n q.columns q.entries) n = record { none = λ k l. rw (lt-leb _ _ (v.below k (omega (arith, v.paired))), f k l) refl } in
        let e = found_none none n (le_refl n) in
        passes ColumnRange _ _ (rw (← e, le-ltb n n (le_refl n)) refl) (passes EntryNotFinite _ _ (rw (← e) (le-ltb n n (le_refl n))) ends_sound)

    pub valid_passes : Sound ≡ first (matrix_checks q)
    unfolding matrix_checks
    valid_passes = sound_on _ _ refl shape_passes (sound_on _ _ refl starts_pass fine_entries)
