-- The checks 1 to 6 of a matrix, in number order (document 01, 'Whoever builds the matrix'; general_operator.rs, `validate_csr`). Definitions only.
use Rattle.std.specs.Prelude.{Bool, not, ◌&&◌, ◌||◌, List, [], ◌∷◌, ◌++◌, ℕ, ◌+◌, leb, ltb, eqb, length, get_or, Float}
use Rattle.std.specs.Float.{nan}
use Rattle.lists.specs.Find.{find, exists, open_find}
use Rattle.doubles.specs.F64.{is_finite, nat, at}
use Rattle.checks.specs.First.{Check, refuse, first}
use Rattle.general_operator.specs.Csr.{Csr, open_csr}
use Rattle.checks.specs.declared.Reason.TheVariants.{RowStartsLength, EntryCount, MatrixTooLarge, RowStartsFall, ColumnRange, EntryNotFinite}

-- n = 0, or row starts not n + 1 long
unfoldable pub wrong_rows : ℕ → ℕ → Bool
wrong_rows n len = eqb n 0 || not (eqb len (n + 1))

-- columns and entries differ in count, or the last row start is not that count
unfoldable pub wrong_entries : ℕ → List ℕ → ℕ → ℕ → Bool
wrong_entries n starts columns entries = not (eqb columns entries) || not (eqb (get_or starts n 0) entries)

unfoldable pub too_large : ℕ → ℕ → Bool
too_large n entries = ltb 1000000 n || ltb 16777216 entries

-- row i + 1 starts before row i
unfoldable pub falls : List ℕ → ℕ → Bool
falls starts i = ltb (get_or starts (i + 1) 0) (get_or starts i 0)

unfoldable pub bad_column : ℕ → List ℕ → ℕ → Bool
bad_column n columns k = leb n (get_or columns k 0)

-- an entry that 5 or 6 refuses
unfoldable pub bad_entry : ℕ → List ℕ → List Float → ℕ → Bool
bad_entry n columns entries k = bad_column n columns k || not (is_finite (at entries k))

unfoldable pub shape_checks : ℕ → List ℕ → ℕ → ℕ → List Check
shape_checks n starts columns entries =
    refuse RowStartsLength (wrong_rows n (length starts)) (nat (length starts))
    ∷ refuse EntryCount (wrong_entries n starts columns entries) (nat entries)
    ∷ refuse MatrixTooLarge (too_large n entries) nan
    ∷ []

unfoldable pub row_checks : ℕ → List ℕ → List Check
row_checks n starts = refuse RowStartsFall (exists (falls starts) n) (nat (find (falls starts) n)) ∷ []

-- 5 and 6 are tested together, entry by entry, 5 first: both speak of the first entry that either refuses
unfoldable pub entry_checks : ℕ → List ℕ → List Float → List Check
entry_checks n columns entries =
    let k = find (bad_entry n columns entries) (length entries) in
    refuse ColumnRange (ltb k (length entries) && bad_column n columns k) (nat (get_or columns k 0))
    ∷ refuse EntryNotFinite (ltb k (length entries)) (at entries k)
    ∷ []

unfoldable pub matrix_checks : Csr → List Check
matrix_checks a =
    shape_checks a.n a.starts (length a.columns) (length a.entries)
    ++ (row_checks a.n a.starts ++ entry_checks a.n a.columns a.entries)

-- to compute: a line `unfolding open_checks` opens every definition of this file and of those below it
unfoldable pub open_checks : Unit {0}
unfolding wrong_rows wrong_entries too_large falls bad_column bad_entry shape_checks row_checks entry_checks matrix_checks first open_find open_csr
open_checks = tt
