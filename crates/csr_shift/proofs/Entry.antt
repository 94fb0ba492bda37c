-- An entry of a row, on the diagonal or beside it. Assumes nothing.
use mathlib.Core.Path.{◌≡◌, ◌∙◌}
use mathlib.Core.List.{List}
use Prim.Native.Nat.{ℕ, ◌+◌, ◌-◌, ◌≤◌, ◌<◌}
use native.Mathlib.Omega.{arith}
use borrow.Author.Tests.{eq-eqb, ne_eqb}
use lib.ListN.{get_or, length}
use lib.Ieee.{Float}
use Rattle.doubles.specs.F64.{◌⊕◌, at, abs}
use Rattle.lists.specs.Window.{window}
use Rattle.lists.proofs.Window.{length_window, get_d_window}
use Rattle.general_operator.specs.Csr.{Csr, start, Valid}
use Rattle.csr_shift.specs.declared.Row.{Row}
use Rattle.csr_shift.specs.Shift.{row, csr_entry}

module _ (q : Csr) (i p : ℕ) (s : Row) {d r : Float} where
  pub on_diagonal : get_or q.columns p 0 ≡ i → d ≡ s.diagonal ⊕ at q.entries p → r ≡ s.rest → row d r ≡ csr_entry q i p s
  unfolding csr_entry
  on_diagonal t e f = rw (eq-eqb _ _ t, e, f)

  pub off_diagonal : (get_or q.columns p 0 ≡ i → ⊥) → d ≡ s.diagonal → r ≡ s.rest ⊕ abs (at q.entries p) → row d r ≡ csr_entry q i p s
  unfolding csr_entry
  off_diagonal t e f = rw (ne_eqb _ _ t, e, f)

-- what row i has of the columns, or of the entries
abbrev pub part : {A : Type 0} → Csr → ℕ → List A → List A
part q i xs = window (start q i) (start q (i + 1) - start q i) xs

module _ {A : Type 0} {q : Csr} (v : Valid q) (i : ℕ) (l : i < q.n) (xs : List A) (h : start q (i + 1) ≤ length xs) where
  pub part_long : length (part q i xs) ≡ start q (i + 1) - start q i
  part_long = length_window (start q i) (start q (i + 1) - start q i) xs (omega (arith, v.rising i l))

  pub part_at : (k : ℕ) (d : A) {x : A} → k < length (part q i xs) → x ≡ get_or (part q i xs) k d → x ≡ get_or xs (start q i + k) d
  part_at k d b e = e ∙ get_d_window (start q i) (start q (i + 1) - start q i) xs k d (omega (arith, part_long))
