-- Whether the columns of a row rise, by the row's slice. Assumes nothing.
use mathlib.Core.Bool.{Bool, true, false}
use mathlib.Core.List.{List}
use mathlib.Core.Logic.{inl, inr}
use mathlib.Core.Path.{◌≡◌, refl, ap, ◌∙◌}
use Prim.Native.Nat.{ℕ, ◌+◌, ◌-◌, ◌≤◌, ◌<◌}
use native.Mathlib.Omega.{arith}
use lib.ListN.{length, get_or, drop, length-drop}
use lib.Seq.{get_or-take, get_or-drop, length-take-le}
use borrow.Author.Tests.{lt-ltb, le-ltb, le-leb, lt-leb}
use Rattle.std.specs.Prelude.{MatchBool}
use Rattle.std.specs.List.{slice_range}
use Rattle.lists.specs.Find.{exists}
use Rattle.lists.specs.Positions.{NoneBelow}
use Rattle.lists.proofs.Bounds.{lt_or_le}
use Rattle.lists.proofs.Positions.{any_exists}
use Rattle.join_rows.specs.Join.{not_rising}
use Rattle.join_rows.specs.Inner.{Repeats, Rises}

module _ (columns : List ℕ) (from to : ℕ) (h : from ≤ to) (l : to ≤ length columns) where
  abbrev row : List ℕ
  row = slice_range columns from to

  abbrev bad : ℕ → Bool
  bad k = not_rising columns to (from + k)

  long : length row ≡ to - from
  long = length-take-le (to - from) (drop from columns) (simp length-drop (omega arith))

  at : (k : ℕ) → k < to - from → get_or row k 0 ≡ get_or columns (from + k) 0
  at k m = get_or-take (to - from) (drop from columns) k 0 m ∙ get_or-drop from columns k 0

  next : (k : ℕ) → k + 1 < to - from → get_or row (k + 1) 0 ≡ get_or columns (from + k + 1) 0
  next k m = at (k + 1) m ∙ ap (λ (i : ℕ). get_or columns i 0) (omega arith)

  told : (r : Bool) → MatchBool r (Repeats row) (Rises row) → MatchBool r ((k : ℕ) × (k < to - from) × (bad k ≡ true)) (NoneBelow bad (to - from))
  unfolding not_rising
  told true (k, m, g) =
      let j : k + 1 < to - from = omega (arith, long) in
      let falls : get_or columns (from + k + 1) 0 ≤ get_or columns (from + k) 0 = omega (arith, g, at k (omega arith), next k j) in
      (k, omega arith, rw (lt-ltb (from + k + 1) to (omega arith), le-leb _ _ falls) refl)
  told false g = λ k m. elim (lt_or_le (from + k + 1) to) [
    | inl j ↦ rw (lt-ltb (from + k + 1) to j) (lt-leb _ _ (omega (arith, g k (omega (arith, long)), at k m, next k (omega arith))))
    | inr j ↦ rw (le-ltb (from + k + 1) to j) refl
  ]

  pub row_told : (r : Bool) → MatchBool r (Repeats row) (Rises row) → r ≡ exists bad (to - from)
  row_told r g = any_exists bad (to - from) r (told r g)
