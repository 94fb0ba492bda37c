-- The quotients of a valid matrix, row by row. Assumes nothing.
use mathlib.Core.Path.{◌≡◌, refl, sym, ap, ◌∙◌}
use mathlib.Core.List.{List}
use mathlib.Core.Option.{none, some}
use Prim.Native.Nat.{ℕ, ◌+◌, ◌-◌, ◌≤◌, ◌<◌}
use native.Mathlib.Nat.{le_trans, add-sub_of_le}
use native.Mathlib.Omega.{arith}
use lib.ListN.{length}
use lib.Ieee.{Float, nan, binary64}
use lib.Ieee.Fits.{div-fits}
use borrow.Author.Tests.{lt-ltb, le-ltb}
use Rattle.lists.proofs.Find.{Passed, found_at}
use Rattle.lists.specs.Loop.{tabulate}
use Rattle.lists.specs.Window.{splice}
use Rattle.lists.proofs.Loop.{length_tabulate, get_d_tabulate, tabulate_ext, Filled, filled_more}
use Rattle.doubles.specs.F64.{◌⊘◌, at, abs}
use Rattle.doubles.specs.Sum.{sum}
use Rattle.doubles.specs.Units.{Doubles}
use Rattle.doubles.proofs.Sum.{sum_ext}
use Rattle.doubles.proofs.Units.{tabulated}
use Rattle.general_operator.specs.Csr.{Csr, start, size_sum, row_sum, Valid}
use Rattle.general_operator.proofs.Rows.{rises, row_within}
use Rattle.generator_action.specs.Mass.{Mass, row_of, normalise, quotients}

-- entry k, divided by its row's mass
abbrev pub quotient : Csr → List Float → ℕ → Float
quotient a mass k = at a.entries k ⊘ at mass (row_of a k)

pub length_normalise : (a : Csr) (mass : List Float) → length (normalise a mass).entries ≡ length a.entries
unfolding normalise
length_normalise a mass = length_tabulate (length a.entries) _

module _ {a : Csr} (v : Valid a) where
  -- an entry stands in the row between whose starts it lies
  pub row_of_is : (i k : ℕ) → i < a.n → start a i ≤ k → k < start a (i + 1) → row_of a k ≡ i
  unfolding row_of
  row_of_is i k l f t =
      let passed : Passed (λ j. _) i = record { none = λ j h. le-ltb k (start a (j + 1)) (le_trans (rises v (j + 1) i (omega arith) (omega arith)) f) } in
      sym (found_at passed a.n l (lt-ltb k (start a (i + 1)) t))

  module _ (mass : List Float) where
    quotient_is : (i k : ℕ) → i < a.n → start a i ≤ k → k < start a (i + 1) → quotient a mass k ≡ at a.entries k ⊘ at mass i
    quotient_is i k l f t = ap (λ (j : ℕ). at a.entries k ⊘ at mass j) (row_of_is i k l f t)

    pub quotient_at : (i k : ℕ) → i < a.n → start a i ≤ k → k < start a (i + 1) → at (normalise a mass).entries k ≡ at a.entries k ⊘ at mass i
    unfolding normalise
    quotient_at i k l f t =
        let h = row_within v i l in
        get_d_tabulate (length a.entries) (quotient a mass) k nan (omega arith) ∙ quotient_is i k l f t

    -- a turn of a loop that writes the quotients row by row
    pub row_filled : {p i : ℕ} {w₀ w w₁ : List Float} → i < a.n → Filled p (start a i) (quotient a mass) w₀ w
        → w₁ ≡ splice (p + start a i) (tabulate (start a (i + 1) - start a i) (λ k. at a.entries (start a i + k) ⊘ at mass i)) w
        → Filled p (start a (i + 1)) (quotient a mass) w₀ w₁
    row_filled {p} {i} {w₀} {w} {w₁} l h e =
        let m = start a (i + 1) - start a i in
        let row = tabulate_ext m _ (λ k. quotient a mass (start a i + k)) (λ k t. sym (quotient_is i (start a i + k) l (omega arith) (omega arith))) in
        rw (add-sub_of_le (v.rising i l)) at (filled_more h m (e ∙ ap (λ (r : List Float). splice (p + start a i) r w) row))

    -- the sum of a row as it is computed where the quotients are not stored
    pub row_sum_normalise : (i : ℕ) → i < a.n → row_sum (normalise a mass) i ≡ sum (start a (i + 1) - start a i) (λ k. abs (at a.entries (start a i + k) ⊘ at mass i))
    unfolding row_sum size_sum normalise
    row_sum_normalise i l = sum_ext (start a (i + 1) - start a i) _ _ (λ k h. ap abs (quotient_at i (start a i + k) l (omega arith) (omega arith)))

    pub normalise_valid : Valid (normalise a mass)
    unfolding normalise
    normalise_valid =
        let e = length_normalise a mass in
        record {
          some = v.some;
          few = v.few;
          light = omega (arith, v.light);
          rows = v.rows;
          rising = v.rising;
          last = v.last ∙ sym e;
          paired = v.paired ∙ sym e;
          below = v.below;
        }

  pub quotients_valid : (mass : Mass) → Valid (quotients a mass)
  unfolding quotients
  quotients_valid none = v
  quotients_valid (some mass) = normalise_valid mass

-- they are doubles, since a division gives one
pub quotients_doubles : (a : Csr) (mass : Mass) → Doubles a.entries → Doubles (quotients a mass).entries
unfolding quotients normalise
quotients_doubles a none d = d
quotients_doubles a (some mass) d = tabulated (length a.entries) (quotient a mass) (λ k. div-fits binary64 _ _)

pub length_quotients : (a : Csr) (mass : Mass) → length (quotients a mass).entries ≡ length a.entries
unfolding quotients
length_quotients a none = refl
length_quotients a (some mass) = length_normalise a mass
