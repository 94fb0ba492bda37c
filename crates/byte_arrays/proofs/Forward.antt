-- The checks of a matrix with lists that are too long for it: it is refused alike by whatever the list holds. Assumes nothing.
use mathlib.Core.Bool.{Bool, true, false, not, ◌||◌}
use mathlib.Core.List.{List, [], ◌++◌}
use mathlib.Core.Option.{none, some}
use mathlib.Core.Path.{◌≡◌, refl, sym, ◌∙◌, ap}
use native.Mathlib.Omega.{arith}
use Prim.Native.Nat.{ℕ, ◌+◌, ◌≤◌, ◌<◌}
use lib.Dec.{eqb}
use lib.ListN.{length, get_or}
use lib.Ieee.{Float}
use Rattle.doubles.specs.F64.{nat}
use Rattle.checks.specs.First.{Check, first, before}
use Rattle.checks.proofs.First.{passes, stops, not_ne}
use Rattle.general_operator.specs.Csr.{Csr, csr}
use Rattle.general_operator.specs.Checks.{wrong_rows, wrong_entries, shape_checks, row_checks, entry_checks, matrix_checks}
use Rattle.generator_action.specs.Mass.{Mass, mass_checks, sum_checks, norm_checks, bound_checks, generator_checks}
use Rattle.lists.proofs.Tests.{or_true}
use Rattle.byte_arrays.proofs.Alike.{Alike, stopped, in_front, behind}
use Rattle.byte_arrays.proofs.Cuts.{Both, both_on, Refuses}
use Rattle.checks.specs.Reasons.{Refused}
use Rattle.checks.specs.declared.Reason.TheVariants.{RowStartsLength, EntryCount, MassLength, OutputLength, VectorLength}

-- ---- lengths that no matrix of 64 rows has
wrong : (n l : ℕ) → n ≤ 64 → 512 ≤ l → wrong_rows n l ≡ true
unfolding wrong_rows
wrong n l few h = ap (λ (t : Bool). eqb n 0 || t) (not_ne {a = l} {b = n + 1} (λ e. absurd (omega (arith, few, h, e)))) ∙ or_true (eqb n 0)

not_n : (n l : ℕ) → n ≤ 64 → 512 ≤ l → not (eqb l n) ≡ true
not_n n l few h = not_ne {a = l} {b = n} (λ e. absurd (omega (arith, few, h, e)))

-- ---- 1 to 6, and whatever stands behind them
pub alike_starts : (n : ℕ) (s t cols : List ℕ) (vals : List Float) → n ≤ 64 → 512 < length s → 512 ≤ length t → Alike RowStartsLength (nat (length s)) (first (matrix_checks (csr n s cols vals))) (first (matrix_checks (csr n t cols vals)))
unfolding matrix_checks shape_checks
alike_starts n s t cols vals few ls lt = stopped (nat (length t)) _ _ (wrong n (length s) few (omega (arith, ls))) (wrong n (length t) few lt)

none_7 : (a : Csr) → before MassLength (matrix_checks a) ≡ matrix_checks a
unfolding before matrix_checks shape_checks row_checks entry_checks
none_7 a = refl

pub alike_mass : (a : Csr) (m p : List Float) (cs ds : List Check) → a.n ≤ 64 → 512 < length m → 512 ≤ length p → Alike MassLength (nat (length m)) (first (matrix_checks a ++ (mass_checks a m ++ cs))) (first (matrix_checks a ++ (mass_checks a p ++ ds)))
unfolding mass_checks
alike_mass a m p cs ds few lm lp =
    behind (matrix_checks a) _ _ (none_7 a) (stopped (nat (length p)) _ _ (not_n a.n (length m) few (omega (arith, lm))) (not_n a.n (length p) few lp))

-- not as many columns as entries: refused by 2, unless by 1, and neither tells anything of them
module _ (n : ℕ) (vals : List Float) (s cols : List ℕ) where
  by_rows : wrong_rows n (length s) ≡ true → first (matrix_checks (csr n s cols vals)) ≡ Refused RowStartsLength (nat (length s))
  unfolding matrix_checks shape_checks
  by_rows e = sym (stops _ e refl)

  by_entries : wrong_rows n (length s) ≡ false → (length cols ≡ length vals → ⊥) → first (matrix_checks (csr n s cols vals)) ≡ Refused EntryCount (nat (length vals))
  unfolding matrix_checks shape_checks wrong_entries
  by_entries e h = sym (passes RowStartsLength _ _ e (stops _ (ap (λ (t : Bool). t || not (eqb (get_or s n 0) (length vals))) (not_ne {a = length cols} {b = length vals} h)) refl))

pub other_columns : (n : ℕ) (vals : List Float) (s cols other : List ℕ) → (length cols ≡ length vals → ⊥) → (length other ≡ length vals → ⊥) → Both (first (matrix_checks (csr n s cols vals))) (first (matrix_checks (csr n s other vals)))
other_columns n vals s cols other h h' = go (wrong_rows n (length s)) refl
  where
    go : (b : Bool) → wrong_rows n (length s) ≡ b → Both (first (matrix_checks (csr n s cols vals))) (first (matrix_checks (csr n s other vals)))
    go true e = record { reason = RowStartsLength; reported = nat (length s); here = by_rows n vals s cols e; there = by_rows n vals s other e }
    go false e = record { reason = EntryCount; reported = nat (length vals); here = by_entries n vals s cols e h; there = by_entries n vals s other e h' }

-- ---- 1 to 11
none_15 : (a : Csr) (mass : Mass) → before OutputLength (generator_checks a mass) ≡ generator_checks a mass
unfolding before generator_checks bound_checks mass_checks sum_checks norm_checks matrix_checks shape_checks row_checks entry_checks
none_15 a none = refl
none_15 a (some mass) = refl

none_16 : (a : Csr) (mass : Mass) → before VectorLength (generator_checks a mass) ≡ generator_checks a mass
unfolding before generator_checks bound_checks mass_checks sum_checks norm_checks matrix_checks shape_checks row_checks entry_checks
none_16 a none = refl
none_16 a (some mass) = refl

pub forward_refuses : (n : ℕ) (vals : List Float) → n ≤ 64 → Refuses (length vals) (λ s cols mass. generator_checks (csr n s cols vals) mass)
unfolding generator_checks bound_checks
forward_refuses n vals few =
    record {
      long_starts = λ s t cols mass ls lt. in_front _ _ _ _ (alike_starts n s t cols vals few ls lt);
      long_mass = λ s cols m p lm lp. alike_mass (csr n s cols vals) m p _ _ few lm lp;
      other_columns = λ s cols other mass h h'. both_on _ _ _ _ (other_columns n vals s cols other h h');
      not_15 = λ s cols mass. none_15 (csr n s cols vals) mass;
      not_16 = λ s cols mass. none_16 (csr n s cols vals) mass;
    }
