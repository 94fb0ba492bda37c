-- The ways out of the parts of `check_generator`: what each answers, and what the checks that passed leave. Assumes nothing.
use mathlib.Core.Path.{◌≡◌, refl, sym, ap, ◌∙◌, subst}
use mathlib.Core.Bool.{Bool, true, false, not}
use mathlib.Core.List.{List, [], ◌++◌}
use Prim.Native.Nat.{ℕ, ◌+◌, ◌≤◌, ◌<◌}
use native.Mathlib.Nat.{le_refl}
use native.Mathlib.Omega.{arith}
use lib.Dec.{T}
use lib.ListN.{length}
use lib.Ieee.{Float}
use borrow.Author.Tests.{lt-ltb, eqb-true, not-false}
use Rattle.lists.specs.Find.{exists}
use Rattle.lists.proofs.Find.{Passed, found_at, found_none, none_below}
use Rattle.doubles.specs.F64.{◌⋖◌, ◌⩽◌, +0, at, is_finite, nonneg}
use Rattle.doubles.proofs.Monotone.{finite_number, div_number}
use Rattle.doubles.proofs.Order.{nonneg_number}
use Rattle.doubles.proofs.Sizes.{zero_nonneg}
use Rattle.doubles.proofs.Total.{not_⩽}
use Rattle.checks.specs.First.{Check, first}
use Rattle.checks.specs.First.{Checked}
use Rattle.checks.proofs.First.{stops, stops_not, passes_not, passes_find, ends_sound, refused_up, sound_on, sound_cons}
use Rattle.general_operator.specs.Csr.{Csr, start, row_sum, row_sum_norm, Valid}
use Rattle.general_operator.proofs.Sound.{or_false}
use Rattle.general_operator.proofs.Rows.{row_within}
use Rattle.generator_action.specs.Answer.{MatrixAnswer}
use Rattle.generator_action.specs.Mass.{Mass, normalise, quotients, bad_mass, mass_checks, bad_sum, sum_checks, norm_checks, generator_checks}
use Rattle.generator_action.specs.Answer.{largest_row, unless_refused, matrix_answer}
use Rattle.generator_action.specs.Known.{Finite, Dividing, Answered}
use Rattle.general_operator.proofs.Rows.{row_sum_nonneg}
use Rattle.generator_action.proofs.Quotients.{quotient_at}
use Rattle.checks.specs.Reasons.{Sound, Refused}
use Rattle.generator_action.specs.Answer.{Norm}
use Rattle.checks.specs.declared.Reason.TheVariants.{RowSumNotFinite, NormNotFinite}
use Rattle.checks.specs.declared.Reason.{Reason}

-- ---- the two answers
pub answered_refusal : {q : Csr} {checks : List Check} {k : Reason} {x : Float} → Refused k x ≡ first checks → Answered q checks (Refused k x)
unfolding unless_refused
answered_refusal e = record { is = rw (← e) }

pub answered_norm : {q : Csr} {checks : List Check} {x : Float} {i : ℕ} → Sound ≡ first checks → (x ≡ row_sum_norm q) × (i ≡ largest_row q) → Answered q checks (Norm x i)
unfolding unless_refused
answered_norm e h = record { is = rw (← e, h.0, h.1) }

-- the first of two lists of checks refuses, or has passed
pub answered_up : {q : Csr} (xs ys : List Check) {s : Checked} {k : Reason} {x : Float} → s ≡ Refused k x → s ≡ first xs → Answered q (xs ++ ys) (Refused k x)
answered_up xs ys e d = answered_refusal (sym e ∙ refused_up xs ys e d)

pub answered_on : {q : Csr} (xs : List Check) {ys : List Check} {s : Checked} {r : MatrixAnswer} → s ≡ Sound → s ≡ first xs → Answered q ys r → Answered q (xs ++ ys) r
answered_on {q} xs {ys} e d h = record { is = h.is ∙ ap (λ (c : Checked). unless_refused c q) (sound_on xs ys e d refl) }

-- no check is left
pub answer_is : (a : Csr) (mass : Mass) {r : MatrixAnswer} → Answered (quotients a mass) (generator_checks a mass) r → r ≡ matrix_answer a mass
unfolding matrix_answer
answer_is a mass h = h.is

-- ---- 10: a search passes the rows whose sums are finite
module _ (q : Csr) {i : ℕ} (p : Passed (bad_sum q) i) where
  pub refused_sum : (s : Float) → i < q.n → s ≡ row_sum q i → not (is_finite s) ≡ true → Refused RowSumNotFinite s ≡ first (sum_checks q)
  unfolding sum_checks exists bad_sum
  refused_sum s l e b =
      let here = found_at p q.n l (rw e at b) in
      stops [] (rw (← here) (lt-ltb i q.n l)) (e ∙ ap (row_sum q) here)

  pub sound_sums : q.n ≤ i → Sound ≡ first (sum_checks q)
  unfolding sum_checks
  sound_sums l = passes_find RowSumNotFinite _ [] (bad_sum q) q.n (found_none p q.n l) (le_refl q.n) ends_sound

-- ---- 11
module _ (a : Csr) {x : Float} {t : Bool} (e : x ≡ row_sum_norm a) (d : t ≡ is_finite x) where
  pub refused_norm : not t ≡ true → Refused NormNotFinite x ≡ first (norm_checks a)
  unfolding norm_checks
  refused_norm b = stops_not [] (d ∙ ap is_finite e) b e

  pub sound_norm : not t ≡ false → Sound ≡ first (norm_checks a)
  unfolding norm_checks
  sound_norm b = passes_not NormNotFinite _ [] (d ∙ ap is_finite e) b ends_sound

-- ---- 7 to 9
pub mass_sound : (a : Csr) (mass : List Float) → Sound ≡ first (mass_checks a mass) → Dividing a mass
unfolding mass_checks bad_mass
mass_sound a mass e =
    let seven = sound_cons _ _ _ _ e in
    let eight = sound_cons _ _ _ _ seven.1 in
    let long = eqb-true (length mass) a.n (not-false _ seven.0) in
    record {
      long = long;
      above = λ i l. above_0 (at mass i) (or_false _ _ (none_below (λ k. bad_mass (at mass k)) (length mass) eight.0 i (omega arith)));
      from_0 = eqb-true _ _ (not-false _ (sound_cons _ _ _ _ eight.1).0);
    }
  where
    above_0 : (x : Float) → (not (is_finite x) ≡ false) × ((x ⩽ +0) ≡ false) → T (+0 ⋖ x)
    above_0 x h = not_⩽ x +0 (finite_number x (subst T (sym (not-false (is_finite x) h.0)) tt)) (nonneg_number +0 zero_nonneg) (λ g. subst T h.1 g)

-- ---- no sum of sizes is a NaN
module _ {a : Csr} (v : Valid a) (f : Finite a) where
  finite_at : (i k : ℕ) → i < a.n → k < start a (i + 1) → T (is_finite (at a.entries k))
  finite_at i k l t = subst T (sym (f k (omega (arith, row_within v i l)))) tt

  pub entries_nonneg : (i : ℕ) → i < a.n → T (nonneg (row_sum a i))
  entries_nonneg i l = row_sum_nonneg a i (λ k g t. finite_number _ (finite_at i k l t))

  pub quotients_nonneg : (mass : List Float) → Dividing a mass → (i : ℕ) → i < a.n → T (nonneg (row_sum (normalise a mass) i))
  unfolding normalise
  quotients_nonneg mass d i l = row_sum_nonneg (normalise a mass) i (λ k g t. rw (quotient_at v mass i k l g t) (div_number _ _ (finite_at i k l t) (d.above i l)))
