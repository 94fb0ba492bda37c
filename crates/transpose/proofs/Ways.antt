-- The ways out of the parts of `check_transposed`: what each answers, and what the checks that passed leave. Assumes nothing.
use mathlib.Core.Bool.{Bool, true, false, ◌||◌}
use mathlib.Core.List.{[], ◌++◌, append_assoc}
use mathlib.Core.Path.{◌≡◌, refl, sym, ap, ◌∙◌}
use Prim.Native.Nat.{ℕ, ◌+◌, ◌≤◌, ◌<◌}
use native.Mathlib.Omega.{arith}
use lib.Dec.{ltb}
use lib.ListN.{length}
use lib.Ieee.{Float, nan}
use borrow.Author.Tests.{lt-ltb, le-ltb, ltb-false}
use Rattle.checks.specs.First.{first}
use Rattle.checks.specs.First.{Checked}
use Rattle.checks.proofs.First.{stops, passes, ends_sound, not_eq, not_ne, sound_cons, refused_up, sound_on}
use Rattle.general_operator.specs.Csr.{Csr, start}
use Rattle.general_operator.specs.Checks.{matrix_checks}
use Rattle.general_operator.proofs.Sound.{or_false}
use Rattle.generator_action.specs.Mass.{Mass, quotients}
use Rattle.generator_action.specs.Known.{Answered}
use Rattle.generator_action.specs.Answer.{MatrixAnswer}
use Rattle.generator_action.proofs.Answered.{refusal_of, norm_of}
use Rattle.transpose.specs.Transpose.{Lent, start_checks, forward_checks, short, lent_checks, before_transposing}
use Rattle.checks.specs.Reasons.{Sound, Refused}
use Rattle.generator_action.specs.Answer.{Norm}
use Rattle.checks.specs.declared.Reason.TheVariants.{FirstRowStart, TransposedLength}
use Rattle.checks.specs.declared.Reason.{Reason}

-- ---- 9
module _ (a : Csr) where
  pub refused_start : {y : Float} → y ≡ nan → 0 < start a 0 → Refused FirstRowStart y ≡ first (start_checks a)
  unfolding start_checks
  refused_start d h = stops [] (not_ne (λ (e : start a 0 ≡ 0). absurd (omega arith))) d

  pub sound_start : start a 0 ≡ 0 → Sound ≡ first (start_checks a)
  unfolding start_checks
  sound_start e = passes FirstRowStart nan [] (not_eq e) ends_sound

-- ---- 30
module _ (a : Csr) (l : Lent) where
  abbrev few_starts : Bool
  few_starts = ltb l.starts (a.n + 1)

  abbrev few_columns : Bool
  few_columns = ltb l.columns (length a.entries)

  abbrev few_values : Bool
  few_values = ltb l.values (length a.entries)

  refused_short : {y : Float} → y ≡ nan → short a l ≡ true → Refused TransposedLength y ≡ first (lent_checks a l)
  unfolding lent_checks
  refused_short d e = stops [] e d

  pub short_starts : {y : Float} → y ≡ nan → l.starts ≤ a.n → Refused TransposedLength y ≡ first (lent_checks a l)
  unfolding short
  short_starts d h = refused_short d (rw (lt-ltb l.starts (a.n + 1) (omega arith)) refl)

  pub short_columns : {y : Float} → y ≡ nan → l.columns < length a.entries → Refused TransposedLength y ≡ first (lent_checks a l)
  unfolding short
  short_columns d h = refused_short d (rw (lt-ltb l.columns (length a.entries) h) (second few_starts))
    where
      second : (b : Bool) → (b || true) ≡ true
      second true = refl
      second false = refl

  pub short_values : {y : Float} → y ≡ nan → l.values < length a.entries → Refused TransposedLength y ≡ first (lent_checks a l)
  unfolding short
  short_values d h = refused_short d (rw (lt-ltb l.values (length a.entries) h) (third few_starts few_columns))
    where
      third : (b c : Bool) → (b || (c || true)) ≡ true
      third true c = refl
      third false true = refl
      third false false = refl

  pub long_enough : a.n < l.starts → length a.entries ≤ l.columns → length a.entries ≤ l.values → Sound ≡ first (lent_checks a l)
  unfolding lent_checks short
  long_enough s c v = passes TransposedLength nan [] (rw (le-ltb l.starts (a.n + 1) (omega arith), le-ltb l.columns (length a.entries) c, le-ltb l.values (length a.entries) v) refl) ends_sound

  -- what 30 leaves
  pub record Room : Type 0 where
    pub starts : a.n < l.starts
    pub columns : length a.entries ≤ l.columns
    pub values : length a.entries ≤ l.values

  pub room : Sound ≡ first (lent_checks a l) → Room
  unfolding lent_checks short
  room e =
      let s = or_false few_starts (few_columns || few_values) (sound_cons _ _ _ _ e).0 in
      let t = or_false few_columns few_values s.1 in
      record { starts = omega (arith, ltb-false l.starts (a.n + 1) s.0); columns = ltb-false _ _ t.0; values = ltb-false _ _ t.1 }

-- ---- up to 30
module _ (a : Csr) (mass : Mass) (l : Lent) where
  grouped : (matrix_checks a ++ forward_checks a mass) ++ lent_checks a l ≡ before_transposing a mass l
  unfolding before_transposing
  grouped = append_assoc (matrix_checks a) (forward_checks a mass) (lent_checks a l)

  module _ {r : MatrixAnswer} (h : Answered (quotients a mass) (matrix_checks a ++ forward_checks a mass) r) where
    pub forward_refused : {k : Reason} {x : Float} → r ≡ Refused k x → Refused k x ≡ first (before_transposing a mass l)
    forward_refused e = refused_up _ (lent_checks a l) refl (refusal_of _ _ (sym e ∙ h.is)) ∙ ap first grouped

    pub forward_passed : {x : Float} {i : ℕ} {s : Checked} → r ≡ Norm x i → s ≡ first (lent_checks a l) → s ≡ first (before_transposing a mass l)
    forward_passed e d = sound_on _ (lent_checks a l) refl (norm_of _ _ (sym e ∙ h.is)).0 d ∙ ap first grouped
