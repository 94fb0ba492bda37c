-- What the answer to a matrix tells. Assumes nothing.
use mathlib.Core.Path.{◌≡◌, refl, sym, ap, ◌∙◌}
use mathlib.Core.Bool.{Bool, true, false, true≢false}
use mathlib.Core.List.{List}
use mathlib.Core.Option.{none, some}
use Prim.Native.Nat.{ℕ, zero, suc, ◌≤◌, ◌<◌}
use native.Mathlib.Nat.{le_refl}
use native.Mathlib.Omega.{arith}
use lib.Ieee.{Float}
use borrow.Author.Tests.{not-false}
use Rattle.lists.specs.Loop.{iter}
use Rattle.lists.proofs.Find.{none_below}
use Rattle.doubles.specs.F64.{+0, is_finite, max_num}
use Rattle.doubles.proofs.Extremes.{replaced_finite}
use Rattle.checks.specs.First.{first}
use Rattle.checks.specs.First.{Checked}
use Rattle.checks.proofs.First.{ok_is, sound_cons, sound_append}
use Rattle.generator_action.specs.declared.Largest.{Largest}
use Rattle.general_operator.specs.Csr.{Csr, row_sum, row_sum_norm, Valid}
use Rattle.general_operator.specs.Checks.{matrix_checks}
use Rattle.general_operator.proofs.Sound.{sound_valid}
use Rattle.generator_action.specs.Answer.{MatrixAnswer}
use Rattle.generator_action.specs.Mass.{Mass, given, normalise, quotients, quotient_need, mass_checks, bad_sum, sum_checks, norm_checks, bound_checks, generator_checks}
use Rattle.generator_action.specs.Answer.{unless_refused, matrix_answer}
use Rattle.generator_action.specs.Known.{Dividing, Divided, Accepted, shape_of, Passed}
use Rattle.generator_action.proofs.Quotients.{quotients_valid}
use Rattle.generator_action.proofs.Ways.{mass_sound}
use Rattle.checks.specs.Reasons.{Sound, Refused}
use Rattle.generator_action.specs.Answer.{Norm}
use Rattle.std.specs.Prelude.{Ok, Err}
use Rattle.checks.specs.declared.Reason.{Reason}

pub refusal_of : (r : Checked) (q : Csr) {k : Reason} {x : Float} → Refused k x ≡ unless_refused r q → Refused k x ≡ r
unfolding unless_refused
refusal_of (Err r) q e = cc
refusal_of (Ok _) q e = cc

pub norm_of : (r : Checked) (q : Csr) {x : Float} {i : ℕ} → Norm x i ≡ unless_refused r q → (Sound ≡ r) × (x ≡ row_sum_norm q)
unfolding unless_refused
norm_of (Err r) q e = (cc, cc)
norm_of (Ok _) q e = (refl, ap (λ (l : Largest). l.norm) (ok_is e))

-- the largest of finite sums is finite
largest_finite : (q : Csr) (i : ℕ) → ((k : ℕ) → k < i → is_finite (row_sum q k) ≡ true) → is_finite (iter (λ j m. max_num m (row_sum q j)) i +0) ≡ true
unfolding iter max_num lib.Ieee.of_bits
largest_finite q zero h = refl
largest_finite q (suc i) h = replaced_finite _ (row_sum q i) _ (largest_finite q i (λ k l. h k (omega arith))) (h i (omega arith))

sums_finite : (q : Csr) → Sound ≡ first (sum_checks q) → is_finite (row_sum_norm q) ≡ true
unfolding sum_checks bad_sum row_sum_norm
sums_finite q e = largest_finite q q.n (λ k l. not-false _ (none_below (bad_sum q) q.n (sound_cons _ _ _ _ e).0 k l))

pub norm_finite : (a : Csr) → Sound ≡ first (norm_checks a) → is_finite (row_sum_norm a) ≡ true
unfolding norm_checks
norm_finite a e = not-false _ (sound_cons _ _ _ _ e).0

pub given_divides : (a : Csr) (b : Bool) (mass : List Float) → b ≡ true → Divided a (given b mass) → Dividing a mass
given_divides a true mass e d = d
given_divides a false mass e d = absurd (true≢false (sym e))

bound_sound : (a : Csr) (mass : Mass) → Sound ≡ first (bound_checks a mass) → (is_finite (row_sum_norm (quotients a mass)) ≡ true) × Divided a mass
unfolding bound_checks quotients
bound_sound a none e = (norm_finite a e, tt)
bound_sound a (some mass) e = let s = sound_append (mass_checks a mass) (sum_checks (normalise a mass)) e in (sums_finite (normalise a mass) s.1, mass_sound a mass s.0)

module _ (a : Csr) (mass : Mass) {r : MatrixAnswer} (e : r ≡ matrix_answer a mass) where
  pub refusal_told : {k : Reason} {x : Float} → r ≡ Refused k x → Refused k x ≡ first (generator_checks a mass)
  unfolding matrix_answer
  refusal_told d = refusal_of _ _ (sym d ∙ e)

  pub norm_told : {x : Float} {i : ℕ} → r ≡ Norm x i → Accepted a mass x
  unfolding matrix_answer generator_checks
  norm_told d =
      let h = norm_of _ _ (sym d ∙ e) in
      let s = sound_append (matrix_checks a) (bound_checks a mass) h.0 in
      let b = bound_sound a mass s.1 in
      let v = sound_valid a s.0 in
      record {
        sound = h.0;
        norm = h.1;
        finite = ap is_finite h.1 ∙ b.0;
        valid = v;
        quotients_are = quotients_valid v mass;
        divided = b.1;
      }

-- ---- what a job takes from it
pub need_light : (a : Csr) (mass : Mass) → Valid a → quotient_need a mass ≤ 16777216
unfolding quotient_need
need_light a none v = omega arith
need_light a (some mass) v = v.light

pub passed : (a : Csr) (b : Bool) (mass : List Float) {x : Float} → Accepted a (given b mass) x → Passed a (given b mass) (shape_of a b mass x)
passed a b mass h =
    record {
      norm = h.norm;
      finite = h.finite;
      valid = h.valid;
      quotients_are = h.quotients_are;
      divided = h.divided;
      room = le_refl _;
      light = need_light a (given b mass) h.valid;
    }
