-- What the checks of a transposed job leave: the quotients are finite, the transposed matrix is valid, and its norm is finite and not negative.
-- Assumes nothing.
use mathlib.Core.Bool.{true, false, not}
use mathlib.Core.List.{List, ◌++◌}
use mathlib.Core.Option.{none, some}
use mathlib.Core.Path.{◌≡◌, refl, sym, ap, ◌∙◌, subst}
use Prim.Native.Nat.{ℕ, ◌+◌, ◌-◌, ◌<◌}
use native.Mathlib.Nat.{add-sub_of_le}
use native.Mathlib.Omega.{arith}
use lib.Dec.{T}
use lib.ListN.{length}
use lib.Ieee.{Float}
use borrow.Author.Tests.{eqb-true, not-false}
use Rattle.lists.proofs.Find.{none_below}
use Rattle.doubles.specs.F64.{at, abs, is_finite, nonneg}
use Rattle.checks.specs.First.{first}
use Rattle.checks.proofs.First.{sound_cons, sound_append}
use Rattle.general_operator.specs.Csr.{Csr, start, size_sum, row_sum, row_sum_norm, Valid}
use Rattle.general_operator.specs.Checks.{matrix_checks}
use Rattle.general_operator.proofs.Sound.{sound_valid, sound_finite}
use Rattle.doubles.proofs.Finite.{terms_finite, size_finite}
use Rattle.generator_action.specs.Mass.{Mass, row_of, normalise, quotients, quotient_need, mass_checks, bad_sum, sum_checks, norm_checks}
use Rattle.generator_action.specs.Answer.{MatrixAnswer}
use Rattle.generator_action.specs.declared.Shape.{Shape}
use Rattle.generator_action.specs.Known.{Finite, Dividing, Divided, Passed}
use Rattle.generator_action.proofs.Ways.{mass_sound, entries_nonneg}
use Rattle.generator_action.proofs.Quotients.{quotients_valid, normalise_valid, length_quotients}
use Rattle.generator_action.proofs.Norm.{norm_nonneg}
use Rattle.generator_action.proofs.Answered.{refusal_of, norm_of, norm_finite, need_light}
use Rattle.generator_action.proofs.LargestRow.{FirstLargest, first_largest}
use Rattle.transpose.specs.Transpose.{Lent, transpose, start_checks, forward_checks, before_transposing, transposed_checks, transposed_answer}
use Rattle.transpose.proofs.Twice.{stands, transpose_valid, order_below, length_transposed, value_transposed}
use Rattle.transpose.proofs.Ways.{Room, room}
use Rattle.checks.specs.Reasons.{Sound, Refused}
use Rattle.generator_action.specs.Answer.{Norm}
use Rattle.checks.specs.declared.Reason.{Reason}

-- ---- what the checks up to 30 leave
pub record Transposable (a : Csr) (mass : Mass) (l : Lent) : Type 0 where
  pub valid : Valid a
  pub from_0 : start a 0 ≡ 0
  pub divided : Divided a mass
  pub finite : Finite (quotients a mass)
  pub room : Room a l

same_start : (a : Csr) (mass : List Float) → start (normalise a mass) 0 ≡ start a 0
unfolding normalise
same_start a mass = refl

nine : (a : Csr) → Sound ≡ first (start_checks a) → start a 0 ≡ 0
unfolding start_checks
nine a e = eqb-true _ _ (not-false _ (sound_cons _ _ _ _ e).0)

-- rows with finite sums have finite entries
entries_finite : {q : Csr} → Valid q → start q 0 ≡ 0 → ((i : ℕ) → i < q.n → is_finite (row_sum q i) ≡ true) → Finite q
unfolding row_sum size_sum
entries_finite {q} v z sums k l =
    let s = stands v z k (omega (arith, v.paired)) in
    let i = row_of q k in
    let one = terms_finite (start q (i + 1) - start q i) _ (subst T (sym (sums i s.row)) tt) (k - start q i) (omega (arith, s.from, s.to)) in
    size_finite (at q.entries k) (subst (λ (j : ℕ). T (is_finite (abs (at q.entries j)))) (add-sub_of_le s.from) one)

-- 10 leaves finite quotients
quotients_finite : {a : Csr} → Valid a → (mass : List Float) → Dividing a mass → Sound ≡ first (sum_checks (normalise a mass)) → Finite (normalise a mass)
unfolding sum_checks bad_sum
quotients_finite {a} v mass d e =
    entries_finite (normalise_valid v mass) (same_start a mass ∙ d.from_0) (λ i l. not-false _ (none_below (bad_sum (normalise a mass)) (normalise a mass).n (sound_cons _ _ _ _ e).0 i l))

pub transposable : (a : Csr) (mass : Mass) (l : Lent) → Sound ≡ first (before_transposing a mass l) → Transposable a mass l
unfolding before_transposing forward_checks quotients
transposable a none l e =
    let s = sound_append (matrix_checks a) _ e in
    let f = sound_append (start_checks a ++ norm_checks a) _ s.1 in
    let g = sound_append (start_checks a) _ f.0 in
    record { valid = sound_valid a s.0; from_0 = nine a g.0; divided = tt; finite = sound_finite a s.0; room = room a l f.1 }
transposable a (some mass) l e =
    let s = sound_append (matrix_checks a) _ e in
    let f = sound_append (mass_checks a mass ++ sum_checks (normalise a mass)) _ s.1 in
    let m = sound_append (mass_checks a mass) _ f.0 in
    let d = mass_sound a mass m.0 in
    let v = sound_valid a s.0 in
    record { valid = v; from_0 = d.from_0; divided = d; finite = quotients_finite v mass d m.1; room = room a l f.1 }

-- ---- the transposed quotients
module _ {a : Csr} {mass : Mass} {l : Lent} (t : Transposable a mass l) where
  abbrev q : Csr
  q = quotients a mass

  q_valid : Valid q
  q_valid = quotients_valid t.valid mass

  quotients_start : (mass : Mass) → start (quotients a mass) 0 ≡ start a 0
  unfolding quotients
  quotients_start none = refl
  quotients_start (some m) = same_start a m

  q_from_0 : start q 0 ≡ 0
  q_from_0 = quotients_start mass ∙ t.from_0

  pub transposed_valid : Valid (transpose q)
  transposed_valid = transpose_valid q_valid q_from_0

  pub transposed_length : length (transpose q).entries ≡ length a.entries
  transposed_length = omega (arith, transposed_valid.paired, length_transposed q_valid q_from_0, q_valid.paired, length_quotients a mass)

  pub transposed_finite : Finite (transpose q)
  transposed_finite k h =
      let g : k < length q.columns = omega (arith, transposed_length, q_valid.paired, length_quotients a mass) in
      let o = order_below q_valid q_from_0 k g in
      ap is_finite (value_transposed q_valid q_from_0 k g) ∙ t.finite _ (omega (arith, q_valid.paired))

  pub column_sums_nonneg : (i : ℕ) → i < (transpose q).n → T (nonneg (row_sum (transpose q) i))
  column_sums_nonneg i h = entries_nonneg transposed_valid transposed_finite i h

-- ---- what a job takes from its transposed generator, which has no mass; the working memory is that of the forward job
abbrev pub transposed_shape : Csr → Mass → Shape
transposed_shape a mass = record { n = a.n; with_mass = false; stored = quotient_need a mass; norm = row_sum_norm (transpose (quotients a mass)) }

module _ (a : Csr) (mass : Mass) (l : Lent) (e : Sound ≡ first (transposed_checks a mass l)) where
  pub before_sound : Sound ≡ first (before_transposing a mass l)
  unfolding transposed_checks
  before_sound = (sound_append (before_transposing a mass l) _ e).0

  pub transposed_norm_finite : is_finite (row_sum_norm (transpose (quotients a mass))) ≡ true
  unfolding transposed_checks
  transposed_norm_finite = norm_finite (transpose (quotients a mass)) (sound_append (before_transposing a mass l) _ e).1

  -- the norm is finite and not negative: 23 never occurs (document 02, N14)
  pub transposed_norm_in_range : (is_finite (row_sum_norm (transpose (quotients a mass))) ≡ true) × T (nonneg (row_sum_norm (transpose (quotients a mass))))
  transposed_norm_in_range = (transposed_norm_finite, norm_nonneg (transpose (quotients a mass)) (column_sums_nonneg (transposable a mass l before_sound)))

  pub transposed_passed : Passed (transpose (quotients a mass)) none (transposed_shape a mass)
  unfolding quotients quotient_need
  transposed_passed =
      let t = transposable a mass l before_sound in
      record {
        norm = refl;
        finite = transposed_norm_finite;
        valid = transposed_valid t;
        quotients_are = transposed_valid t;
        divided = tt;
        room = omega arith;
        light = need_light a mass t.valid;
      }

  -- the row that is answered: the first of the transposed rows with the largest sum
  pub transposed_largest_row : FirstLargest (transpose (quotients a mass))
  transposed_largest_row =
      let t = transposable a mass l before_sound in
      first_largest (transpose (quotients a mass)) (column_sums_nonneg t) (transposed_valid t).some

-- what the answer tells
module _ (a : Csr) (mass : Mass) (l : Lent) {r : MatrixAnswer} (e : r ≡ transposed_answer a mass l) where
  pub transposed_refusal_told : {k : Reason} {x : Float} → r ≡ Refused k x → Refused k x ≡ first (transposed_checks a mass l)
  unfolding transposed_answer
  transposed_refusal_told d = refusal_of _ _ (sym d ∙ e)

  pub transposed_norm_told : {x : Float} {i : ℕ} → r ≡ Norm x i → (Sound ≡ first (transposed_checks a mass l)) × (x ≡ row_sum_norm (transpose (quotients a mass)))
  unfolding transposed_answer
  transposed_norm_told d = norm_of _ _ (sym d ∙ e)
