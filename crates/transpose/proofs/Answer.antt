-- The answer of `check_transposed`, and what it leaves in the buffers. Assumes nothing.
use mathlib.Core.List.{List}
use mathlib.Core.Option.{none, some}
use mathlib.Core.Path.{◌≡◌, refl, sym, ap, ◌∙◌, subst}
use Prim.Native.Nat.{ℕ, ◌+◌, ◌≤◌}
use native.Mathlib.Omega.{arith}
use lib.ListN.{length, take}
use lib.Ieee.{Float}
use Rattle.lists.specs.Window.{window, splice}
use Rattle.lists.proofs.Window.{length_splice, window_splice_same}
use Rattle.checks.specs.First.{first}
use Rattle.checks.specs.First.{Checked}
use Rattle.general_operator.specs.Csr.{Csr, csr, Valid}
use Rattle.generator_action.specs.Mass.{Mass, normalise, quotients, norm_checks}
use Rattle.generator_action.specs.Known.{Finite, Answered}
use Rattle.generator_action.specs.Answer.{MatrixAnswer}
use Rattle.generator_action.proofs.Ways.{answered_up, answered_on}
use Rattle.transpose.specs.Transpose.{Buffers, buffers, lengths, transpose, before_transposing, transposed_checks, filled, buffers_after, transposed_answer}
use Rattle.transpose.proofs.Passed.{Transposable, transposable, transposed_valid, transposed_finite, transposed_length}
use Rattle.checks.specs.Reasons.{Sound, Refused}
use Rattle.checks.specs.declared.Reason.{Reason}

take_written : {A : Type 0} (n : ℕ) (vs w : List A) → length vs ≡ n → n ≤ length w → take n (splice 0 vs w) ≡ vs
unfolding window
take_written n vs w e h = window_splice_same 0 n vs w e (omega arith)

same_rows : (a : Csr) (mass : Mass) → (transpose (quotients a mass)).n ≡ a.n
unfolding transpose quotients normalise
same_rows a none = refl
same_rows a (some m) = refl

module _ (a : Csr) (mass : Mass) (b : Buffers) where
  -- up to 30: nothing is written
  pub refused_answer : {s : Checked} {k : Reason} {x : Float} → s ≡ Refused k x → s ≡ first (before_transposing a mass (lengths b)) → Refused k x ≡ transposed_answer a mass (lengths b)
  unfolding transposed_answer transposed_checks
  refused_answer e d = (answered_up {q = transpose (quotients a mass)} (before_transposing a mass (lengths b)) (norm_checks (transpose (quotients a mass))) e d).is

  pub refused_buffers : {s : Checked} {k : Reason} {x : Float} → s ≡ Refused k x → s ≡ first (before_transposing a mass (lengths b)) → b ≡ buffers_after a mass b
  unfolding buffers_after filled
  refused_buffers e d = rw (← d, e) refl

  abbrev q : Csr
  q = transpose (quotients a mass)

  -- past it: the transposed quotients are
  pub record Written (ss cs : List ℕ) (vs : List Float) : Type 0 where
    pub starts : ss ≡ splice 0 q.starts b.starts
    pub columns : cs ≡ splice 0 q.columns b.columns
    pub values : vs ≡ splice 0 q.entries b.values

  pub sound_passed : {s : Checked} → s ≡ Sound → s ≡ first (before_transposing a mass (lengths b)) → Transposable a mass (lengths b)
  sound_passed e d = transposable a mass (lengths b) (sym e ∙ d)

-- the fronts of the buffers
abbrev front : Csr → List ℕ → List ℕ → List Float → Csr
front a ss cs vs = csr a.n (take (a.n + 1) ss) (take (length a.entries) cs) (take (length a.entries) vs)

module _ {a : Csr} {mass : Mass} {b : Buffers} {ss cs : List ℕ} {vs : List Float} (t : Transposable a mass (lengths b)) (w : Written a mass b ss cs vs) where
  abbrev p : Csr
  p = transpose (quotients a mass)

  pub written_starts : a.n + 1 ≤ length ss
  written_starts = omega (arith, ap length w.starts, length_splice 0 p.starts b.starts, t.room.starts)

  pub written_columns : length a.entries ≤ length cs
  written_columns = omega (arith, ap length w.columns, length_splice 0 p.columns b.columns, t.room.columns)

  pub written_values : length a.entries ≤ length vs
  written_values = omega (arith, ap length w.values, length_splice 0 p.entries b.values, t.room.values)

  pub fronts : front a ss cs vs ≡ p
  fronts =
      let v = transposed_valid t in
      let l = transposed_length t in
      let r = sym (same_rows a mass) in
      let es = ap (take (a.n + 1)) w.starts ∙ take_written (a.n + 1) p.starts b.starts (omega (arith, v.rows)) (omega (arith, t.room.starts)) in
      let ec = ap (take (length a.entries)) w.columns ∙ take_written (length a.entries) p.columns b.columns (v.paired ∙ l) t.room.columns in
      let ev = ap (take (length a.entries)) w.values ∙ take_written (length a.entries) p.entries b.values l t.room.values in
      λ i. csr (r i) (es i) (ec i) (ev i)

  pub fronts_valid : Valid (front a ss cs vs)
  fronts_valid = subst Valid (sym fronts) (transposed_valid t)

  pub fronts_finite : Finite (front a ss cs vs)
  fronts_finite = subst (λ (x : Csr). Finite x) (sym fronts) (transposed_finite t)

module _ {a : Csr} {mass : Mass} {b : Buffers} {s : Checked} (e : s ≡ Sound) (d : s ≡ first (before_transposing a mass (lengths b))) {ss cs : List ℕ} {vs : List Float} (w : Written a mass b ss cs vs) where
  -- 11 of the transposed matrix is the last check
  pub sound_answer : {r : MatrixAnswer} → Answered (front a ss cs vs) (norm_checks (front a ss cs vs)) r → r ≡ transposed_answer a mass (lengths b)
  unfolding transposed_answer transposed_checks
  sound_answer {r} h = (answered_on (before_transposing a mass (lengths b)) e d (subst (λ (x : Csr). Answered x (norm_checks x) r) (fronts (sound_passed a mass b e d) w) h)).is

  pub sound_buffers : buffers ss cs vs ≡ buffers_after a mass b
  unfolding buffers_after filled
  sound_buffers = rw (← d, e) (λ i. buffers (w.starts i) (w.columns i) (w.values i))
