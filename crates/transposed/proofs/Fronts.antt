-- What a transposed job hands to the forward one: the fronts of the buffers are the transposed quotients. Assumes nothing.
use mathlib.Core.List.{List}
use mathlib.Core.Option.{none}
use mathlib.Core.Path.{◌≡◌, refl, sym, ap, ◌∙◌, subst}
use Prim.Native.Nat.{ℕ, ◌+◌, ◌≤◌}
use lib.ListN.{length, take}
use lib.Ieee.{Float}
use Rattle.checks.specs.First.{first}
use Rattle.general_operator.specs.Csr.{Csr, csr}
use Rattle.generator_action.specs.Mass.{Mass, given, quotients, quotient_need}
use Rattle.generator_action.specs.Generator.{Generator}
use Rattle.generator_action.specs.Known.{Passed}
use Rattle.generator_action.specs.declared.Shape.{Shape}
use Rattle.transpose.specs.Transpose.{Buffers, buffers, lengths, transposed_checks, filled, buffers_after, transposed}
use Rattle.transpose.proofs.Passed.{Transposable, transposable, before_sound, transposed_shape, transposed_passed}
use Rattle.transpose.proofs.Answer.{Written, written_starts, written_columns, written_values, fronts}
use Rattle.combination.specs.Call.{Call}
use Rattle.taylor_schedule.specs.Inner.{after_checks}
use Rattle.transposed.specs.Transposed.{lends}
use Rattle.transposed_shape.specs.Inner.{shape_answer}
use Rattle.transposed_shape.specs.Inner.{ShapeAnswer}
use Rattle.transposed_shape.proofs.Answers.{refused_told, passed_told}
use Rattle.checks.specs.Reasons.{Sound, Refused}
use Rattle.std.specs.Prelude.{Ok}
use Rattle.checks.specs.declared.Reason.{Reason}

-- a call that passes the refusal up
pub over_refusal : (a : Csr) (mass : Mass) (b : Buffers) {bs : Buffers} {A : Type 0} {r : ShapeAnswer} {k : Reason} {x : Float} {c d : Call A}
    → (r ≡ shape_answer a mass (first (transposed_checks a mass (lengths b)))) × (bs ≡ buffers_after a mass b) → r ≡ Refused k x → (Refused k x ≡ first (transposed_checks a mass (lengths b)) → c ≡ d)
    → lends c bs ≡ lends d (buffers_after a mass b)
over_refusal a mass b e taken f = λ i. lends (f (refused_told a mass _ (sym taken ∙ e.0)) i) (e.1 i)

-- ---- where they passed: what the call knows of its buffers and of the shape
pub record Handed (a : Csr) (mass : Mass) (b : Buffers) (ss cs : List ℕ) (vs : List Float) (g : Shape) : Type 0 where
  pub sound : Sound ≡ first (transposed_checks a mass (lengths b))
  pub shape : g ≡ transposed_shape a mass
  pub after : buffers ss cs vs ≡ buffers_after a mass b

pub handed : (a : Csr) (mass : Mass) (b : Buffers) {ss cs : List ℕ} {vs : List Float} {r : ShapeAnswer} {g : Shape} → (r ≡ shape_answer a mass (first (transposed_checks a mass (lengths b)))) × (buffers ss cs vs ≡ buffers_after a mass b) → r ≡ Ok g
    → Handed a mass b ss cs vs g
handed a mass b e taken = let p = passed_told a mass _ (sym taken ∙ e.0) in record { sound = p.0; shape = p.1; after = e.1 }

module _ {a : Csr} {mass : Mass} {b : Buffers} {ss cs : List ℕ} {vs : List Float} {g : Shape} (h : Handed a mass b ss cs vs g) where
  passed : Transposable a mass (lengths b)
  passed = transposable a mass (lengths b) (before_sound a mass (lengths b) h.sound)

  written : Written a mass b ss cs vs
  unfolding buffers_after filled
  written =
      let e : buffers ss cs vs ≡ filled Sound (transposed a mass (lengths b)).matrix b = h.after ∙ rw (← (before_sound a mass (lengths b) h.sound)) refl in
      record { starts = ap (λ (x : Buffers). x.starts) e; columns = ap (λ (x : Buffers). x.columns) e; values = ap (λ (x : Buffers). x.values) e }

  pub rows_few : a.n ≤ 1000000
  rows_few = passed.valid.few

  pub starts_fit : a.n + 1 ≤ length ss
  starts_fit = written_starts passed written

  pub columns_fit : length a.entries ≤ length cs
  columns_fit = written_columns passed written

  pub values_fit : length a.entries ≤ length vs
  values_fit = written_values passed written

  abbrev front : Csr
  front = csr g.n (take (a.n + 1) ss) (take (length a.entries) cs) (take (length a.entries) vs)

  pub front_passed : (m : List Float) → Passed front (given g.with_mass m) g
  front_passed m = rw h.shape (subst (λ (q : Csr). Passed q none (transposed_shape a mass)) (sym (fronts passed written)) (transposed_passed a mass (lengths b) h.sound))

  generator_is : (m : List Float) → after_checks (transposed_checks a mass (lengths b)) front (given g.with_mass m) g ≡ transposed a mass (lengths b)
  unfolding quotients
  generator_is m = rw h.shape (λ i. record { checks = transposed_checks a mass (lengths b); matrix = fronts passed written i; stored = quotient_need a mass })

  -- a call over the fronts is the call over the transposed generator
  pub over_fronts : {A : Type 0} (f : Generator → Call A) (m : List Float) {c : Call A} → c ≡ f (after_checks (transposed_checks a mass (lengths b)) front (given g.with_mass m) g)
      → lends c (buffers ss cs vs) ≡ lends (f (transposed a mass (lengths b))) (buffers_after a mass b)
  over_fronts f m e = λ i. lends ((e ∙ ap f (generator_is m)) i) (h.after i)
