-- From record to record. Assumes nothing.
use mathlib.Core.Path.{◌≡◌, refl, sym, ap, ◌∙◌, subst}
use mathlib.Core.Logic.{⊎_elim}
use types.Run.{OneOf}
use denote.Enum.Declared.{tag_of}
use mathlib.Core.Bool.{true, false}
use mathlib.Core.List.{List, [], ◌∷◌, ◌++◌}
use Prim.Native.Nat.{ℕ, ◌+◌, ◌-◌, ◌≤◌, ◌<◌}
use native.Mathlib.Omega.{arith}
use native.Mathlib.Numerals.{add-one}
use lib.Dec.{eqb}
use lib.ListN.{length, set, take, length-set}
use lib.Seq.{take-suc, take-set-le, get_or-set_same}
use lib.Ieee.{Float, nan, is_nan}
use Rattle.lists.specs.Walk.{Turn, on, walk}
use Rattle.lists.specs.Window.{window, splice}
use Rattle.lists.proofs.Walk.{Left, left_out, left_none}
use Rattle.lists.proofs.Window.{length_window, splice_snoc}
use Rattle.doubles.specs.F64.{at}
use Rattle.generator_action.specs.Generator.{Generator}
use Rattle.combination.specs.Call.{Call, ends}
use Rattle.taylor_job.specs.Calls.{TaylorAnswer}
use Rattle.taylor_job.specs.declared.TaylorReport.{TaylorReport}
use Rattle.ambient_record.specs.Record.{record_call}
use Rattle.ambient_checks.specs.Log.{Log}
use Rattle.combination.specs.Combination.{field_of}
use Rattle.combination.proofs.Further.{later_field}
use Rattle.ambient_turns.specs.declared.AmbientAnswer.{AmbientAnswer}
use Rattle.ambient_turns.specs.declared.AmbientAnswer.TheVariants.{Refusal, NotANumber, Logged}
use Rattle.ambient_turns.specs.contracts.AmbientAnswer.{the_type}
use Rattle.ambient_turns.specs.Ambient.{Progress, Ended, ended, shown, settle, record_step, concluded}
use Rattle.ambient_turns.specs.Inner.{turn_at, results_of, shown_in}
use Rattle.checks.specs.Reasons.{refusal, Refused}
use Rattle.std.specs.Prelude.{Ok}
use Rattle.checks.specs.declared.Reason.{Reason}

-- a refusal and a NaN temperature are no result
pub not_logged : (r : AmbientAnswer) → OneOf (0 ∷ 1 ∷ []) (tag_of the_type r) → r ≡ Logged → ⊥
not_logged r h e = ⊎_elim (λ (x : 2 ≡ 0). absurd (omega (arith, x))) (λ (x : 2 ≡ 1). absurd (omega (arith, x))) (subst (λ (a : AmbientAnswer). OneOf (0 ∷ 1 ∷ []) (tag_of the_type a)) e h)

-- ---- the temperatures in their slice
shown_more : (i : ℕ) (t : List Float) (y : Float) → i < length t → window 0 (i + 1) (set t i y) ≡ window 0 i t ++ (y ∷ [])
unfolding window
shown_more i t y l =
    ap (λ (k : ℕ). take k (set t i y)) (add-one i)
    ∙ take-suc (set t i y) i nan (simp length-set (omega arith))
    ∙ (λ j. take-set-le i t i y (omega arith) j ++ (get_or-set_same t i y nan l j ∷ []))

grown : (i : ℕ) (t t₀ : List Float) (y : Float) → i < length t → t ≡ splice 0 (window 0 i t) t₀ → set t i y ≡ splice 0 (window 0 (i + 1) (set t i y)) t₀
grown i t t₀ y l e =
    let n : 0 + length (window 0 i t) ≡ i = omega (arith, length_window 0 i t (omega arith)) in
    ap (λ (w : List Float). set w i y) e
    ∙ ap (λ (k : ℕ). set (splice 0 (window 0 i t) t₀) k y) (sym n)
    ∙ splice_snoc 0 (window 0 i t) t₀ y
    ∙ ap (λ (x : List Float). splice 0 x t₀) (sym (shown_more i t y l))

-- ---- what one record gives: its answer, how many records have a result, and the slice of the temperatures
abbrev pub Shown : ℕ → AmbientAnswer → List Float → List Float → Type 0
Shown i r t t' = (results_of r (i + 1) ≤ i + 1) × ((t₀ : List Float) → t ≡ splice 0 (window 0 i t) t₀ → t' ≡ splice 0 (shown_in r (i + 1) t') t₀)

abbrev pub Settled : ℕ → ℕ → TaylorAnswer → List Float → List Float → AmbientAnswer → List Float → Type 0
Settled node i a o t r t' = (memory : List Float) → turn_at r o o memory (shown_in r (i + 1) t') ≡ settle node i (window 0 i t) (ends a o memory) a

one_less : (i : ℕ) → i + 1 - 1 ≡ i
one_less i = omega arith

module _ (node i : ℕ) (o t : List Float) {a : TaylorAnswer} where
  pub refused_turn : {k : Reason} {x : Float} → a ≡ Refused k x → Settled node i a o t (Refusal (refusal k x) (i + 1)) t × Shown i (Refusal (refusal k x) (i + 1)) t t
  unfolding turn_at settle results_of
  refused_turn e = (λ memory. rw (e, one_less i) refl, (omega arith, λ t₀ h. rw (one_less i) h))

  pub nan_turn : {r : TaylorReport} → a ≡ Ok r → true ≡ is_nan (at o node) → Settled node i a o t (NotANumber (i + 1)) t × Shown i (NotANumber (i + 1)) t t
  unfolding turn_at settle shown results_of
  nan_turn e n = (λ memory. rw (e, ← n, one_less i) refl, (omega arith, λ t₀ h. rw (one_less i) h))

  pub shown_turn : {r : TaylorReport} → a ≡ Ok r → false ≡ is_nan (at o node) → i < length t → Settled node i a o t Logged (set t i (at o node)) × Shown i Logged t (set t i (at o node))
  unfolding turn_at settle shown results_of
  shown_turn e n l = (λ memory. rw (e, ← n, shown_more i t (at o node) l) refl, (omega arith, λ t₀ h. grown i t t₀ (at o node) l h))

pub shown_logged : {r : AmbientAnswer} (i : ℕ) {t : List Float} (t₀ : List Float) → r ≡ Logged → t ≡ splice 0 (shown_in r i t) t₀ → t ≡ splice 0 (window 0 i t) t₀
unfolding results_of
shown_logged i t₀ e h = rw e at h

-- ---- one turn of the loop
module _ (g : Generator) (log : Log) (load : List Float) (node : ℕ) (field : List Float) where
  -- before record i + 1
  abbrev pub progress : ℕ → List Float → List Float → List Float → Progress
  progress i output memory t = record { field = field_of (eqb i 0) field output; output = output; memory = memory; temperatures = window 0 i t }

  pub step_is : (i : ℕ) (out₀ w₀ t₀ : List Float) {a : TaylorAnswer} {out₁ w₁ : List Float} (t₁ : List Float) (r : AmbientAnswer)
      → ends a out₁ w₁ ≡ record_call g (at log.durations i) (at log.levels i) (field_of (eqb i 0) field out₀) load out₀ w₀
      → Settled node i a out₁ t₀ r t₁
      → turn_at r (field_of (eqb (i + 1) 0) field out₁) out₁ w₁ (shown_in r (i + 1) t₁) ≡ record_step g log load node i (progress i out₀ w₀ t₀)
  unfolding record_step
  step_is i out₀ w₀ t₀ {a} {out₁} {w₁} t₁ r e s =
      ap (λ (y : List Float). turn_at r y out₁ w₁ (shown_in r (i + 1) t₁)) (later_field (i + 1) field out₁ (omega arith))
      ∙ s w₁
      ∙ ap (λ (c : Call TaylorAnswer). settle node i (window 0 i t₀) c c.answer) e

  pub turn_on : {r : AmbientAnswer} (i : ℕ) (output memory t : List Float) → r ≡ Logged → turn_at r (field_of (eqb i 0) field output) output memory (shown_in r i t) ≡ on (progress i output memory t)
  unfolding turn_at results_of
  turn_on i output memory t e = rw e refl

-- ---- the ends of the loop
concluded_is : (r : AmbientAnswer) (field output memory t : List Float) → concluded (turn_at r field output memory t) ≡ ended r output memory t
unfolding concluded turn_at
concluded_is (Refusal r i) field output memory t = refl
concluded_is (NotANumber i) field output memory t = refl
concluded_is Logged field output memory t = refl

module _ {step : ℕ → Progress → Turn Progress Ended} {k i : ℕ} {o₀ : Turn Progress Ended} (field output memory t : List Float) where
  pub ended_early : (r : AmbientAnswer) → (r ≡ Logged → ⊥) → Left step k i o₀ (turn_at r field output memory (shown_in r i t)) → ended r output memory (shown_in r k t) ≡ concluded (walk step k 0 o₀)
  unfolding turn_at results_of concluded
  ended_early (Refusal e m) n h = ap concluded (left_out h _ refl)
  ended_early (NotANumber m) n h = ap concluded (left_out h _ refl)
  ended_early Logged n h = absurd (n refl)

  pub ended_last : (r : AmbientAnswer) → i ≡ k → Left step k i o₀ (turn_at r field output memory (shown_in r i t)) → ended r output memory (shown_in r k t) ≡ concluded (walk step k 0 o₀)
  ended_last r e h = rw (← e) (sym (concluded_is r field output memory (shown_in r i t))) ∙ ap concluded (left_none h (omega (arith, e)))

-- an end names its record, however many there are
pub same_results : (i k : ℕ) (r : AmbientAnswer) → (r ≡ Logged → ⊥) → results_of r i ≡ results_of r k
unfolding results_of
same_results i k (Refusal e m) n = refl
same_results i k (NotANumber m) n = refl
same_results i k Logged n = absurd (n refl)
