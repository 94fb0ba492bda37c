-- A soak under a changing ambient level answers as its single calls in a row do. Assumes nothing.
use mathlib.Core.Path.{◌≡◌, refl, sym, ap, ◌∙◌}
use mathlib.Core.Bool.{true}
use mathlib.Core.List.{List}
use Prim.Native.Nat.{ℕ, zero, suc, ◌+◌, ◌-◌, ◌<◌}
use native.Mathlib.Omega.{arith}
use lib.ListN.{length}
use lib.Ieee.{Float, is_nan}
use Rattle.lists.specs.Walk.{Turn, on, out}
use Rattle.checks.specs.First.{first}
use Rattle.generator_action.specs.Generator.{Generator}
use Rattle.combination.specs.Call.{Call, ends, cleared}
use Rattle.ambient_checks.specs.Log.{Log, records_of}
use Rattle.ambient_turns.specs.declared.AmbientAnswer.{AmbientAnswer}
use Rattle.ambient_turns.specs.declared.AmbientAnswer.TheVariants.{Refusal, NotANumber, Logged}
use Rattle.ambient_turns.specs.Ambient.{Progress, Ended, ended, record_step, begun, concluded, ambient_checks, Results, places_of, Logging, written, unless_log_refused, ambient}
use Rattle.stages_claims.proofs.Walks.{next, walk_next, stays, EndedAt, ended_at}
use Rattle.ambient_claims.specs.Ran.{record_need, Run, Complete, NanAt, RefusedAt}
use Rattle.ambient_claims.proofs.Reached.{stands, call, temperature, checked, RanTo, Outcome, refused, nan, result, outcome, refused_step, nan_step, reached, standing, back}
use Rattle.checks.specs.Reasons.{refusal, Sound, Refused}
use Rattle.checks.specs.declared.Reason.{Reason}
use Rattle.checks.specs.declared.Refusal.{Refusal as Why}

-- ---- answers told apart
named : AmbientAnswer → ℕ
named (Refusal e i) = 0
named (NotANumber i) = 1
named Logged = 2

pub number_in : AmbientAnswer → ℕ
number_in (Refusal e i) = i
number_in (NotANumber i) = i
number_in Logged = 0

pub refusal_is : {k k' : Reason} {x x' : Float} {i i' : ℕ} → Refusal (refusal k x) i ≡ Refusal (refusal k' x') i' → (k ≡ k') × (x ≡ x')
refusal_is e = (ap (λ (r : Why). r.reason) (why e), ap (λ (r : Why). r.value) (why e))
  where
    why : {r r' : Why} {i i' : ℕ} → Refusal r i ≡ Refusal r' i' → r ≡ r'
    why a = cc

module _ (g : Generator) (log : Log) (start load : List Float) (W node : ℕ) (output memory : List Float) (r : Results) where
  abbrev K : ℕ
  K = records_of log

  abbrev pub whole : Logging
  whole = ambient g log start load W node output memory r

  -- the answer a, the output o and the memory m, and in the three slices the temperatures xs with their extremes
  abbrev pub Leaves : AmbientAnswer → List Float → List Float → List Float → Type 0
  Leaves a o m xs = whole ≡ written W r (ended a o m xs)

  abbrev stand : ℕ → Turn Progress Ended
  stand = stands g log start load node output memory

  -- ---- how the records end
  pub data End : Type 0 where
    all : (p : Progress) → RanTo g log start load node output memory K p → concluded (stand K) ≡ ended Logged p.output p.memory p.temperatures → End
    at_nan : (i : ℕ) (p : Progress) → i < K → RanTo g log start load node output memory i p → Run g log start load node output memory i p.field p.output p.memory → is_nan (temperature g log start load node output memory i p) ≡ true
        → concluded (stand K) ≡ ended (NotANumber (i + 1)) (call g log start load node output memory i p).output (cleared (record_need g) p.memory) p.temperatures
        → End
    at_refusal : (i : ℕ) (k : Reason) (x : Float) (p : Progress) → i < K → RanTo g log start load node output memory i p → checked g log start load node output memory i p ≡ Refused k x
        → concluded (stand K) ≡ ended (Refusal (refusal k x) (i + 1)) p.output p.memory p.temperatures
        → End

  differ : {x : Progress} {y : Ended} → ◌≡◌ {A = Turn Progress Ended} (on x) (out y) → zero ≡ 1
  differ e = cc

  same_end : {x y : Ended} → ◌≡◌ {A = Turn Progress Ended} (out x) (out y) → x ≡ y
  same_end e = cc

  pub end : End
  unfolding concluded
  end = go (stand K) refl
    where
      by_outcome : (e : Ended) → stand K ≡ out e → (a : EndedAt (record_step g log load node) (begun start output memory) K e) → Outcome g log start load node output memory a.turn a.state → End
      by_outcome e d a (refused k x b c) = at_refusal a.turn k x a.state a.below (reached g log start load node output memory a.turn a.state a.stood) b (ap concluded d ∙ sym (same_end (sym c ∙ a.ended)))
      by_outcome e d a (nan b c f) = at_nan a.turn a.state a.below (reached g log start load node output memory a.turn a.state a.stood) b c (ap concluded d ∙ sym (same_end (sym f ∙ a.ended)))
      by_outcome e d a (result b c f) = absurd (omega (arith, differ (sym f ∙ a.ended)))

      go : (t : Turn Progress Ended) → stand K ≡ t → End
      go (on p) d = all p (reached g log start load node output memory K p d) (ap concluded d)
      go (out e) d = let a = ended_at (record_step g log load node) (begun start output memory) K e d in by_outcome e d a (outcome g log start load node output memory a.turn a.state)

  -- an end at record i + 1 is the end of all
  stopped : (i : ℕ) (p : Progress) (e : Ended) → i < K → stand i ≡ on p → record_step g log load node i p ≡ out e → concluded (stand K) ≡ e
  unfolding concluded
  stopped i p e l d s =
      let h = stays (record_step g log load node) (on (begun start output memory)) (suc i) (K - suc i) (walk_next (record_step g log load node) (on (begun start output memory)) i ∙ ap (next (record_step g log load node) i) d ∙ s) in
      let n : suc i + (K - suc i) ≡ K = omega (arith, l) in
      ap concluded (ap stand (sym n) ∙ h)

  -- ---- where the checks before any record pass
  module _ (sound : Sound ≡ first (ambient_checks g log start load W node (length output) (places_of r))) where
    whole_is : whole ≡ written W r (concluded (stand K))
    unfolding ambient unless_log_refused
    whole_is = rw (← sound) refl

    pub leaves : {e : Ended} → concluded (stand K) ≡ e → whole ≡ written W r e
    leaves h = whole_is ∙ ap (written W r) h

    call_of : {e : Ended} {c : Call AmbientAnswer} → concluded (stand K) ≡ e → whole.call ≡ c → e.call ≡ c
    unfolding written
    call_of h f = sym (ap (λ (l : Logging). l.call) (leaves h)) ∙ f

    answer_of : {c d : Call AmbientAnswer} → c ≡ d → c.answer ≡ d.answer
    answer_of e = ap (λ (c : Call AmbientAnswer). c.answer) e

    output_of : {c d : Call AmbientAnswer} → c ≡ d → d.output ≡ c.output
    output_of e = ap (λ (c : Call AmbientAnswer). c.output) (sym e)

    memory_of : {c d : Call AmbientAnswer} → c ≡ d → d.memory ≡ c.memory
    memory_of e = ap (λ (c : Call AmbientAnswer). c.memory) (sym e)

    moved : (xs : List Float) {a b : AmbientAnswer} {o o' m m' : List Float} → ends a o m ≡ ends b o' m' → whole ≡ written W r (ended a o m xs) → Leaves b o' m' xs
    moved xs e h = h ∙ ap (λ (c : Call AmbientAnswer). written W r (record { call = c; temperatures = xs })) e

    -- ---- all done
    pub logged_ran : (o m : List Float) → whole.call ≡ ends Logged o m → (xs : List Float) × (Complete g log start load node output memory o m xs × Leaves Logged o m xs)
    unfolding named
    logged_ran o m e = go end
      where
        go : End → (xs : List Float) × (Complete g log start load node output memory o m xs × Leaves Logged o m xs)
        go (all p h c) = let f = call_of c e in (p.temperatures, (record { field = p.field; out = p.output; lent = p.memory; ran = h; output_is = output_of f; memory_is = memory_of f }, moved p.temperatures f (leaves c)))
        go (at_nan i p l h u v c) = absurd (omega (arith, ap named (answer_of (call_of c e))))
        go (at_refusal i k x p l h u c) = absurd (omega (arith, ap named (answer_of (call_of c e))))

    pub ran_logged : (o m xs : List Float) → Complete g log start load node output memory o m xs → Leaves Logged o m xs
    unfolding concluded
    ran_logged o m xs c = leaves (ap concluded (back g log start load node output memory K c.field c.out c.lent xs c.ran) ∙ (λ j. ended Logged (sym c.output_is j) (sym c.memory_is j) xs))

    -- ---- a NaN temperature
    pub nan_at : (j : ℕ) (o m : List Float) → whole.call ≡ ends (NotANumber j) o m → (i : ℕ) × ((xs : List Float) × ((j ≡ i + 1) × (NanAt g log start load node output memory i o m xs × Leaves (NotANumber j) o m xs)))
    unfolding named number_in
    nan_at j o m e = go end
      where
        go : End → (i : ℕ) × ((xs : List Float) × ((j ≡ i + 1) × (NanAt g log start load node output memory i o m xs × Leaves (NotANumber j) o m xs)))
        go (all p h c) = absurd (omega (arith, ap named (answer_of (call_of c e))))
        go (at_nan i p l h u v c) =
            let f = call_of c e in
            (i, (p.temperatures, (sym (ap number_in (answer_of f)), (record { reached = l; field = p.field; out = p.output; lent = p.memory; ran = h; run = u; nan = v; output_is = output_of f; memory_is = memory_of f }, moved p.temperatures f (leaves c)))))
        go (at_refusal i k x p l h u c) = absurd (omega (arith, ap named (answer_of (call_of c e))))

    pub at_nan_leaves : (i : ℕ) (o m xs : List Float) → NanAt g log start load node output memory i o m xs → Leaves (NotANumber (i + 1)) o m xs
    at_nan_leaves i o m xs c =
        let p = standing g log start load node output memory c.field c.out c.lent xs in
        leaves
        (stopped i p _ c.reached (back g log start load node output memory i c.field c.out c.lent xs c.ran) (nan_step g log start load node output memory i p c.run c.nan)
        ∙ (λ j. ended (NotANumber (i + 1)) (sym c.output_is j) (sym c.memory_is j) xs))

    -- ---- a refusal
    pub refused_at : (k : Reason) (x : Float) (j : ℕ) (o m : List Float) → whole.call ≡ ends (Refusal (refusal k x) j) o m → (i : ℕ) × ((xs : List Float) × ((j ≡ i + 1) × (RefusedAt g log start load node output memory i k x o m xs × Leaves (Refusal (refusal k x) j) o m xs)))
    unfolding named number_in
    refused_at k x j o m e = go end
      where
        go : End → (i : ℕ) × ((xs : List Float) × ((j ≡ i + 1) × (RefusedAt g log start load node output memory i k x o m xs × Leaves (Refusal (refusal k x) j) o m xs)))
        go (all p h c) = absurd (omega (arith, ap named (answer_of (call_of c e))))
        go (at_nan i p l h u v c) = absurd (omega (arith, ap named (answer_of (call_of c e))))
        go (at_refusal i k' x' p l h u c) =
            let f = call_of c e in
            let q = refusal_is (answer_of f) in
            (i, (p.temperatures, (sym (ap number_in (answer_of f)), (record { reached = l; field = p.field; out = p.output; lent = p.memory; ran = h; refused = u ∙ (λ y. Refused (q.0 y) (q.1 y)); output_is = output_of f; memory_is = memory_of f }, moved p.temperatures f (leaves c)))))

    pub at_refused_leaves : (i : ℕ) (k : Reason) (x : Float) (o m xs : List Float) → RefusedAt g log start load node output memory i k x o m xs → Leaves (Refusal (refusal k x) (i + 1)) o m xs
    at_refused_leaves i k x o m xs c =
        let p = standing g log start load node output memory c.field c.out c.lent xs in
        leaves
        (stopped i p _ c.reached (back g log start load node output memory i c.field c.out c.lent xs c.ran) (refused_step g log start load node output memory i p c.refused)
        ∙ (λ j. ended (Refusal (refusal k x) (i + 1)) (sym c.output_is j) (sym c.memory_is j) xs))
