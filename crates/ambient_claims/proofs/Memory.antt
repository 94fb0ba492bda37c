-- The working memory at the end, and a soak that no record has changed. Assumes nothing.
use mathlib.Core.Path.{◌≡◌, refl, sym, ap, ◌∙◌}
use mathlib.Core.List.{List, []}
use Prim.Native.Nat.{ℕ, zero, suc, ◌+◌, ◌≤◌}
use native.Mathlib.Omega.{arith}
use lib.ListN.{length, replicate}
use lib.Ieee.{Float}
use Rattle.lists.specs.Loop.{tabulate}
use Rattle.lists.proofs.Window.{length_splice, splice_nil}
use Rattle.doubles.specs.F64.{+0}
use Rattle.checks.specs.First.{first}
use Rattle.checks.specs.First.{Checked}
use Rattle.generator_action.specs.Generator.{Generator}
use Rattle.combination.specs.Call.{ends, cleared}
use Rattle.ambient_checks.specs.Log.{Log}
use Rattle.ambient_turns.specs.declared.AmbientAnswer.{AmbientAnswer}
use Rattle.ambient_turns.specs.declared.AmbientAnswer.TheVariants.{Refusal}
use Rattle.ambient_turns.specs.Ambient.{ambient_checks, ended, Results, places_of, Logging, written, unless_log_refused, ambient}
use Rattle.combination.proofs.Cleared.{cleared_less}
use Rattle.ambient_claims.specs.Ran.{record_need, Ran, NanAt, RefusedAt}
use Rattle.ambient_claims.proofs.Answers.{whole, refused_at}
use Rattle.checks.specs.Reasons.{refusal, Refused}
use Rattle.std.specs.Prelude.{Ok, Err}
use Rattle.checks.specs.declared.Reason.{Reason}

module _ (g : Generator) (log : Log) (start load : List Float) (node : ℕ) (output memory : List Float) where
  -- ---- after one record with a result or more it is cleared as far as a record needs
  pub memory_ran : (i : ℕ) (f o m xs : List Float) → Ran g log start load node output memory (suc i) f o m xs → m ≡ cleared (record_need g) memory
  unfolding Ran
  memory_ran zero f o m xs r = r.memory_is ∙ ap (cleared (record_need g)) r.earlier.2
  memory_ran (suc i) f o m xs r =
      r.memory_is
      ∙ ap (cleared (record_need g)) (memory_ran i r.field r.out r.lent r.shown r.earlier)
      ∙ cleared_less (record_need g) (record_need g) memory (omega arith)

  -- and after a NaN temperature
  pub memory_nan : (i : ℕ) (o m xs : List Float) → NanAt g log start load node output memory i o m xs → m ≡ cleared (record_need g) memory
  unfolding Ran
  memory_nan zero o m xs c = c.memory_is ∙ ap (cleared (record_need g)) c.ran.2
  memory_nan (suc i) o m xs c =
      c.memory_is
      ∙ ap (cleared (record_need g)) (memory_ran i c.field c.out c.lent xs c.ran)
      ∙ cleared_less (record_need g) (record_need g) memory (omega arith)

  -- a record that ran had room, and so has every later one
  pub room_ran : (i : ℕ) (f o m xs : List Float) → Ran g log start load node output memory (suc i) f o m xs → record_need g ≤ length m
  unfolding Ran cleared
  room_ran i f o m xs r = omega (arith, ap length r.memory_is, length_splice 0 (replicate (record_need g) +0) r.lent, r.ran.1)

-- ---- with no record: output, memory and slices are as they were
module _ (g : Generator) (log : Log) (start load : List Float) (W node : ℕ) (output memory : List Float) (r : Results) where
  abbrev left : Logging
  left = whole g log start load W node output memory r

  abbrev untouched_by : Reason → Float → ℕ → Logging
  untouched_by k x j = record { call = ends (Refusal (refusal k x) j) output memory; results = r }

  none_written : (a : AmbientAnswer) → written W r (ended a output memory []) ≡ record { call = ends a output memory; results = r }
  unfolding written tabulate
  none_written a =
      λ i. record { call = ends a output memory; results = record { temperatures = splice_nil 0 r.temperatures i; largest = splice_nil 0 r.largest i; smallest = splice_nil 0 r.smallest i } }

  by_checks : {k : Reason} {x : Float} → first (ambient_checks g log start load W node (length output) (places_of r)) ≡ Refused k x → left ≡ untouched_by k x 0
  unfolding ambient unless_log_refused
  by_checks e = rw e refl

  pub untouched : (k : Reason) (x : Float) (j : ℕ) → left.call.answer ≡ Refusal (refusal k x) j → j ≤ 1 → left ≡ untouched_by k x j
  unfolding Ran
  untouched k x j e l = go (first (ambient_checks g log start load W node (length output) (places_of r))) refl
    where
      refusal_all : {k k' : Reason} {x x' : Float} {i i' : ℕ} → Refusal (refusal k x) i ≡ Refusal (refusal k' x') i' → untouched_by k x i ≡ untouched_by k' x' i'
      refusal_all e = ap (λ (a : AmbientAnswer). record { call = ends a output memory; results = r }) e

      go : (c : Checked) → first (ambient_checks g log start load W node (length output) (places_of r)) ≡ c → left ≡ untouched_by k x j
      go (Err r) h = by_checks h ∙ refusal_all (sym (ap (λ (y : Logging). y.call.answer) (by_checks h)) ∙ e)
      go (Ok _) h =
          let R = refused_at g log start load W node output memory r (sym h) k x j left.call.output left.call.memory (λ i. ends (e i) left.call.output left.call.memory) in
          reach R.0 R.1.0 R.1.1.0 R.1.1.1.0 R.1.1.1.1
        where
          reach : (i : ℕ) (xs : List Float) → j ≡ i + 1 → RefusedAt g log start load node output memory i k x left.call.output left.call.memory xs → left ≡ written W r (ended (Refusal (refusal k x) j) left.call.output left.call.memory xs) → left ≡ untouched_by k x j
          reach zero xs n c h = h ∙ (λ i. written W r (ended (Refusal (refusal k x) j) ((c.output_is ∙ c.ran.1) i) ((c.memory_is ∙ c.ran.2) i) (c.ran.3 i))) ∙ none_written (Refusal (refusal k x) j)
          reach (suc i) xs n c h = absurd (omega (arith, n, l))
