-- The records of a log one after the other: what stands after i of them. Assumes nothing.
use mathlib.Core.Path.{◌≡◌, refl, sym, ap, ◌∙◌}
use mathlib.Core.Bool.{Bool, true, false}
use mathlib.Core.List.{List, [], ◌∷◌, ◌++◌}
use Prim.Native.Nat.{ℕ, zero, suc, ◌+◌, ◌-◌}
use native.Mathlib.Omega.{arith}
use lib.ListN.{length}
use lib.Ieee.{Float, is_nan}
use Rattle.lists.specs.Walk.{Turn, on, out, walk}
use Rattle.doubles.specs.F64.{at}
use Rattle.checks.specs.First.{first}
use Rattle.checks.specs.First.{Checked}
use Rattle.generator_action.specs.Generator.{Generator}
use Rattle.combination.specs.Call.{Call, ends, cleared}
use Rattle.taylor_job.specs.Calls.{combination_checks}
use Rattle.taylor_job.specs.Calls.{TaylorAnswer}
use Rattle.ambient_checks.specs.Log.{Log}
use Rattle.ambient_turns.specs.declared.AmbientAnswer.TheVariants.{Refusal, NotANumber}
use Rattle.ambient_turns.specs.Ambient.{Progress, Ended, ended, shown, settle, record_step, begun}
use Rattle.ambient_record.specs.Record.{record_call}
use Rattle.stages_claims.proofs.Walks.{next, walk_next}
use Rattle.ambient_claims.specs.Ran.{Gave, record_need, vectors_at, call_at, Run, Next, Ran}
use Rattle.ambient_claims.proofs.Single.{Passed, refused_record, passed_record, ran_sound}
use Rattle.checks.specs.Reasons.{refusal, Sound, Refused}
use Rattle.std.specs.Prelude.{Ok, Err}
use Rattle.checks.specs.declared.Reason.{Reason}

module _ (g : Generator) (log : Log) (start load : List Float) (node : ℕ) (output memory : List Float) where
  abbrev pub stands : ℕ → Turn Progress Ended
  stands i = walk (record_step g log load node) i 0 (on (begun start output memory))

  abbrev pub call : ℕ → Progress → Call TaylorAnswer
  call i p = call_at g log start load node output memory i p.field p.output p.memory

  abbrev pub temperature : ℕ → Progress → Float
  temperature i p = at (call i p).output node

  abbrev pub checked : ℕ → Progress → Checked
  checked i p = first (combination_checks g (at log.durations i) 30 2 (vectors_at g log start load node output memory i p.field) (length p.output) (length p.memory - g.matrix.n))

  abbrev pub after : ℕ → Progress → Progress
  after i p = record { field = (call i p).output; output = (call i p).output; memory = cleared (record_need g) p.memory; temperatures = p.temperatures ++ (temperature i p ∷ []) }

  -- ---- what record i + 1 comes to
  pub data Outcome (i : ℕ) (p : Progress) : Type 0 where
    refused : (k : Reason) (x : Float) → checked i p ≡ Refused k x → record_step g log load node i p ≡ out (ended (Refusal (refusal k x) (i + 1)) p.output p.memory p.temperatures) → Outcome i p
    nan : Run g log start load node output memory i p.field p.output p.memory → is_nan (temperature i p) ≡ true
        → record_step g log load node i p ≡ out (ended (NotANumber (i + 1)) (call i p).output (cleared (record_need g) p.memory) p.temperatures)
        → Outcome i p
    result : Run g log start load node output memory i p.field p.output p.memory → is_nan (temperature i p) ≡ false → record_step g log load node i p ≡ on (after i p) → Outcome i p

  settled_by : (i : ℕ) (p : Progress) {c : Call TaylorAnswer} → record_call g (at log.durations i) (at log.levels i) p.field load p.output p.memory ≡ c → record_step g log load node i p ≡ settle node i p.temperatures c c.answer
  unfolding record_step
  settled_by i p e = ap (λ (c : Call TaylorAnswer). settle node i p.temperatures c c.answer) e

  gave_settled : (i : ℕ) (xs o m : List Float) (a : TaylorAnswer) → Gave a → settle node i xs (ends a o m) a ≡ shown (is_nan (at o node)) i (at o node) (ends a o m) xs
  unfolding settle
  gave_settled i xs o m (Err r) h = absurd h
  gave_settled i xs o m (Ok r) h = refl

  pub outcome : (i : ℕ) (p : Progress) → Outcome i p
  unfolding settle shown
  outcome i p = by_checks (checked i p) refl
    where
      D : Float
      D = at log.durations i

      L : Float
      L = at log.levels i

      by_number : (P : Passed g D L p.field load p.output p.memory) (t : Bool) → is_nan (temperature i p) ≡ t → Outcome i p
      by_number P true e =
          nan (P.gave, P.room) e
          (settled_by i p P.is ∙ gave_settled i p.temperatures (call i p).output (cleared (record_need g) p.memory) (call i p).answer P.gave
          ∙ ap (λ (b : Bool). shown b i (temperature i p) (ends (call i p).answer (call i p).output (cleared (record_need g) p.memory)) p.temperatures) e)
      by_number P false e =
          result (P.gave, P.room) e
          (settled_by i p P.is ∙ gave_settled i p.temperatures (call i p).output (cleared (record_need g) p.memory) (call i p).answer P.gave
          ∙ ap (λ (b : Bool). shown b i (temperature i p) (ends (call i p).answer (call i p).output (cleared (record_need g) p.memory)) p.temperatures) e)

      by_checks : (c : Checked) → checked i p ≡ c → Outcome i p
      by_checks (Err r) e = refused r.reason r.value e (settled_by i p (refused_record g D L p.field load p.output p.memory e))
      by_checks (Ok _) e = by_number (passed_record g D L p.field load p.output p.memory (sym e)) (is_nan (temperature i p)) refl

  -- ---- the outcome by what the single call says
  refused_not : {k : Reason} {x : Float} → Sound ≡ Refused k x → zero ≡ 1
  refused_not e = cc

  true_not : true ≡ false → zero ≡ 1
  true_not e = cc

  module _ (i : ℕ) (p : Progress) where
    pub refused_step : {k : Reason} {x : Float} → checked i p ≡ Refused k x → record_step g log load node i p ≡ out (ended (Refusal (refusal k x) (i + 1)) p.output p.memory p.temperatures)
    unfolding settle
    refused_step e = settled_by i p (refused_record g (at log.durations i) (at log.levels i) p.field load p.output p.memory e)

    module _ (r : Run g log start load node output memory i p.field p.output p.memory) where
      sound : Sound ≡ checked i p
      sound = ran_sound g (at log.durations i) (at log.levels i) p.field load p.output p.memory r.0 r.1

      pub nan_step : is_nan (temperature i p) ≡ true → record_step g log load node i p ≡ out (ended (NotANumber (i + 1)) (call i p).output (cleared (record_need g) p.memory) p.temperatures)
      nan_step e = go (outcome i p)
        where
          go : Outcome i p → record_step g log load node i p ≡ out (ended (NotANumber (i + 1)) (call i p).output (cleared (record_need g) p.memory) p.temperatures)
          go (refused k x a b) = absurd (omega (arith, refused_not (sound ∙ a)))
          go (nan a b c) = c
          go (result a b c) = absurd (omega (arith, true_not (sym e ∙ b)))

      pub result_step : is_nan (temperature i p) ≡ false → record_step g log load node i p ≡ on (after i p)
      result_step e = go (outcome i p)
        where
          go : Outcome i p → record_step g log load node i p ≡ on (after i p)
          go (refused k x a b) = absurd (omega (arith, refused_not (sound ∙ a)))
          go (nan a b c) = absurd (omega (arith, true_not (sym b ∙ e)))
          go (result a b c) = c

  -- a record has a result exactly where its call gave one, n doubles more were there, and the temperature is no NaN
  pub result_only : (i : ℕ) (p q : Progress) → record_step g log load node i p ≡ on q → Run g log start load node output memory i p.field p.output p.memory × ((is_nan (temperature i p) ≡ false) × (q ≡ after i p))
  result_only i p q e = go (outcome i p)
    where
      differ : {x : Ended} {y : Progress} → ◌≡◌ {A = Turn Progress Ended} (out x) (on y) → zero ≡ 1
      differ e = cc

      same : {x y : Progress} → ◌≡◌ {A = Turn Progress Ended} (on x) (on y) → y ≡ x
      same e = cc

      go : Outcome i p → Run g log start load node output memory i p.field p.output p.memory × ((is_nan (temperature i p) ≡ false) × (q ≡ after i p))
      go (refused k x a b) = absurd (omega (arith, differ (sym b ∙ e)))
      go (nan a b c) = absurd (omega (arith, differ (sym c ∙ e)))
      go (result a b c) = (a, (b, same (sym c ∙ e)))

  -- ---- after i records with results
  abbrev pub RanTo : ℕ → Progress → Type 0
  RanTo i p = Ran g log start load node output memory i p.field p.output p.memory p.temperatures

  pub reached : (i : ℕ) (p : Progress) → stands i ≡ on p → RanTo i p
  unfolding walk Ran
  reached zero p e = let s = same e in (ap (λ (q : Progress). q.field) s, ap (λ (q : Progress). q.output) s, ap (λ (q : Progress). q.memory) s, ap (λ (q : Progress). q.temperatures) s)
    where
      same : {x y : Progress} → ◌≡◌ {A = Turn Progress Ended} (on x) (on y) → y ≡ x
      same e = cc
  reached (suc i) p e = go (stands i) refl (reached i)
    where
      same : {x y : Progress} → ◌≡◌ {A = Turn Progress Ended} (on x) (on y) → y ≡ x
      same e = cc

      differ : {x : Ended} {y : Progress} → ◌≡◌ {A = Turn Progress Ended} (out x) (on y) → zero ≡ 1
      differ e = cc

      go : (t : Turn Progress Ended) → stands i ≡ t → ((q : Progress) → stands i ≡ on q → RanTo i q) → Next g log start load node output memory i (Ran g log start load node output memory i) p.field p.output p.memory p.temperatures
      go (out x) d h = absurd (omega (arith, differ (sym (walk_next (record_step g log load node) (on (begun start output memory)) i ∙ ap (next (record_step g log load node) i) d) ∙ e)))
      go (on q) d h = by_outcome (outcome i q)
        where
          stepped : record_step g log load node i q ≡ on p
          stepped = sym (walk_next (record_step g log load node) (on (begun start output memory)) i ∙ ap (next (record_step g log load node) i) d) ∙ e

          by_outcome : Outcome i q → Next g log start load node output memory i (Ran g log start load node output memory i) p.field p.output p.memory p.temperatures
          by_outcome (refused k x a b) = absurd (omega (arith, differ (sym b ∙ stepped)))
          by_outcome (nan a b c) = absurd (omega (arith, differ (sym c ∙ stepped)))
          by_outcome (result a b c) =
              let s = same (sym c ∙ stepped) in
              record {
                field = q.field;
                out = q.output;
                lent = q.memory;
                shown = q.temperatures;
                earlier = h q d;
                ran = a;
                number = b;
                field_is = ap (λ (x : Progress). x.field) s;
                output_is = ap (λ (x : Progress). x.output) s;
                memory_is = ap (λ (x : Progress). x.memory) s;
                temperatures_are = ap (λ (x : Progress). x.temperatures) s;
              }

  -- and the other way round
  abbrev pub standing : List Float → List Float → List Float → List Float → Progress
  standing f o m xs = record { field = f; output = o; memory = m; temperatures = xs }

  pub back : (i : ℕ) (f o m xs : List Float) → Ran g log start load node output memory i f o m xs → stands i ≡ on (standing f o m xs)
  unfolding Ran walk
  back zero f o m xs r = λ j. on (standing (sym r.0 j) (sym r.1 j) (sym r.2 j) (sym r.3 j))
  back (suc i) f o m xs r =
      walk_next (record_step g log load node) (on (begun start output memory)) i
      ∙ ap (next (record_step g log load node) i) (back i r.field r.out r.lent r.shown r.earlier)
      ∙ result_step i (standing r.field r.out r.lent r.shown) r.ran r.number
      ∙ (λ j. on (standing (sym r.field_is j) (sym r.output_is j) (sym r.memory_is j) (sym r.temperatures_are j)))
