-- A soak in stages answers as its single calls in a row do. Assumes nothing.
use mathlib.Core.Path.{◌≡◌, refl, sym, ap, ◌∙◌, subst}
use mathlib.Core.Logic.{◌⊎◌, inl, inr}
use mathlib.Core.List.{List, ◌++◌}
use Prim.Native.Nat.{ℕ, zero, suc, ◌+◌, ◌-◌, ◌≤◌}
use native.Mathlib.Omega.{arith}
use lib.Dec.{eqb}
use lib.ListN.{length}
use lib.Ieee.{Float}
use Rattle.lists.specs.Walk.{Turn, on, out}
use Rattle.checks.specs.First.{first}
use Rattle.checks.specs.First.{Checked}
use Rattle.checks.proofs.First.{err_is, sound_append, sound_on}
use Rattle.generator_action.specs.Generator.{Generator}
use Rattle.combination.specs.Call.{Call, ends, unless_refused}
use Rattle.phi_solver.specs.Combine.{PhiAnswer}
use Rattle.phi_solver.specs.declared.PhiReport.TheVariants as phi
use Rattle.schedule_checks.specs.Schedule.{StagedAnswer, refused_at as refusal_at, Schedule, stage, stages_of, schedule_checks, stage_checks, Progress}
use Rattle.schedule_checks.specs.declared.StagedReport.{StagedReport}
use Rattle.schedule_checks.specs.declared.StageRefusal.{StageRefusal}
use Rattle.schedule_checks.proofs.Checks.{schedule_known}
use Rattle.stage_calls.specs.Stages.{stage_step, concluded, begun, before_stages, staged}
use Rattle.stages_claims.specs.Ran.{Ran}
use Rattle.stages_claims.specs.Claims.{Complete, ByList, ByCall, RefusedAt}
use Rattle.stages_claims.proofs.Walks.{next, walk_next, stays, EndedAt, ended_at}
use Rattle.stages_claims.proofs.Accepted.{taken}
use Rattle.stages_claims.proofs.Reached.{stands, Outcome, early, late, result, outcome, early_step, late_step, call_is, reached, standing, back}
use Rattle.checks.specs.Reasons.{refusal, Sound, Refused}
use Rattle.std.specs.Prelude.{Ok, Err}
use Rattle.checks.specs.declared.Reason.{Reason}

-- ---- answers told apart
abbrev done : StagedReport → StagedAnswer
done r = Ok r

report_of : StagedReport → StagedAnswer → StagedReport
report_of d (Err e) = d
report_of d (Ok r) = r

staged_same : {r r' : StagedReport} {o o' m m' : List Float} → ends (done r) o m ≡ ends (done r') o' m' → (r ≡ r') × (o ≡ o') × (m ≡ m')
unfolding report_of
staged_same {r} e = (ap (λ (c : Call StagedAnswer). report_of r c.answer) e, ap (λ (c : Call StagedAnswer). c.output) e, ap (λ (c : Call StagedAnswer). c.memory) e)

staged_not : {k : Reason} {x : Float} {i : ℕ} {r : StagedReport} {o o' m m' : List Float} → ends (refusal_at (refusal k x) i) o m ≡ ends (done r) o' m' → zero ≡ 1
staged_not {k} {x} {i} {r} e = apart (ap (λ (c : Call StagedAnswer). c.answer) e)
  where
    apart : {k : Reason} {x : Float} {i : ℕ} {r : StagedReport} → refusal_at (refusal k x) i ≡ done r → zero ≡ 1
    apart e = cc

staged_not_by : {k : Reason} {x : Float} {i : ℕ} {r : StagedReport} → done r ≡ refusal_at (refusal k x) i → zero ≡ 1
staged_not_by e = cc

refusal_same : {k k' : Reason} {x x' : Float} {i i' : ℕ} {o o' m m' : List Float} → ends (refusal_at (refusal k x) i) o m ≡ ends (refusal_at (refusal k' x') i') o' m' → (k ≡ k') × (x ≡ x') × (i ≡ i') × (o ≡ o') × (m ≡ m')
refusal_same e =
    let a = ap (λ (c : Call StagedAnswer). c.answer) e in
    (number a, double a, place a, ap (λ (c : Call StagedAnswer). c.output) e, ap (λ (c : Call StagedAnswer). c.memory) e)
  where
    number : {k k' : Reason} {x x' : Float} {i i' : ℕ} → refusal_at (refusal k x) i ≡ refusal_at (refusal k' x') i' → k ≡ k'
    number a = ap (λ (r : StageRefusal). r.refusal.reason) (err_is a)

    double : {k k' : Reason} {x x' : Float} {i i' : ℕ} → refusal_at (refusal k x) i ≡ refusal_at (refusal k' x') i' → x ≡ x'
    double a = ap (λ (r : StageRefusal). r.refusal.value) (err_is a)

    place : {k k' : Reason} {x x' : Float} {i i' : ℕ} → refusal_at (refusal k x) i ≡ refusal_at (refusal k' x') i' → i ≡ i'
    place a = ap (λ (r : StageRefusal). r.stage) (err_is a)

module _ (g : Generator) (s : Schedule) (start further output memory : List Float) where
  abbrev n : ℕ
  n = g.matrix.n

  abbrev K : ℕ
  K = stages_of s

  abbrev whole : Call StagedAnswer
  whole = staged g s start further output memory

  abbrev stand : ℕ → Turn Progress (Call StagedAnswer)
  stand = stands g s start further output memory

  -- ---- where 1 to 11 and 37 pass the answer is that of the stages
  answer_is : Sound ≡ first (g.checks ++ schedule_checks s) → whole ≡ concluded (stand K)
  unfolding staged unless_refused
  answer_is e = ap (λ (c : Checked). unless_refused before_stages c output memory (concluded (stand K))) (sym e)

  -- a stage that ends the soak refuses
  ended_refused : (e : Call StagedAnswer) → EndedAt (stage_step g s further) (begun start output memory) K e → (k : Reason) × ((x : Float) × ((i : ℕ) × (e.answer ≡ refusal_at (refusal k x) i)))
  ended_refused e a = go (outcome g s start further output memory a.turn a.state)
    where
      same : {x y : Call StagedAnswer} → ◌≡◌ {A = Turn Progress (Call StagedAnswer)} (out x) (out y) → x ≡ y
      same e = cc

      differ : {x : Progress} {y : Call StagedAnswer} → ◌≡◌ {A = Turn Progress (Call StagedAnswer)} (on x) (out y) → zero ≡ 1
      differ e = cc

      go : Outcome g s start further output memory a.turn a.state → (k : Reason) × ((x : Float) × ((i : ℕ) × (e.answer ≡ refusal_at (refusal k x) i)))
      go (early k x b c) = (k, (x, (a.turn + 1, ap (λ (c : Call StagedAnswer). c.answer) (same (sym a.ended ∙ c)))))
      go (late k x b c d) = (k, (x, (a.turn + 1, ap (λ (c : Call StagedAnswer). c.answer) (same (sym a.ended ∙ d)))))
      go (result b c d) = absurd (omega (arith, differ (sym d ∙ a.ended)))

  field_output : (i : ℕ) (f o m : List Float) (xs : List PhiAnswer) → 1 ≤ i → Ran g s start further output memory i f o m xs → f ≡ o
  unfolding Ran
  field_output zero f o m xs l r = absurd (omega (arith, l))
  field_output (suc i) f o m xs l r = r.field_is ∙ sym r.output_is

  moved : (i : ℕ) {f f' o o' m m' : List Float} (xs : List PhiAnswer) → f ≡ f' → o ≡ o' → m ≡ m' → Ran g s start further output memory i f o m xs → Ran g s start further output memory i f' o' m' xs
  moved i {f} {f'} {o} {o'} {m} {m'} xs ef eo em r =
      subst (λ (x : List Float). Ran g s start further output memory i f' o' x xs) em
      (subst (λ (x : List Float). Ran g s start further output memory i f' x m xs) eo
      (subst (λ (x : List Float). Ran g s start further output memory i x o m xs) ef r))

  -- ---- a result
  pub result_complete : (r : StagedReport) (o m : List Float) → whole ≡ ends (done r) o m → Complete g s start further output memory r o m
  unfolding concluded staged unless_refused
  result_complete r o m e = by_checks (first (g.checks ++ schedule_checks s)) refl
    where
      refused : {k : Reason} {x : Float} → first (g.checks ++ schedule_checks s) ≡ Refused k x → zero ≡ 1
      refused h = staged_not (sym (refused_is h) ∙ e)
        where
          refused_is : {k : Reason} {x : Float} → first (g.checks ++ schedule_checks s) ≡ Refused k x → whole ≡ ends (refusal_at (refusal k x) 0) output memory
          refused_is h = ap (λ (c : Checked). unless_refused before_stages c output memory (concluded (stand K))) h

      by_stand : Sound ≡ first (g.checks ++ schedule_checks s) → (t : Turn Progress (Call StagedAnswer)) → stand K ≡ t → ends (done r) o m ≡ concluded t → Complete g s start further output memory r o m
      by_stand h (on p) d c =
          let q = staged_same c in
          let a = reached g s start further output memory K p d in
          let scheduled = (sound_append g.checks _ h).1 in
          let some = (schedule_known s refl scheduled).some in
          let f_is = field_output K p.field p.output p.memory a.answers some a.ran in
          record {
            scheduled = scheduled;
            answers = a.answers;
            ran = moved K a.answers (f_is ∙ sym q.1) (sym q.1) (sym q.2) a.ran;
            used_up = a.all some refl;
            counts = q.0 ∙ a.report;
          }
      by_stand h (out x) d c =
          let t = ended_refused x (ended_at (stage_step g s further) (begun start output memory) K x d) in
          absurd (omega (arith, staged_not_by (ap (λ (c : Call StagedAnswer). c.answer) c ∙ t.1.1.1)))

      by_checks : (c : Checked) → first (g.checks ++ schedule_checks s) ≡ c → Complete g s start further output memory r o m
      by_checks (Err r) h = absurd (omega (arith, refused h))
      by_checks (Ok _) h = by_stand (sym h) (stand K) refl (sym e ∙ answer_is (sym h))

  -- the generator's checks pass where a stage has a result
  generator_passed : (i : ℕ) (f o m : List Float) (xs : List PhiAnswer) → 1 ≤ i → Ran g s start further output memory i f o m xs → Sound ≡ first g.checks
  unfolding Ran
  generator_passed zero f o m xs l r = absurd (omega (arith, l))
  generator_passed (suc i) f o m xs l r = (taken g _ _ _ r.out r.lent _ r.gave).generator

  pub complete_result : (r : StagedReport) (o m : List Float) → Complete g s start further output memory r o m → whole ≡ ends (done r) o m
  unfolding concluded
  complete_result r o m c =
      let some = (schedule_known s refl c.scheduled).some in
      let checks = sound_on g.checks _ refl (generator_passed K o o m c.answers some c.ran) c.scheduled in
      answer_is checks
      ∙ ap concluded (back g s start further output memory K o o m c.answers c.ran (omega arith) (λ e. c.used_up))
      ∙ ap (λ (x : StagedReport). ends (done x) o m) (sym c.counts)

  -- ---- a refusal after 1 to 11 and 37
  module _ (sound : Sound ≡ first (g.checks ++ schedule_checks s)) where
    pub refused_at : (i : ℕ) (k : Reason) (x : Float) (o' m' : List Float) → whole ≡ ends (refusal_at (refusal k x) (i + 1)) o' m' → RefusedAt g s start further output memory i k x o' m'
    unfolding concluded
    refused_at i k x o' m' e = by_stand (stand K) refl
      where
        same : {x y : Call StagedAnswer} → ◌≡◌ {A = Turn Progress (Call StagedAnswer)} (out x) (out y) → x ≡ y
        same e = cc

        differ : {x : Progress} {y : Call StagedAnswer} → ◌≡◌ {A = Turn Progress (Call StagedAnswer)} (on x) (out y) → zero ≡ 1
        differ e = cc

        placed : (a : EndedAt (stage_step g s further) (begun start output memory) K (ends (refusal_at (refusal k x) (i + 1)) o' m')) → a.turn ≡ i → (p : Progress) (xs : List PhiAnswer)
            → Ran g s start further output memory a.turn p.field p.output p.memory xs
            → (ByList g s start further output memory a.turn p.field p.output p.memory k x o' m' ⊎ ByCall g s start further output memory a.turn p.field p.output p.memory k x o' m')
            → RefusedAt g s start further output memory i k x o' m'
        placed a e p xs r f =
            subst (λ (j : ℕ). RefusedAt g s start further output memory j k x o' m') e
            (record { reached = a.below; field = p.field; out = p.output; lent = p.memory; answers = xs; ran = r; refused = f })

        by_outcome : (a : EndedAt (stage_step g s further) (begun start output memory) K (ends (refusal_at (refusal k x) (i + 1)) o' m')) → Outcome g s start further output memory a.turn a.state → RefusedAt g s start further output memory i k x o' m'
        by_outcome a (early k' x' b c) =
            let r = reached g s start further output memory a.turn a.state a.stood in
            let q = refusal_same (same (sym c ∙ a.ended)) in
            let list = ap (λ (u : ℕ). first (stage_checks n (stage s a.turn) (eqb (a.turn + 1) K) (length a.state.output) (length a.state.field) u (length further))) (sym r.used) ∙ b ∙ (λ j. Refused (q.0 j) (q.1 j)) in
            placed a (omega (arith, q.2)) a.state r.answers r.ran (inl (list, sym q.3, sym q.4))
        by_outcome a (late k' x' b c d) =
            let r = reached g s start further output memory a.turn a.state a.stood in
            let q = refusal_same (same (sym d ∙ a.ended)) in
            let call = call_is g s start further output memory a.turn a.state r.used in
            let list = b ∙ ap (λ (u : ℕ). first (stage_checks n (stage s a.turn) (eqb (a.turn + 1) K) (length a.state.output) (length a.state.field) u (length further))) r.used in
            let told = ap (λ (y : Call PhiAnswer). y.answer) (sym call) ∙ c ∙ (λ j. Refused (q.0 j) (q.1 j)) in
            placed a (omega (arith, q.2)) a.state r.answers r.ran (inr (list, told, sym q.3 ∙ ap (λ (y : Call PhiAnswer). y.output) call, sym q.4 ∙ ap (λ (y : Call PhiAnswer). y.memory) call))
        by_outcome a (result b c d) = absurd (omega (arith, differ (sym d ∙ a.ended)))

        by_stand : (t : Turn Progress (Call StagedAnswer)) → stand K ≡ t → RefusedAt g s start further output memory i k x o' m'
        by_stand (on p) d = absurd (omega (arith, staged_not (sym (sym (answer_is sound ∙ ap concluded d) ∙ e))))
        by_stand (out y) d =
            let same : y ≡ ends (refusal_at (refusal k x) (i + 1)) o' m' = sym (answer_is sound ∙ ap concluded d) ∙ e in
            let a = ended_at (stage_step g s further) (begun start output memory) K (ends (refusal_at (refusal k x) (i + 1)) o' m') (d ∙ ap out same) in
            by_outcome a (outcome g s start further output memory a.turn a.state)

    pub at_refused : (i : ℕ) (k : Reason) (x : Float) (o' m' : List Float) → RefusedAt g s start further output memory i k x o' m' → whole ≡ ends (refusal_at (refusal k x) (i + 1)) o' m'
    unfolding concluded
    at_refused i k x o' m' r =
        let P = standing g s start further output memory i r.field r.out r.lent r.answers in
        let l = r.reached in
        let b = back g s start further output memory i r.field r.out r.lent r.answers r.ran (omega (arith, l)) (λ e. absurd (omega (arith, l, e))) in
        let e = stays (stage_step g s further) (on (begun start output memory)) (suc i) (K - suc i) (walk_next (stage_step g s further) (on (begun start output memory)) i ∙ ap (next (stage_step g s further) i) b ∙ stepped r.refused) in
        let n : suc i + (K - suc i) ≡ K = omega (arith, l) in
        answer_is sound ∙ ap concluded (ap stand (sym n) ∙ e)
      where
        stepped : (ByList g s start further output memory i r.field r.out r.lent k x o' m' ⊎ ByCall g s start further output memory i r.field r.out r.lent k x o' m')
            → stage_step g s further i (standing g s start further output memory i r.field r.out r.lent r.answers) ≡ out (ends (refusal_at (refusal k x) (i + 1)) o' m')
        stepped (inl h) = early_step g s start further output memory i (standing g s start further output memory i r.field r.out r.lent r.answers) h.0 ∙ (λ j. out (ends (refusal_at (refusal k x) (i + 1)) (sym h.1 j) (sym h.2 j)))
        stepped (inr h) =
            let call = call_is g s start further output memory i (standing g s start further output memory i r.field r.out r.lent r.answers) refl in
            late_step g s start further output memory i (standing g s start further output memory i r.field r.out r.lent r.answers) h.0 (ap (λ (y : Call PhiAnswer). y.answer) call ∙ h.1)
            ∙ (λ j. out (ends (refusal_at (refusal k x) (i + 1)) (call j).output (call j).memory))
            ∙ (λ j. out (ends (refusal_at (refusal k x) (i + 1)) (sym h.2 j) (sym h.3 j)))
