-- Where a soak stands after i stages with results, and what the next stage comes to. Assumes nothing.
use Rattle.std.specs.Prelude.{if◌then◌else◌}
use mathlib.Core.Path.{◌≡◌, refl, sym, ap, ◌∙◌, subst}
use mathlib.Core.Bool.{Bool, true, false}
use mathlib.Core.List.{List, [], ◌∷◌, ◌++◌}
use Prim.Native.Nat.{ℕ, zero, suc, ◌+◌, ◌-◌, ◌*◌, ◌≤◌}
use native.Mathlib.Nat.{zero-mul, add-mul}
use native.Mathlib.Omega.{arith}
use lib.Dec.{eqb}
use lib.ListN.{length, get_or, length-append}
use lib.Ieee.{Float, nan}
use borrow.Author.Tests.{eqb-true, eq-eqb}
use Rattle.lists.specs.Walk.{Turn, on, out, walk}
use Rattle.lists.specs.Window.{window}
use Rattle.lists.proofs.Window.{length_window}
use Rattle.doubles.specs.F64.{at}
use Rattle.checks.specs.First.{Check, first}
use Rattle.checks.specs.First.{Checked}
use Rattle.generator_action.specs.Generator.{Generator}
use Rattle.combination.specs.Call.{Call, ends}
use Rattle.phi_solver.specs.Combine.{combine}
use Rattle.phi_solver.specs.Combine.{PhiAnswer}
use Rattle.phi_solver.specs.declared.PhiReport.TheVariants as phi
use Rattle.schedule_checks.specs.Schedule.{StagedAnswer, refused_at, Schedule, solver_of, stage, stages_of, further_need, stage_checks, Progress, counted, settle}
use Rattle.schedule_checks.specs.declared.StagedReport.{StagedReport}
use Rattle.stage_calls.specs.Stages.{unless_stage_refused, stage_call, stage_step, begun}
use Rattle.stages_claims.specs.Ran.{count_at, vectors_before, Gave, applications_of, substeps_of, rejected_of, total, sums, call_at, Next, Ran}
use Rattle.stages_claims.proofs.Walks.{next, walk_next}
use Rattle.stages_claims.proofs.Checks.{stage_sound, stage_passing, timed_known}
use Rattle.stages_claims.proofs.Accepted.{taken}
use Rattle.checks.specs.Reasons.{refusal, Sound, Refused}
use Rattle.std.specs.Prelude.{Ok, Err}
use Rattle.checks.specs.declared.Reason.{Reason}

-- ---- sums
pub total_snoc : (f : PhiAnswer → ℕ) (xs : List PhiAnswer) (a : PhiAnswer) → total f (xs ++ (a ∷ [])) ≡ total f xs + f a
unfolding total
total_snoc f [] a = omega arith
total_snoc f (b ∷ bs) a = omega (arith, total_snoc f bs a)

counted_sums : (xs : List PhiAnswer) (a : PhiAnswer) → Gave a → counted (sums xs) a ≡ sums (xs ++ (a ∷ []))
unfolding counted
counted_sums xs (Err r) h = absurd h
counted_sums xs (Ok (phi.Taylor t)) h =
    let a = sym (total_snoc applications_of xs (Ok (phi.Taylor t))) in
    let b : total substeps_of xs ≡ total substeps_of (xs ++ (Ok (phi.Taylor t) ∷ [])) = omega (arith, total_snoc substeps_of xs (Ok (phi.Taylor t))) in
    let c : total rejected_of xs ≡ total rejected_of (xs ++ (Ok (phi.Taylor t) ∷ [])) = omega (arith, total_snoc rejected_of xs (Ok (phi.Taylor t))) in
    λ i. record { applications = a i; substeps = b i; rejected = c i }
counted_sums xs (Ok (phi.Krylov t)) h =
    let a = sym (total_snoc applications_of xs (Ok (phi.Krylov t))) in
    let b = sym (total_snoc substeps_of xs (Ok (phi.Krylov t))) in
    let c = sym (total_snoc rejected_of xs (Ok (phi.Krylov t))) in
    λ i. record { applications = a i; substeps = b i; rejected = c i }

solver_same : (b : Bool) (degree : ℕ) (tol : Float) (m limit : ℕ) → solver_of b degree tol m limit ≡ (if b then solver_of true degree tol m limit else solver_of false degree tol m limit)
solver_same true degree tol m limit = refl
solver_same false degree tol m limit = refl

pub filled : (count n : ℕ) → 1 ≤ count → count * n ≡ n + (count - 1) * n
filled zero n h = absurd (omega arith)
filled (suc d) n h = let e : suc d - 1 ≡ d = omega arith in rw e (omega (arith, add-mul 1 d n, ap (λ (k : ℕ). k * n) (oned d)))
  where
    oned : (d : ℕ) → 1 + d ≡ suc d
    oned d = omega arith

module _ (g : Generator) (s : Schedule) (start further output memory : List Float) where
  abbrev n : ℕ
  n = g.matrix.n

  abbrev pub stands : ℕ → Turn Progress (Call StagedAnswer)
  stands i = walk (stage_step g s further) i 0 (on (begun start output memory))

  abbrev pub checks_at : ℕ → Progress → List Check
  checks_at i p = stage_checks n (stage s i) (eqb (i + 1) (stages_of s)) (length p.output) (length p.field) p.used (length further)

  abbrev pub made_at : ℕ → Progress → Call PhiAnswer
  made_at i p = stage_call g (stage s i) further p

  abbrev pub after : ℕ → Progress → Progress
  after i p =
      record {
        field = (made_at i p).output;
        output = (made_at i p).output;
        memory = (made_at i p).memory;
        used = p.used + further_need n (stage s i);
        report = counted p.report (made_at i p).answer;
      }

  -- a refusal by the stage's own list, and one by its call
  pub early_step : (i : ℕ) (p : Progress) {k : Reason} {x : Float} → first (checks_at i p) ≡ Refused k x → stage_step g s further i p ≡ out (ends (refused_at (refusal k x) (i + 1)) p.output p.memory)
  unfolding stage_step unless_stage_refused
  early_step i p e = ap (λ (c : Checked). unless_stage_refused c i p (settle i (p.used + further_need n (stage s i)) p.report (made_at i p) (made_at i p).answer)) e

  pub late_step : (i : ℕ) (p : Progress) {k : Reason} {x : Float} → Sound ≡ first (checks_at i p) → (made_at i p).answer ≡ Refused k x
      → stage_step g s further i p ≡ out (ends (refused_at (refusal k x) (i + 1)) (made_at i p).output (made_at i p).memory)
  unfolding stage_step unless_stage_refused settle
  late_step i p e ea =
      ap (λ (c : Checked). unless_stage_refused c i p (settle i (p.used + further_need n (stage s i)) p.report (made_at i p) (made_at i p).answer)) (sym e)
      ∙ ap (settle i (p.used + further_need n (stage s i)) p.report (made_at i p)) ea

  -- ---- what stage i + 1 comes to
  pub data Outcome (i : ℕ) (p : Progress) : Type 0 where
    early : (k : Reason) (x : Float) → first (checks_at i p) ≡ Refused k x → stage_step g s further i p ≡ out (ends (refused_at (refusal k x) (i + 1)) p.output p.memory) → Outcome i p
    late : (k : Reason) (x : Float) → Sound ≡ first (checks_at i p) → (made_at i p).answer ≡ Refused k x → stage_step g s further i p ≡ out (ends (refused_at (refusal k x) (i + 1)) (made_at i p).output (made_at i p).memory) → Outcome i p
    result : Sound ≡ first (checks_at i p) → Gave (made_at i p).answer → stage_step g s further i p ≡ on (after i p) → Outcome i p

  pub outcome : (i : ℕ) (p : Progress) → Outcome i p
  unfolding stage_step unless_stage_refused settle
  outcome i p = by_checks (first (checks_at i p)) refl
    where
      settled : Turn Progress (Call StagedAnswer)
      settled = settle i (p.used + further_need n (stage s i)) p.report (made_at i p) (made_at i p).answer

      by_answer : Sound ≡ first (checks_at i p) → (a : PhiAnswer) → (made_at i p).answer ≡ a → Outcome i p
      by_answer e (Err r) ea = late r.reason r.value e ea (late_step i p e ea)
      by_answer e (Ok (phi.Taylor t)) ea =
          result e (subst Gave (sym ea) tt)
          (ap (λ (c : Checked). unless_stage_refused c i p settled) (sym e)
          ∙ ap (settle i (p.used + further_need n (stage s i)) p.report (made_at i p)) ea
          ∙ ap (λ (a : PhiAnswer). on (record { field = (made_at i p).output; output = (made_at i p).output; memory = (made_at i p).memory; used = p.used + further_need n (stage s i); report = counted p.report a })) (sym ea))
      by_answer e (Ok (phi.Krylov t)) ea =
          result e (subst Gave (sym ea) tt)
          (ap (λ (c : Checked). unless_stage_refused c i p settled) (sym e)
          ∙ ap (settle i (p.used + further_need n (stage s i)) p.report (made_at i p)) ea
          ∙ ap (λ (a : PhiAnswer). on (record { field = (made_at i p).output; output = (made_at i p).output; memory = (made_at i p).memory; used = p.used + further_need n (stage s i); report = counted p.report a })) (sym ea))

      by_checks : (c : Checked) → first (checks_at i p) ≡ c → Outcome i p
      by_checks (Err r) e = early r.reason r.value e (early_step i p e)
      by_checks (Ok _) e = by_answer (sym e) (made_at i p).answer refl

  -- ---- the call of a stage, by the numbers of the lists
  pub call_is : (i : ℕ) (p : Progress) → p.used ≡ vectors_before s i * n → made_at i p ≡ call_at g s start further output memory i p.field p.output p.memory
  unfolding stage
  call_is i p e =
      (λ j. combine (solver_same (eqb (get_or s.solvers i 0) 0) (get_or s.degrees i 0) (at s.tols i) (get_or s.ms i 0) (get_or s.limits i 0) j) g (get_or s.taus i nan) (count_at s i) (p.field ++ window (e j) ((count_at s i - 1) * n) further) p.output p.memory)

  pub more_vectors : (i : ℕ) → vectors_before s (suc i) * n ≡ vectors_before s i * n + (count_at s i - 1) * n
  unfolding vectors_before
  more_vectors i = add-mul (vectors_before s i) (count_at s i - 1) n

  -- ---- after i stages with results
  pub record Reached (i : ℕ) (p : Progress) : Type 0 where
    pub answers : List PhiAnswer
    pub ran : Ran g s start further output memory i p.field p.output p.memory answers
    pub used : p.used ≡ vectors_before s i * n
    pub report : p.report ≡ sums answers
    pub all : 1 ≤ i → i ≡ stages_of s → vectors_before s i * n ≡ length further

  reached_first : Reached 0 (begun start output memory)
  unfolding Ran vectors_before total
  reached_first = record { answers = []; ran = (refl, refl, refl, refl); used = sym (zero-mul n); report = refl; all = λ l e. absurd (omega (arith, l)) }

  reached_next : (i : ℕ) (p : Progress) → Reached i p → Sound ≡ first (checks_at i p) → Gave (made_at i p).answer → Reached (suc i) (after i p)
  unfolding Ran stage
  reached_next i p r e h =
      let k = stage_passing n (stage s i) (eqb (i + 1) (stages_of s)) (length p.output) (length p.field) p.used (length further) e in
      let c = call_is i p r.used in
      let m = more_vectors i in
      record {
        answers = r.answers ++ ((call_at g s start further output memory i p.field p.output p.memory).answer ∷ []);
        ran =
            record {
              field = p.field;
              out = p.output;
              lent = p.memory;
              answers = r.answers;
              earlier = r.ran;
              lies = omega (arith, m, r.used, k.within);
              gave = subst (λ (x : Call PhiAnswer). Gave x.answer) c h;
              field_is = ap (λ (x : Call PhiAnswer). x.output) c;
              output_is = ap (λ (x : Call PhiAnswer). x.output) c;
              memory_is = ap (λ (x : Call PhiAnswer). x.memory) c;
              answers_are = refl;
            };
        used = omega (arith, m, r.used);
        report =
            ap (λ (x : StagedReport). counted x (made_at i p).answer) r.report
            ∙ counted_sums r.answers (made_at i p).answer h
            ∙ ap (λ (x : Call PhiAnswer). sums (r.answers ++ (x.answer ∷ []))) c;
        all = λ l e. let f : i + 1 ≡ stages_of s = omega (arith, e) in let a = k.all (eq-eqb (i + 1) (stages_of s) f) in omega (arith, m, r.used, a);
      }

  pub reached : (i : ℕ) (p : Progress) → stands i ≡ on p → Reached i p
  unfolding walk
  reached zero p e = subst (Reached 0) (same e) reached_first
    where
      same : {x y : Progress} → ◌≡◌ {A = Turn Progress (Call StagedAnswer)} (on x) (on y) → x ≡ y
      same e = cc
  reached (suc i) p e = go (stands i) refl (reached i)
    where
      same : {x y : Progress} → ◌≡◌ {A = Turn Progress (Call StagedAnswer)} (on x) (on y) → x ≡ y
      same e = cc

      differ : {x : Call StagedAnswer} {y : Progress} → ◌≡◌ {A = Turn Progress (Call StagedAnswer)} (out x) (on y) → zero ≡ 1
      differ e = cc

      go : (t : Turn Progress (Call StagedAnswer)) → stands i ≡ t → ((q : Progress) → stands i ≡ on q → Reached i q) → Reached (suc i) p
      go (out x) d h = absurd (omega (arith, differ (sym (walk_next (stage_step g s further) (on (begun start output memory)) i ∙ ap (next (stage_step g s further) i) d) ∙ e)))
      go (on q) d h = by_outcome (outcome i q)
        where
          stepped : stage_step g s further i q ≡ on p
          stepped = sym (walk_next (stage_step g s further) (on (begun start output memory)) i ∙ ap (next (stage_step g s further) i) d) ∙ e

          by_outcome : Outcome i q → Reached (suc i) p
          by_outcome (early k x a b) = absurd (omega (arith, differ (sym b ∙ stepped)))
          by_outcome (late k x a b c) = absurd (omega (arith, differ (sym c ∙ stepped)))
          by_outcome (result a b c) = subst (Reached (suc i)) (same (sym c ∙ stepped)) (reached_next i q (h q d) a b)

  -- ---- and the other way round
  abbrev pub standing : ℕ → List Float → List Float → List Float → List PhiAnswer → Progress
  standing i f o m xs = record { field = f; output = o; memory = m; used = vectors_before s i * n; report = sums xs }

  -- a stage whose call gives a result passes its checks
  checks_pass : (i : ℕ) (p : Progress) → p.used ≡ vectors_before s i * n → vectors_before s (suc i) * n ≤ length further → (suc i ≡ stages_of s → vectors_before s (suc i) * n ≡ length further)
      → Gave (made_at i p).answer → Sound ≡ first (checks_at i p)
  checks_pass i p u lies all h =
      let S = stage s i in
      let m = more_vectors i in
      let t = taken g S.tau S.count (p.field ++ window p.used (further_need n S) further) p.output p.memory S.solver h in
      let c : S.count ≡ count_at s i = unfold stage in refl in
      let need : p.used + (S.count - 1) * n ≡ vectors_before s (suc i) * n = rw c (omega (arith, m, u)) in
      let lw = length_window p.used (further_need n S) further (omega (arith, need, lies)) in
      let la = length-append p.field (window p.used (further_need n S) further) in
      stage_sound n S (eqb (i + 1) (stages_of s)) (length p.output) (length p.field) p.used (length further)
      (record {
        some = t.vectors.some;
        most = t.vectors.most;
        timed = timed_known S.solver S.tau t.timed;
        out = t.vectors.out;
        fielded = omega (arith, lw, la, t.vectors.flat, filled S.count n t.vectors.some);
        within = omega (arith, need, lies);
        all = λ e. let f = eqb-true (i + 1) (stages_of s) e in omega (arith, need, all (omega (arith, f)));
      })

  module _ (i : ℕ) (f o m : List Float) (xs : List PhiAnswer) (r : Next g s start further output memory i (Ran g s start further output memory i) f o m xs) where
    abbrev here : Progress
    here = standing i r.field r.out r.lent r.answers

    call_here : made_at i here ≡ call_at g s start further output memory i r.field r.out r.lent
    call_here = call_is i here refl

    gave_here : Gave (made_at i here).answer
    gave_here = subst (λ (x : Call PhiAnswer). Gave x.answer) (sym call_here) r.gave

    after_is : after i here ≡ standing (suc i) f o m xs
    unfolding stage
    after_is =
        let left = ap (λ (x : Call PhiAnswer). x.output) call_here in
        let f_is = left ∙ sym r.field_is in
        let o_is = left ∙ sym r.output_is in
        let m_is = ap (λ (x : Call PhiAnswer). x.memory) call_here ∙ sym r.memory_is in
        let u_is = sym (more_vectors i) in
        let r_is = counted_sums r.answers (made_at i here).answer gave_here ∙ ap (λ (x : Call PhiAnswer). sums (r.answers ++ (x.answer ∷ []))) call_here ∙ ap sums (sym r.answers_are) in
        λ j. record { field = f_is j; output = o_is j; memory = m_is j; used = u_is j; report = r_is j }

    step_here : (suc i ≡ stages_of s → vectors_before s (suc i) * n ≡ length further) → stage_step g s further i here ≡ on (standing (suc i) f o m xs)
    step_here all = by_outcome (outcome i here)
      where
        ok : Sound ≡ first (checks_at i here)
        ok = checks_pass i here refl r.lies all gave_here

        refused_not : {k : Reason} {x : Float} → Sound ≡ Refused k x → zero ≡ 1
        refused_not e = cc

        by_outcome : Outcome i here → stage_step g s further i here ≡ on (standing (suc i) f o m xs)
        by_outcome (early k x a b) = absurd (omega (arith, refused_not (ok ∙ a)))
        by_outcome (late k x a b c) = absurd (subst Gave b gave_here)
        by_outcome (result a b c) = c ∙ ap on after_is

  pub back : (i : ℕ) (f o m : List Float) (xs : List PhiAnswer) → Ran g s start further output memory i f o m xs → i ≤ stages_of s → (i ≡ stages_of s → vectors_before s i * n ≡ length further)
      → stands i ≡ on (standing i f o m xs)
  unfolding Ran vectors_before total walk
  back zero f o m xs r l u = λ j. on (record { field = sym r.0 j; output = sym r.1 j; memory = sym r.2 j; used = sym (zero-mul n) j; report = sums (sym r.3 j) })
  back (suc i) f o m xs r l u =
      let d = back i r.field r.out r.lent r.answers r.earlier (omega (arith, l)) (λ e. absurd (omega (arith, l, e))) in
      walk_next (stage_step g s further) (on (begun start output memory)) i ∙ ap (next (stage_step g s further) i) d ∙ step_here i f o m xs r u
