-- What the plan alone tells of a run. Assumes nothing.
use mathlib.Core.Path.{◌≡◌, refl, sym, ap, ◌∙◌, subst}
use mathlib.Core.Bool.{false}
use mathlib.Core.List.{List, [], ◌++◌}
use Prim.Native.Nat.{ℕ, zero, suc, ◌-◌, ◌*◌, ◌≤◌}
use native.Mathlib.Omega.{arith}
use native.Mathlib.Nat.{one-mul}
use lib.Dec.{eqb}
use lib.ListN.{length}
use lib.Ieee.{Float}
use borrow.Author.Tests.{le-ltb}
use Rattle.checks.specs.First.{Check, first, before}
use Rattle.checks.specs.First.{Checked}
use Rattle.checks.proofs.First.{err_is, ok_is, and_then, first_append, sound_append, sound_cons, sound_on, passes, ends_sound}
use Rattle.checks.proofs.Numbers.{not_by}
use Rattle.general_operator.specs.Csr.{row_sum_norm}
use Rattle.general_operator.proofs.Sound.{or_false}
use Rattle.generator_action.specs.Generator.{Generator}
use Rattle.expmv.specs.Select.{select_s_m}
use Rattle.expmv.specs.declared.Row.{Row}
use Rattle.phi_action_helpers.specs.declared.SweepPlan.{SweepPlan}
use Rattle.phi_shift.specs.Plan.{argument, plan_of, sweep_plan}
use Rattle.combination.specs.Call.{Call, unless_refused}
use Rattle.combination.specs.Combination.{further, eta_of}
use Rattle.combination.specs.Checks.{no_row, count_checks, index_checks, time_checks, degree_checks, plan_checks, length_checks, finite_checks, magnitude_checks, schedule_checks, memory_checks, vector_checks_by, vector_checks, sweep_checks, job_checks, taylor_need}
use Rattle.taylor_job.specs.declared.TaylorReport.{TaylorReport}
use Rattle.taylor_job.specs.Calls.{TaylorAnswer}
use Rattle.taylor_job.specs.Calls.{Fields, after_plan, combination_checks, combination_run, phi_combination, action_checks, phi_action, phi_action_batched}
use Rattle.phi_batch.proofs.Batch.{soak_counted, batch_counted}
use Rattle.taylor_plan.specs.TaylorPlan.{taylor_plan_checks, cost_alone, taylor_plan}
use Rattle.taylor_plan.specs.Ahead.{own, combination_own, action_own, Foretold, PlanAhead}
use Rattle.checks.specs.Reasons.{number, Sound, Refused}
use Rattle.std.specs.Prelude.{Ok, Err, Option, Some, None}
use Rattle.checks.specs.declared.Reason.TheVariants.{WorkLength}
use Rattle.checks.specs.declared.Reason.{Reason}

-- ---- lists of checks: gs, xs, ps, ys, ss, ws of a run; gs, ps, ss, ws₂ of its plan
module _ (k : Reason) (x : Float) where
  abbrev NotBy : Checked → Type 0
  NotBy r = (y : Float) → Refused k y ≡ r → ⊥

  up : (g x₁ p y s w w₂ : Checked) → NotBy x₁ → NotBy y → NotBy w → Refused k x ≡ and_then g (and_then x₁ (and_then p (and_then y (and_then s w))))
      → Refused k x ≡ and_then g (and_then p (and_then s w₂))
  unfolding and_then
  up (Err r) x₁ p y s w w₂ nx ny nw e = e
  up (Ok _) (Err r) p y s w w₂ nx ny nw e = absurd (nx x e)
  up (Ok _) (Ok _) (Err r) y s w w₂ nx ny nw e = e
  up (Ok _) (Ok _) (Ok _) (Err r) s w w₂ nx ny nw e = absurd (ny x e)
  up (Ok _) (Ok _) (Ok _) (Ok _) (Err r) w w₂ nx ny nw e = e
  up (Ok _) (Ok _) (Ok _) (Ok _) (Ok _) w w₂ nx ny nw e = absurd (nw x e)

  down : (g x₁ p y s w w₂ : Checked) → Sound ≡ x₁ → Sound ≡ y → NotBy w₂ → Refused k x ≡ and_then g (and_then p (and_then s w₂))
      → Refused k x ≡ and_then g (and_then x₁ (and_then p (and_then y (and_then s w))))
  unfolding and_then
  down (Err r) x₁ p y s w w₂ hx hy n e = e
  down (Ok _) x₁ (Err r) y s w w₂ hx hy n e = rw (← hx) e
  down (Ok _) x₁ (Ok _) y (Err r) w w₂ hx hy n e = rw (← hx, ← hy) e
  down (Ok _) x₁ (Ok _) y (Ok _) w w₂ hx hy n e = absurd (n x e)

module _ (gs xs ps ys ss ws : List Check) where
  abbrev of_run : List Check
  of_run = gs ++ (xs ++ (ps ++ (ys ++ (ss ++ ws))))

  run_chain : first of_run ≡ and_then (first gs) (and_then (first xs) (and_then (first ps) (and_then (first ys) (and_then (first ss) (first ws)))))
  run_chain = rw (first_append gs _, first_append xs _, first_append ps _, first_append ys _, first_append ss ws) refl

  module _ (ws₂ : List Check) where
    abbrev of_plan : List Check
    of_plan = gs ++ (ps ++ (ss ++ ws₂))

    plan_chain : first of_plan ≡ and_then (first gs) (and_then (first ps) (and_then (first ss) (first ws₂)))
    plan_chain = rw (first_append gs _, first_append ps _, first_append ss ws₂) refl

    sound_plan : Sound ≡ first of_run → Sound ≡ first ws₂ → Sound ≡ first of_plan
    sound_plan e h =
        let g = sound_append gs _ e in
        let p = sound_append ps _ (sound_append xs _ g.1).1 in
        let s = sound_append ss ws (sound_append ys _ p.1).1 in
        sound_on gs _ refl g.0 (sound_on ps _ refl p.0 (sound_on ss _ refl s.0 h))

    module _ {k : Reason} {x : Float} where
      to_plan : before k xs ≡ xs → before k ys ≡ ys → before k ws ≡ ws → Refused k x ≡ first of_run → Refused k x ≡ first of_plan
      to_plan nx ny nw e = up k x _ _ _ _ _ _ (first ws₂) (λ y. not_by k xs nx) (λ y. not_by k ys ny) (λ y. not_by k ws nw) (e ∙ run_chain) ∙ sym plan_chain

      to_run : Sound ≡ first (xs ++ ys) → before k ws₂ ≡ ws₂ → Refused k x ≡ first of_plan → Refused k x ≡ first of_run
      to_run h n e = let s = sound_append xs ys h in down k x _ _ _ _ _ (first ws) _ s.0 s.1 (λ y. not_by k ws₂ n) (e ∙ plan_chain) ∙ sym run_chain

-- ---- a call whose checks are those of the generator, xs, 14 and 33, ys, and 24 to 26
module _ (g : Generator) (tau : Float) (cap : ℕ) where
  abbrev norm : Float
  norm = row_sum_norm g.matrix

  abbrev listed : List Check → List Check → ℕ → ℕ → List Check
  listed xs ys memory need = of_run g.checks xs (plan_checks tau cap) ys (schedule_checks cap norm tau) (memory_checks memory need)

  abbrev call : List Check → ℕ → List Float → List Float → (SweepPlan → Fields) → Call TaylorAnswer
  call cs need output memory run = unless_refused Refused (first cs) output memory (after_plan need tau norm output memory (sweep_plan cap tau g.matrix norm) run)

  -- where 25 passes there is a plan
  row_planned : Sound ≡ first (schedule_checks cap norm tau) → sweep_plan cap tau g.matrix norm ≡ None → zero ≡ 1
  unfolding schedule_checks sweep_plan plan_of
  row_planned e f = go (select_s_m cap (argument tau norm)) (sound_cons _ _ _ _ (sound_cons _ _ _ _ e).1).0 f
    where
      go : (r : Option Row) → no_row r ≡ false → plan_of cap tau g.matrix norm r ≡ None → zero ≡ 1
      go None h e = cc
      go (Some r) h e = cc

  module _ (xs ys : List Check) (need : ℕ) (output memory : List Float) (run : SweepPlan → Fields) where
    abbrev cs : List Check
    cs = listed xs ys (length memory) need

    no_refusal : (p : Option SweepPlan) {k : Reason} {x : Float} → (p ≡ None → zero ≡ 1) → (after_plan need tau norm output memory p run).answer ≡ Refused k x → ⊥
    unfolding after_plan
    no_refusal None h e = absurd (omega (arith, h refl))
    no_refusal (Some p) h e = let z : zero ≡ 1 = cc in absurd (omega (arith, z))

    schedule_sound : Sound ≡ first cs → Sound ≡ first (schedule_checks cap norm tau)
    schedule_sound e =
        let p = sound_append (plan_checks tau cap) _ (sound_append xs _ (sound_append g.checks _ e).1).1 in
        (sound_append (schedule_checks cap norm tau) _ (sound_append ys _ p.1).1).0

    -- its refusals are those of the list
    refusal_listed : {k : Reason} {x : Float} → (call cs need output memory run).answer ≡ Refused k x → Refused k x ≡ first cs
    unfolding unless_refused
    refusal_listed {k} {x} f = go (first cs) refl f
      where
        same : {i j : Reason} {y z : Float} → Refused {A = TaylorReport} i y ≡ Refused j z → Refused {A = Unit} j z ≡ Refused i y
        same h = ap Err (sym (err_is h))

        go : (c : Checked) → c ≡ first cs → (unless_refused Refused c output memory (after_plan need tau norm output memory (sweep_plan cap tau g.matrix norm) run)).answer ≡ Refused k x → Refused k x ≡ first cs
        go (Ok _) e h = absurd (no_refusal _ (row_planned (schedule_sound e)) h)
        go (Err r) e h = same h ∙ e

    listed_refusal : {k : Reason} {x : Float} → Refused k x ≡ first cs → (call cs need output memory run).answer ≡ Refused k x
    unfolding unless_refused
    listed_refusal e = rw (← e) refl

    -- a result is that of a plan, and no check holds
    pub record Planned (r : TaylorReport) : Type 0 where
      pub sound : Sound ≡ first cs
      pub plan : SweepPlan
      pub has_plan : sweep_plan cap tau g.matrix norm ≡ Some plan
      pub is : record { s = plan.s; m = plan.m; mu = plan.mu; applications = (run plan).applied } ≡ r

    result_planned : {r : TaylorReport} → (call cs need output memory run).answer ≡ Ok r → Planned r
    unfolding unless_refused after_plan
    result_planned {r} f = go (first cs) refl f
      where
        of_plan_answer : Sound ≡ first cs → (p : Option SweepPlan) → sweep_plan cap tau g.matrix norm ≡ p → (after_plan need tau norm output memory p run).answer ≡ Ok r → Planned r
        of_plan_answer e None h i = let z : zero ≡ 1 = cc in absurd (omega (arith, z))
        of_plan_answer e (Some p) h i = record { sound = e; plan = p; has_plan = h; is = ok_is i }

        go : (c : Checked) → c ≡ first cs → (unless_refused Refused c output memory (after_plan need tau norm output memory (sweep_plan cap tau g.matrix norm) run)).answer ≡ Ok r → Planned r
        go (Ok _) e h = of_plan_answer e _ refl h
        go (Err r) e h = let z : zero ≡ 1 = cc in absurd (omega (arith, z))

-- ---- numbers that are not a run's own
record Other (k : Reason) : Type 0 where
  pub not_12 : eqb 12 (number k) ≡ false
  pub not_13 : eqb 13 (number k) ≡ false
  pub not_15 : eqb 15 (number k) ≡ false
  pub not_16 : eqb 16 (number k) ≡ false
  pub not_17 : eqb 17 (number k) ≡ false
  pub not_21 : eqb 21 (number k) ≡ false
  pub not_22 : eqb 22 (number k) ≡ false
  pub not_26 : eqb 26 (number k) ≡ false

other : (k : Reason) → own (number k) ≡ false → Other k
other k e =
    let a = or_false (eqb 12 (number k)) _ e in
    let b = or_false (eqb 13 (number k)) _ a.1 in
    let c = or_false (eqb 15 (number k)) _ b.1 in
    let d = or_false (eqb 16 (number k)) _ c.1 in
    let f = or_false (eqb 17 (number k)) _ d.1 in
    let h = or_false (eqb 21 (number k)) _ f.1 in
    let i = or_false (eqb 22 (number k)) _ h.1 in
    record { not_12 = a.0; not_13 = b.0; not_15 = c.0; not_16 = d.0; not_17 = f.0; not_21 = h.0; not_22 = i.0; not_26 = i.1 }

memory_other : (k : Reason) (memory need : ℕ) → Other k → before k (memory_checks memory need) ≡ memory_checks memory need
unfolding before memory_checks
memory_other k memory need o = rw o.not_26 refl

enough : (memory need : ℕ) → need ≤ memory → Sound ≡ first (memory_checks memory need)
unfolding memory_checks
enough memory need h = passes WorkLength _ _ (le-ltb memory need h) ends_sound

module _ (g : Generator) (tau : Float) (cap : ℕ) (lent : List Float) where
  -- the plan is such a call too
  plan_is : taylor_plan g tau cap lent ≡ call g tau cap (listed g tau cap [] [] (length lent) g.stored) g.stored [] lent cost_alone
  unfolding taylor_plan taylor_plan_checks
  plan_is = refl

  module _ (xs ys : List Check) (need : ℕ) (output memory : List Float) (run : SweepPlan → Fields) (runs : ℕ)
      (counted : (p : SweepPlan) → (run p).applied ≡ runs * (p.s * p.m))
      (others : (k : Reason) → Other k → (before k xs ≡ xs) × (before k ys ≡ ys)) where
    abbrev checks : List Check
    checks = listed g tau cap xs ys (length memory) need

    abbrev ran : Call TaylorAnswer
    ran = call g tau cap checks need output memory run

    told : {r : TaylorReport} → ran.answer ≡ Ok r → g.stored ≤ length lent
        → (cost : ℕ) × ((taylor_plan g tau cap lent).answer ≡ Ok (record { s = r.s; m = r.m; mu = r.mu; applications = cost })) × (r.applications ≡ runs * cost)
    unfolding unless_refused after_plan cost_alone
    told {r} e room =
        let h = result_planned g tau cap xs ys need output memory run e in
        let s = sound_plan g.checks xs (plan_checks tau cap) ys (schedule_checks cap (norm g tau cap) tau) _ _ h.sound (enough (length lent) g.stored room) in
        subst
        (λ (r : TaylorReport). (cost : ℕ) × ((taylor_plan g tau cap lent).answer ≡ Ok (record { s = r.s; m = r.m; mu = r.mu; applications = cost })) × (r.applications ≡ runs * cost))
        h.is
        (h.plan.s * h.plan.m, rw (plan_is, ← s, h.has_plan) refl, counted h.plan)

    foretold : Foretold g tau cap lent runs (xs ++ ys) ran
    foretold =
        record {
          told = told;
          refused = λ {k} {x} o e.
              let n = others k (other k o) in
              rw plan_is
              (listed_refusal g tau cap [] [] g.stored [] lent cost_alone
              (to_plan g.checks xs (plan_checks tau cap) ys (schedule_checks cap (norm g tau cap) tau) _ _ n.0 n.1 (memory_other k _ _ (other k o)) (refusal_listed g tau cap xs ys need output memory run e)));
          refuses = λ {k} {x} o h e.
              listed_refusal g tau cap xs ys need output memory run
              (to_run g.checks xs (plan_checks tau cap) ys (schedule_checks cap (norm g tau cap) tau) _ _ h (memory_other k _ _ (other k o)) (refusal_listed g tau cap [] [] g.stored [] lent cost_alone (rw plan_is at e)));
        }

  -- ---- the three calls
  module _ (count : ℕ) (w output memory : List Float) where
    -- 15 to 17, 21 and 22
    abbrev rest : List Check
    rest =
        let n = g.matrix.n in
        let f = further n w in
        length_checks (length output) n (length w) (count * n) ++ (finite_checks w ++ magnitude_checks n f tau (count - 1) (eta_of n f tau (count - 1)).eta)

    combination_others : (k : Reason) → Other k → (before k (count_checks count) ≡ count_checks count) × (before k rest ≡ rest)
    unfolding before count_checks length_checks finite_checks magnitude_checks
    combination_others k o = (rw o.not_12 refl, rw (o.not_15, o.not_16, o.not_17, o.not_21, o.not_22) refl)

    combination_listed : combination_checks g tau cap count w (length output) (length memory) ≡ listed g tau cap (count_checks count) rest (length memory) (taylor_need g.matrix.n (count - 1) g.stored)
    unfolding combination_checks vector_checks vector_checks_by sweep_checks count_checks plan_checks time_checks degree_checks length_checks finite_checks magnitude_checks
    combination_listed = refl

    combination_foretold : Foretold g tau cap lent 1 (combination_own g tau count w (length output)) (phi_combination g tau cap count w output memory)
    unfolding phi_combination combination_run
    combination_foretold = rw combination_listed (foretold (count_checks count) rest _ output memory _ 1 (λ p. soak_counted _ tau _ p ∙ sym (one-mul _)) combination_others)

  module _ (k : ℕ) (v output memory : List Float) where
    module _ (wanted : ℕ) where
      abbrev of_field : List Check
      of_field = length_checks (length output) wanted (length v) g.matrix.n ++ finite_checks v

      action_others : (i : Reason) → Other i → (before i (index_checks k) ≡ index_checks k) × (before i of_field ≡ of_field)
      unfolding before index_checks length_checks finite_checks
      action_others i o = (rw o.not_13 refl, rw (o.not_15, o.not_16, o.not_17) refl)

      action_listed : action_checks g tau cap k v (length output) wanted (length memory) ≡ listed g tau cap (index_checks k) of_field (length memory) (taylor_need g.matrix.n 3 g.stored)
      unfolding action_checks job_checks index_checks plan_checks time_checks degree_checks length_checks finite_checks
      action_listed = refl

    action_foretold : Foretold g tau cap lent 1 (action_own g k v (length output) g.matrix.n) (phi_action g tau cap k v output memory)
    unfolding phi_action
    action_foretold = rw (action_listed g.matrix.n) (foretold (index_checks k) (of_field g.matrix.n) _ output memory _ 1 (λ p. soak_counted _ tau _ p ∙ sym (one-mul _)) (action_others g.matrix.n))

    batch_foretold : Foretold g tau cap lent (suc k) (action_own g k v (length output) (suc k * g.matrix.n)) (phi_action_batched g tau cap k v output memory)
    unfolding phi_action_batched
    batch_foretold =
        rw (action_listed (suc k * g.matrix.n))
        (foretold (index_checks k) (of_field (suc k * g.matrix.n)) _ output memory _ (suc k) (λ p. batch_counted _ tau v _ p (suc k)) (action_others (suc k * g.matrix.n)))

  pub plan_ahead : PlanAhead g tau cap lent
  plan_ahead = record { combination = combination_foretold; action = action_foretold; batch = batch_foretold }
