-- A record and its single call. Assumes nothing.
use Rattle.std.specs.Prelude.{Option, Some}
use mathlib.Core.Path.{◌≡◌, refl, sym, ap, ◌∙◌, subst}
use mathlib.Core.List.{List, [], ◌++◌}
use Prim.Native.Nat.{ℕ, ◌+◌, ◌-◌, ◌≤◌}
use native.Mathlib.Omega.{arith}
use lib.ListN.{length}
use lib.Ieee.{Float}
use borrow.Author.Tests.{le-ltb}
use Rattle.vectors.specs.Vectors.{scale}
use Rattle.checks.specs.First.{Check, first}
use Rattle.checks.specs.First.{Checked}
use Rattle.checks.proofs.First.{sound_append, sound_on, passes, ends_sound}
use Rattle.general_operator.specs.Csr.{row_sum_norm}
use Rattle.generator_action.specs.Generator.{Generator}
use Rattle.expmv.specs.Select.{M_MAX}
use Rattle.phi_action_helpers.specs.declared.SweepPlan.{SweepPlan}
use Rattle.phi_shift.specs.Plan.{sweep_plan}
use Rattle.phi_shift.proofs.Ways as plan_ways
use Rattle.combination.specs.Combination.{further, eta_of, combination_operator, combination_start}
use Rattle.combination.specs.Call.{Call, ends, unless_refused, cleared}
use Rattle.combination.specs.Checks.{plan_checks, vector_checks, magnitude_checks, schedule_checks, memory_checks, sweep_checks, taylor_need}
use Rattle.taylor_schedule.proofs.Admitted.{sweeps_known}
use Rattle.taylor_job.specs.Calls.{Fields, after_plan, swept_fields, combination_checks, combination_run, phi_combination}
use Rattle.taylor_job.specs.Calls.{TaylorAnswer}
use Rattle.ambient_record.specs.Record.{wider, record_call}
use Rattle.ambient_record.proofs.OneRecord.{checks_wider}
use Rattle.ambient_claims.specs.Ran.{Gave, record_need}
use Rattle.checks.specs.Reasons.{Sound, Refused}
use Rattle.std.specs.Prelude.{Ok, Err}
use Rattle.checks.specs.declared.Reason.TheVariants.{WorkLength}
use Rattle.checks.specs.declared.Reason.{Reason}

module _ (g : Generator) (tau level : Float) (f load o m : List Float) where
  abbrev w : List Float
  w = f ++ scale level load

  abbrev n : ℕ
  n = g.matrix.n

  abbrev single : Call TaylorAnswer
  single = phi_combination g tau 30 2 w o m

  abbrev less : List Check
  less = combination_checks g tau 30 2 w (length o) (length m - n)

  -- ---- the checks of a record are those of its call, of n doubles less
  call_by : Checked → Call TaylorAnswer
  call_by r = unless_refused Refused r o m (combination_run (wider g) tau M_MAX 1 w (further n w) o m)

  record_by : {r : Checked} → first less ≡ r → record_call g tau level f load o m ≡ call_by r
  unfolding record_call phi_combination call_by
  record_by e = ap (λ (r : Checked). unless_refused Refused r o m (combination_run (wider g) tau M_MAX 1 w (further n w) o m)) (ap first (checks_wider g tau M_MAX w (length o) (length m)) ∙ e)

  pub refused_record : {k : Reason} {x : Float} → first less ≡ Refused k x → record_call g tau level f load o m ≡ ends (Refused k x) o m
  unfolding call_by unless_refused
  refused_record e = record_by e

  -- ---- where they pass there is a plan, for the record and for its call
  need_is : taylor_need n 1 (g.stored + n) ≡ record_need g
  unfolding taylor_need
  need_is = omega arith

  room_of : (memory : ℕ) → Sound ≡ first (combination_checks g tau 30 2 w (length o) memory) → taylor_need n 1 g.stored ≤ memory
  unfolding combination_checks
  room_of memory e =
      (sweeps_known n tau 30 1 (further n w) (row_sum_norm g.matrix) memory _ (sound_append (vector_checks n (plan_checks tau 30) 2 w (length o)) _ (sound_append g.checks _ e).1).1).room

  pub record Planned : Type 0 where
    pub plan : SweepPlan
    pub is : sweep_plan 30 tau g.matrix (row_sum_norm g.matrix) ≡ Some plan

  plan_of : (memory : ℕ) → Sound ≡ first (combination_checks g tau 30 2 w (length o) memory) → Planned
  unfolding combination_checks
  plan_of memory e =
      let q = g.matrix in
      let norm = row_sum_norm q in
      let p = sweeps_known n tau 30 1 (further n w) norm memory _ (sound_append (vector_checks n (plan_checks tau 30) 2 w (length o)) _ (sound_append g.checks _ e).1).1 in
      record { plan = _; is = sym (plan_ways.planned 30 tau q norm refl refl p.row refl refl) }

  -- ---- other memory: all checks but 26 are the same
  other_room : (a b : ℕ) → Sound ≡ first (combination_checks g tau 30 2 w (length o) a) → taylor_need n 1 g.stored ≤ b → Sound ≡ first (combination_checks g tau 30 2 w (length o) b)
  unfolding combination_checks sweep_checks memory_checks
  other_room a b e l =
      let c = sound_append g.checks _ e in
      let v = sound_append (vector_checks n (plan_checks tau 30) 2 w (length o)) _ c.1 in
      let x = sound_append (magnitude_checks n (further n w) tau 1 (eta_of n (further n w) tau 1).eta) _ v.1 in
      let s = sound_append (schedule_checks 30 (row_sum_norm g.matrix) tau) _ x.1 in
      sound_on g.checks _ refl c.0
      (sound_on (vector_checks n (plan_checks tau 30) 2 w (length o)) _ refl v.0
      (sound_on (magnitude_checks n (further n w) tau 1 (eta_of n (further n w) tau 1).eta) _ refl x.0
      (sound_on (schedule_checks 30 (row_sum_norm g.matrix) tau) _ refl s.0 (passes WorkLength _ [] (le-ltb b _ l) ends_sound))))

  -- ---- a record whose checks pass: its call gave a result, n doubles more are there, and the record leaves the call's field with more cleared
  pub record Passed : Type 0 where
    pub gave : Gave single.answer
    pub room : record_need g ≤ length m
    pub is : record_call g tau level f load o m ≡ ends single.answer single.output (cleared (record_need g) m)

  passed_run : (p : Option SweepPlan) (plan : SweepPlan) (run : SweepPlan → Fields) (norm : Float) (a b : ℕ) → p ≡ Some plan
      → Gave (after_plan a tau norm o m p run).answer × (after_plan b tau norm o m p run ≡ ends (after_plan a tau norm o m p run).answer (after_plan a tau norm o m p run).output (cleared b m))
  unfolding after_plan
  passed_run p plan run norm a b e = rw e (tt, refl)

  pub passed_record : Sound ≡ first less → Passed
  unfolding phi_combination unless_refused combination_run call_by taylor_need
  passed_record e =
      let P = plan_of (length m - n) e in
      let l = room_of (length m - n) e in
      let q = g.matrix in
      let run = swept_fields (combination_operator q (further n w) tau 1 (eta_of n (further n w) tau 1).eta) tau (combination_start n w 1 (eta_of n (further n w) tau 1).inv) in
      let x = passed_run (sweep_plan 30 tau q (row_sum_norm q)) P.plan run (row_sum_norm q) (taylor_need n 1 g.stored) (taylor_need n 1 (g.stored + n)) P.is in
      let s : single ≡ combination_run g tau 30 1 w (further n w) o m = ap (λ (r : Checked). unless_refused Refused r o m (combination_run g tau 30 1 w (further n w) o m)) (sym (other_room (length m - n) (length m) e (omega (arith, l)))) in
      record {
        gave = subst (λ (c : Call TaylorAnswer). Gave c.answer) (sym s) x.0;
        room = omega (arith, l);
        is = record_by (sym e) ∙ x.1 ∙ (λ i. ends (sym s i).answer (sym s i).output (cleared (need_is i) m));
      }

  -- and the other way round
  gave_sound : (r : Checked) (c : Call TaylorAnswer) → Gave (unless_refused Refused r o m c).answer → Sound ≡ r
  unfolding unless_refused
  gave_sound (Ok _) c h = refl
  gave_sound (Err r) c h = absurd h

  pub ran_sound : Gave single.answer → record_need g ≤ length m → Sound ≡ first less
  unfolding phi_combination taylor_need
  ran_sound h l = other_room (length m) (length m - n) (gave_sound _ _ h) (omega (arith, l))
