-- 23 never occurs in a soak in stages (document 02, N14). Assumes nothing.
use Rattle.std.specs.Prelude.{Option, Some, None}
use mathlib.Core.Path.{◌≡◌, refl, sym, ap, ◌∙◌}
use mathlib.Core.Bool.{Bool}
use mathlib.Core.List.{List, ◌∷◌, ◌++◌}
use Prim.Native.Nat.{ℕ, zero, ◌<◌}
use native.Mathlib.Omega.{arith}
use lib.ListN.{length}
use lib.Ieee.{Float}
use Rattle.lists.specs.Walk.{Turn, on, out}
use Rattle.checks.specs.First.{Check, refuse, first, before}
use Rattle.checks.specs.First.{Checked}
use Rattle.checks.proofs.Numbers.{before_append, not_by}
use Rattle.general_operator.specs.Csr.{row_sum_norm}
use Rattle.generator_action.specs.Generator.{Generator}
use Rattle.phi_action_helpers.specs.declared.SweepPlan.{SweepPlan}
use Rattle.combination.specs.Call.{Call, unless_refused}
use Rattle.combination.specs.Checks.{out_of_range, count_checks, time_checks, degree_checks, plan_checks, length_checks}
use Rattle.taylor_job.specs.Calls.{Fields, after_plan, combination_checks, combination_run, phi_combination}
use Rattle.taylor_job.specs.Calls.{TaylorAnswer}
use Rattle.krylov_advance.specs.Run.{End, State, finished, refused}
use Rattle.krylov_job.specs.KrylovCall.{krylov_checks, after_run, combination_run_krylov, phi_combination_krylov}
use Rattle.phi_solver.specs.Combine.{of_taylor, of_krylov, answering, combine}
use Rattle.krylov_job.specs.KrylovCall.{KrylovAnswer}
use Rattle.phi_solver.specs.declared.PhiSolver.{PhiSolver}
use Rattle.phi_solver.specs.declared.PhiSolver.TheVariants as solver
use Rattle.demand_3.specs.Demand3.{start_of}
use Rattle.demand_3.proofs.Krylov.{expv_late}
use Rattle.demand_3.proofs.Never23.{InRange, never_23, combination_no_number, krylov_no_number}
use Rattle.schedule_checks.specs.declared.Stage.{Stage}
use Rattle.schedule_checks.specs.Schedule.{StagedAnswer, refused_at, Schedule, stages_of, schedule_checks, stage_checks, Progress}
use Rattle.stage_calls.specs.Stages.{stage_step, concluded, begun, before_stages, staged}
use Rattle.stages_claims.proofs.Walks.{ended_at}
use Rattle.stages_claims.proofs.Reached.{stands, checks_at, Outcome, early, late, result, outcome}
use Rattle.checks.specs.Reasons.{number, refusal, Refused}
use Rattle.checks.proofs.First.{err_is, same_reason}
use Rattle.phi_solver.specs.declared.PhiReport.{PhiReport}
use Rattle.schedule_checks.specs.declared.StageRefusal.{StageRefusal}
use Rattle.std.specs.Prelude.{Ok, Err}
use Rattle.checks.specs.declared.Reason.{Reason}
use Rattle.checks.specs.declared.Reason.TheVariants.{NormRange}

-- ---- put back anywhere behind a generator's checks and a stage's list it changes no first refusal
pub stage_never_23 : (g : Generator) → InRange g → (n : ℕ) (s : Stage) (last : Bool) (output field used further : ℕ) (ps cs : List Check)
    → first (g.checks ++ ((stage_checks n s last output field used further ++ ps) ++ (refuse NormRange (out_of_range (row_sum_norm g.matrix)) (row_sum_norm g.matrix) ∷ cs)))
    ≡ first (g.checks ++ ((stage_checks n s last output field used further ++ ps) ++ cs))
stage_never_23 g h n s last output field used further ps cs = never_23 g h (stage_checks n s last output field used further ++ ps) cs

-- ---- no list has its number
list_no_number : (n : ℕ) (s : Stage) (last : Bool) (output field used further : ℕ) → before NormRange (stage_checks n s last output field used further) ≡ stage_checks n s last output field used further
unfolding before stage_checks count_checks time_checks degree_checks plan_checks length_checks
list_no_number n s last output field used further = go s.solver
  where
    go : (x : PhiSolver) → before NormRange (stage_checks n (record { tau = s.tau; count = s.count; solver = x }) last output field used further) ≡ stage_checks n (record { tau = s.tau; count = s.count; solver = x }) last output field used further
    go (solver.Taylor cap) = refl
    go (solver.Krylov o) = refl

number_is : {j k : Reason} {x y : Float} → Refused {A = PhiReport} j x ≡ Refused {A = PhiReport} k y → j ≡ k
number_is e = same_reason e

-- ---- nor is it the number of a single call's refusal
module _ (g : Generator) (h : InRange g) (tau : Float) (count : ℕ) (w output memory : List Float) where
  by_plan : (need : ℕ) (t norm : Float) (x : Option SweepPlan) (run : SweepPlan → Fields) {y : Float} → of_taylor (after_plan need t norm output memory x run).answer ≡ Refused NormRange y → zero ≡ 1
  unfolding after_plan of_taylor
  by_plan need t norm None run e = let z = ap number (number_is e) in absurd (omega (arith, z))
  by_plan need t norm (Some p) run e = cc

  by_taylor : (x : Checked) (c : Call TaylorAnswer) {y : Float} → ((z : Float) → x ≡ Refused NormRange z → ⊥) → (of_taylor c.answer ≡ Refused NormRange y → zero ≡ 1)
      → of_taylor (unless_refused Refused x output memory c).answer ≡ Refused NormRange y → ⊥
  unfolding unless_refused of_taylor
  by_taylor (Err r) c n f e = n r.value (λ j. Refused (number_is e j) r.value)
  by_taylor (Ok _) c n f e = absurd (omega (arith, f e))

  by_run : (n need : ℕ) (e : End) {y : Float} → ((r : Reason) (z : Float) (s : State) → e ≡ refused r z s → (26 < number r) × (number r < 30)) → of_krylov (after_run n need memory e).answer ≡ Refused NormRange y → zero ≡ 1
  unfolding after_run of_krylov
  by_run n need (finished s) l e = cc
  by_run n need (refused k x s) l e = let b = l k x s refl in let z = ap number (number_is e) in absurd (omega (arith, b.0, z))

  by_krylov : (x : Checked) (c : Call KrylovAnswer) {y : Float} → ((z : Float) → x ≡ Refused NormRange z → ⊥) → (of_krylov c.answer ≡ Refused NormRange y → zero ≡ 1)
      → of_krylov (unless_refused Refused x output memory c).answer ≡ Refused NormRange y → ⊥
  unfolding unless_refused of_krylov
  by_krylov (Err r) c n f e = n r.value (λ j. Refused (number_is e j) r.value)
  by_krylov (Ok _) c n f e = absurd (omega (arith, f e))

  pub call_never_23 : (s : PhiSolver) {y : Float} → (combine s g tau count w output memory).answer ≡ Refused NormRange y → ⊥
  unfolding combine answering phi_combination combination_run phi_combination_krylov combination_run_krylov
  call_never_23 (solver.Taylor cap) e =
      by_taylor _ _ (λ z f. not_by NormRange (combination_checks g tau cap count w (length output) (length memory)) (combination_no_number g h tau cap count w (length output) (length memory)) (sym f)) (by_plan _ _ _ _ _) e
  call_never_23 (solver.Krylov o) e =
      by_krylov _ _ (λ z f. not_by NormRange (krylov_checks g tau count w o (length output) (length memory)) (krylov_no_number g h tau count w o (length output) (length memory)) (sym f))
      (by_run _ _ _ (λ r z s. expv_late _ tau _ o.tol o.m o.max_substeps (start_of g tau count w))) e

-- ---- nor of the whole
module _ (g : Generator) (h : InRange g) (s : Schedule) (start further output memory : List Float) where
  schedule_no_number : before NormRange (g.checks ++ schedule_checks s) ≡ g.checks ++ schedule_checks s
  unfolding before schedule_checks
  schedule_no_number = before_append NormRange g.checks _ h.unnumbered

  numbers : {j k : Reason} {x y : Float} {a b : ℕ} → refused_at (refusal j x) a ≡ refused_at (refusal k y) b → j ≡ k
  numbers e = ap (λ (r : StageRefusal). r.refusal.reason) (err_is e)

  same : {x y : Call StagedAnswer} → ◌≡◌ {A = Turn Progress (Call StagedAnswer)} (out x) (out y) → x ≡ y
  same e = cc

  differ : {x : Progress} {y : Call StagedAnswer} → ◌≡◌ {A = Turn Progress (Call StagedAnswer)} (on x) (out y) → zero ≡ 1
  differ e = cc

  staged_not : {k : Reason} {x : Float} {i : ℕ} {r : _} → ◌≡◌ {A = StagedAnswer} (Ok r) (refused_at (refusal k x) i) → zero ≡ 1
  staged_not e = cc

  by_outcome : (e : Call StagedAnswer) {x : Float} {i : ℕ} → e.answer ≡ refused_at (refusal NormRange x) i → (j : ℕ) (p : Progress) → stage_step g s further j p ≡ out e → Outcome g s start further output memory j p → ⊥
  by_outcome e n j p d (early k y b c) =
      let q = numbers (ap (λ (z : Call StagedAnswer). z.answer) (same (sym c ∙ d)) ∙ n) in
      not_by NormRange (checks_at g s start further output memory j p) (list_no_number _ _ _ _ _ _ _) (sym (b ∙ (λ i. Refused (q i) y)))
  by_outcome e n j p d (late k y b c f) =
      let q = numbers (ap (λ (z : Call StagedAnswer). z.answer) (same (sym f ∙ d)) ∙ n) in
      call_never_23 g h _ _ _ p.output p.memory _ (c ∙ (λ i. Refused (q i) y))
  by_outcome e n j p d (result b c f) = absurd (omega (arith, differ (sym f ∙ d)))

  pub staged_never_23 : {x : Float} {i : ℕ} → (staged g s start further output memory).answer ≡ refused_at (refusal NormRange x) i → ⊥
  unfolding staged unless_refused concluded
  staged_never_23 {x} {i} e = by_checks (first (g.checks ++ schedule_checks s)) refl e
    where
      by_stand : (t : Turn Progress (Call StagedAnswer)) → stands g s start further output memory (stages_of s) ≡ t → (concluded t).answer ≡ refused_at (refusal NormRange x) i → ⊥
      by_stand (on p) d f = absurd (omega (arith, staged_not f))
      by_stand (out y) d f =
          let a = ended_at (stage_step g s further) (begun start output memory) (stages_of s) y d in
          by_outcome y f a.turn a.state a.ended (outcome g s start further output memory a.turn a.state)

      by_checks : (c : Checked) → first (g.checks ++ schedule_checks s) ≡ c
          → (unless_refused before_stages c output memory (concluded (stands g s start further output memory (stages_of s)))).answer ≡ refused_at (refusal NormRange x) i → ⊥
      by_checks (Err r) d f = not_by NormRange (g.checks ++ schedule_checks s) schedule_no_number (sym (d ∙ (λ j. Refused (numbers f j) r.value)))
      by_checks (Ok _) d f = by_stand (stands g s start further output memory (stages_of s)) refl f
