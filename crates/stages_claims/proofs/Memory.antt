-- After i stages with results the working memory is cleared up to the largest need so far. Assumes nothing.
use Rattle.std.specs.Prelude.{Option, Some, None}
use Rattle.std.specs.Prelude.{if◌then◌else◌}
use mathlib.Core.Path.{◌≡◌, refl, sym, ap, ◌∙◌}
use mathlib.Core.Bool.{Bool, true, false}
use mathlib.Core.List.{List}
use Prim.Native.Nat.{ℕ, zero, suc}
use native.Mathlib.Omega.{arith}
use lib.Dec.{ltb}
use lib.ListN.{get_or}
use lib.Ieee.{Float, nan}
use borrow.Author.Tests.{ltb-true, ltb-false}
use Rattle.lists.proofs.Window.{splice_nil}
use Rattle.checks.specs.First.{Checked}
use Rattle.generator_action.specs.Generator.{Generator}
use Rattle.phi_action_helpers.specs.declared.SweepPlan.{SweepPlan}
use Rattle.combination.specs.Call.{Call, unless_refused, cleared}
use Rattle.combination.proofs.Cleared.{cleared_less, cleared_more}
use Rattle.taylor_job.specs.Calls.{Fields, after_plan, combination_run, phi_combination}
use Rattle.taylor_job.specs.Calls.{TaylorAnswer}
use Rattle.krylov_advance.specs.Run.{End, finished, refused}
use Rattle.krylov_job.specs.KrylovCall.{after_run, combination_run_krylov, phi_combination_krylov}
use Rattle.phi_solver.specs.Combine.{of_taylor, of_krylov, answering, combine}
use Rattle.krylov_job.specs.KrylovCall.{KrylovAnswer}
use Rattle.phi_solver.specs.declared.PhiSolver.{PhiSolver}
use Rattle.phi_solver.specs.declared.PhiSolver.TheVariants as solver
use Rattle.phi_solver.specs.Combine.{PhiAnswer}
use Rattle.schedule_checks.specs.Schedule.{Schedule}
use Rattle.stages_claims.specs.Passing.{need_of, larger, largest_need}
use Rattle.stages_claims.specs.Ran.{solver_at, count_at, Gave, Ran}
use Rattle.checks.specs.Reasons.{Refused}
use Rattle.std.specs.Prelude.{Ok, Err}

-- ---- cleared twice
cleared_both : (a b : ℕ) (w : List Float) → cleared b (cleared a w) ≡ cleared (larger a b) w
cleared_both a b w = go (ltb a b) refl
  where
    go : (t : Bool) → ltb a b ≡ t → cleared b (cleared a w) ≡ cleared (if t then b else a) w
    go true e = let l = ltb-true a b e in cleared_less a b w (omega (arith, l))
    go false e = let l = ltb-false a b e in cleared_more a b w l

-- ---- a call that gave a result clears what it needed
module _ (g : Generator) (tau : Float) (count : ℕ) (w output memory : List Float) where
  after_plan_cleared : (need : ℕ) (t norm : Float) (x : Option SweepPlan) (run : SweepPlan → Fields) → Gave (of_taylor (after_plan need t norm output memory x run).answer) → (after_plan need t norm output memory x run).memory ≡ cleared need memory
  unfolding after_plan of_taylor
  after_plan_cleared need t norm None run h = absurd h
  after_plan_cleared need t norm (Some p) run h = refl

  after_run_cleared : (n need : ℕ) (e : End) → (after_run n need memory e).memory ≡ cleared need memory
  unfolding after_run
  after_run_cleared n need (finished s) = refl
  after_run_cleared n need (refused k x s) = refl

  by_taylor : (x : Checked) (need : ℕ) (c : Call TaylorAnswer) → (Gave (of_taylor c.answer) → c.memory ≡ cleared need memory)
      → Gave (of_taylor (unless_refused Refused x output memory c).answer) → (unless_refused Refused x output memory c).memory ≡ cleared need memory
  unfolding unless_refused of_taylor
  by_taylor (Err r) need c f h = absurd h
  by_taylor (Ok _) need c f h = f h

  by_krylov : (x : Checked) (need : ℕ) (c : Call KrylovAnswer) → c.memory ≡ cleared need memory
      → Gave (of_krylov (unless_refused Refused x output memory c).answer) → (unless_refused Refused x output memory c).memory ≡ cleared need memory
  unfolding unless_refused of_krylov
  by_krylov (Err r) need c f h = absurd h
  by_krylov (Ok _) need c f h = f

  pub call_cleared : (s : PhiSolver) → Gave (combine s g tau count w output memory).answer → (combine s g tau count w output memory).memory ≡ cleared (need_of s g count) memory
  unfolding combine answering phi_combination combination_run phi_combination_krylov combination_run_krylov
  call_cleared (solver.Taylor cap) h = by_taylor _ _ _ (after_plan_cleared _ _ _ _ _) h
  call_cleared (solver.Krylov o) h = by_krylov _ _ _ (after_run_cleared _ _ _) h

-- ---- after i results
pub memory_cleared : (g : Generator) (s : Schedule) (start further output memory : List Float) (i : ℕ) (f o m : List Float) (xs : List PhiAnswer) → Ran g s start further output memory i f o m xs → m ≡ cleared (largest_need g s i) memory
unfolding Ran largest_need
memory_cleared g s start further output memory zero f o m xs r = r.2 ∙ unfold cleared in sym (splice_nil 0 memory)
memory_cleared g s start further output memory (suc i) f o m xs r =
    r.memory_is
    ∙ call_cleared g (get_or s.taus i nan) (count_at s i) _ r.out r.lent (solver_at s i) r.gave
    ∙ ap (cleared (need_of (solver_at s i) g (count_at s i))) (memory_cleared g s start further output memory i r.field r.out r.lent r.answers r.earlier)
    ∙ cleared_both (largest_need g s i) (need_of (solver_at s i) g (count_at s i)) memory
