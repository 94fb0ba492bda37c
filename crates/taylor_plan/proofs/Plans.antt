-- A plan by the quotients in the lent memory, from the row that the checks found to the answer. Assumes nothing.
use Rattle.std.specs.Prelude.{Option, Some, Result, Ok}
use mathlib.Core.Path.{◌≡◌, refl, sym, ◌∙◌}
use mathlib.Core.Bool.{true}
use mathlib.Core.List.{List, []}
use Prim.Native.Nat.{ℕ, ◌+◌, ◌*◌, ◌≤◌}
use native.Mathlib.Omega.{arith}
use lib.ListN.{length}
use lib.Ieee.{Float}
use Rattle.lists.specs.Window.{splice}
use Rattle.lists.proofs.Frame.{kept_all}
use Rattle.doubles.specs.F64.{+0}
use Rattle.checks.specs.First.{Check, first, or_first}
use Rattle.checks.proofs.First.{sound_on, sound_append, refused_up, err_first, ok_first}
use Rattle.general_operator.specs.Csr.{Csr, csr}
use Rattle.generator_action.specs.Mass.{Mass, given, quotients, stored}
use Rattle.generator_action.specs.Generator.{Generator}
use Rattle.generator_action.specs.Known.{Passed}
use Rattle.generator_action.specs.declared.Shape.{Shape}
use Rattle.csr_shift.specs.Shift.{negated_csr_shift}
use Rattle.csr_shift.specs.declared.Shifted.{Shifted}
use Rattle.expmv.specs.declared.Row.{Row}
use Rattle.phi_action_helpers.specs.declared.Layout.{Layout}
use Rattle.phi_action_helpers.specs.declared.SweepPlan.{SweepPlan}
use Rattle.phi_action_helpers.specs.Laid.{matrix_at}
use Rattle.phi_shift.specs.Plan.{with_shift, sweep_plan}
use Rattle.phi_shift.proofs.Ways as plan_ways
use Rattle.combination.specs.Checks.{plan_checks}
use Rattle.combination.specs.Call.{ends, cleared}
use Rattle.combination.proofs.Ends.{refused_by, runs}
use Rattle.taylor_schedule.specs.Inner.{scheduled, matrix_of, after_checks}
use Rattle.checks.specs.declared.Refusal.{Refusal}
use Rattle.taylor_schedule.proofs.Admitted.{Planned, planned_known}
use Rattle.taylor_schedule.proofs.Stored.{Held, store_fits, matrix_is, cleared_is}
use Rattle.taylor_job.specs.Calls.{TaylorAnswer}
use Rattle.taylor_job.specs.Calls.{after_plan, report}
use Rattle.taylor_plan.specs.Inner.{plan_refusals, quotients_alone}
use Rattle.taylor_plan.specs.TaylorPlan.{taylor_plan_checks, cost_alone, taylor_plan}
use Rattle.checks.specs.Reasons.{Sound, Refused}
use Rattle.checks.specs.declared.Reason.{Reason}

-- 24 to 26 passed: the schedule has a row, and the quotients have room
pub admitted_known : (g : Shape) (tau : Float) (cap memory : ℕ) {row : Row} → or_first (plan_refusals g tau cap memory) (scheduled cap g.norm tau) ≡ Ok row → Planned tau cap g.norm memory g.stored
admitted_known g tau cap memory h = planned_known g.norm tau cap memory g.stored (sound_append (plan_checks tau cap) _ (sym (ok_first _ _ h).0)).1

module _ {starts cols : List ℕ} {vals : List Float} (mass : List Float) {g : Shape} (ok : Passed (csr g.n starts cols vals) (given g.with_mass mass) g) where
  abbrev a : Csr
  a = csr g.n starts cols vals

  abbrev m : Mass
  m = given g.with_mass mass

  -- ---- the plan
  module _ (w₀ : List Float) (room : g.stored ≤ length w₀) {l : Layout} (el : l ≡ quotients_alone g.n g.with_mass) where
    pub held : Held starts cols vals mass g 0 g.stored l w₀
    held = rw el (record { passed = ok; enough = room; rows = refl; chain = refl; given_mass = refl; behind = omega arith })

    module _ {w₁ : List Float} (e₁ : w₁ ≡ splice 0 (stored a m) w₀) where
      pub written : w₁ ≡ splice l.q (stored a m) w₀
      written = rw el e₁

      pub shifted_is : (cap : ℕ) (tau : Float) (row : Row) {shift : Option Shifted} {p : SweepPlan} → shift ≡ negated_csr_shift (matrix_at l starts cols vals w₁) g.norm → p ≡ with_shift cap tau row shift
          → p ≡ with_shift cap tau row (negated_csr_shift (matrix_of g starts cols vals mass) g.norm)
      shifted_is cap tau row e f = f ∙ rw (e, matrix_is held written) refl

  pub quotients_fit : (w₀ : List Float) → g.stored ≤ length w₀ → g.with_mass ≡ true → 0 + length vals ≤ length w₀
  quotients_fit w₀ room = store_fits (held w₀ room {l = quotients_alone g.n g.with_mass} refl)

  -- ---- the answer
  module _ (w₀ : List Float) (gs : List Check) (sound : Sound ≡ first gs) (tau : Float) (cap : ℕ) {r : Result Row Refusal} (er : r ≡ or_first (plan_refusals g tau cap (length w₀)) (scheduled cap g.norm tau)) where
    told : first (plan_refusals g tau cap (length w₀)) ≡ first (taylor_plan_checks (after_checks gs a m g) tau cap (length w₀))
    unfolding taylor_plan_checks
    told = sound_on gs _ refl sound (rw (← ok.norm) refl)

    pub refused_is : {k : Reason} {x : Float} → r ≡ Refused k x → ends (Refused k x) [] w₀ ≡ taylor_plan (after_checks gs a m g) tau cap w₀
    unfolding taylor_plan
    refused_is e = refused_by Refused _ [] w₀ _ (err_first _ _ (sym er ∙ e)) told

    module _ {row : Row} {p : SweepPlan} (passes : r ≡ Ok row) (ep : p ≡ with_shift cap tau row (negated_csr_shift (matrix_of g starts cols vals mass) g.norm)) where
      -- the row that the checks found has this plan
      has_plan : Some p ≡ sweep_plan cap tau (quotients a m) g.norm
      has_plan = plan_ways.planned cap tau (quotients a m) g.norm refl refl (admitted_known g tau cap (length w₀) (sym er ∙ passes)).row refl (ep ∙ rw (ok_first _ _ (sym er ∙ passes)).1 refl)

      pub planned_is : {cost : ℕ} {x : TaylorAnswer} {w₁ w₂ : List Float} → cost ≡ p.s * p.m
          → w₁ ≡ splice 0 (stored a m) w₀
          → x ≡ report p cost
          → w₂ ≡ cleared g.stored w₁
          → ends x [] w₂ ≡ taylor_plan (after_checks gs a m g) tau cap w₀
      unfolding taylor_plan after_plan cost_alone
      planned_is {w₁ = w₁} ec e₁ ex e₂ =
          let h = held w₀ (admitted_known g tau cap (length w₀) (sym er ∙ passes)).room {l = quotients_alone g.n g.with_mass} refl in
          let clear = cleared_is h e₁ (kept_all 0 0 +0 w₁) e₂ in
          runs Refused _ [] w₀ _ (ok_first _ _ (sym er ∙ passes)).0 told (rw (ex, ec, clear, ← ok.norm, ← has_plan) refl)

-- a refusal by a check of the generator
pub generator_refused : (g : Generator) (tau : Float) (cap : ℕ) (w₀ : List Float) {i : Reason} {x : Float} → Refused i x ≡ first g.checks → ends (Refused i x) [] w₀ ≡ taylor_plan g tau cap w₀
unfolding taylor_plan taylor_plan_checks
generator_refused g tau cap w₀ e = refused_by Refused _ [] w₀ _ refl (refused_up g.checks _ refl e)
