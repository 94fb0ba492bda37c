-- A job in the lent memory, from its first field to its end. Assumes nothing.
use Rattle.std.specs.Prelude.{Option, Some}
use mathlib.Core.Path.{◌≡◌, refl, sym, ap, ◌∙◌}
use mathlib.Core.List.{List}
use Prim.Native.Nat.{ℕ, ◌+◌, ◌≤◌}
use native.Mathlib.Omega.{arith}
use lib.ListN.{length}
use lib.Ieee.{Float}
use Rattle.lists.specs.Window.{window, splice}
use Rattle.lists.specs.Frame.{Kept}
use Rattle.lists.proofs.Window.{length_window, window_splice_same, splice_whole}
use Rattle.doubles.specs.F64.{+0}
use Rattle.general_operator.specs.Csr.{Csr, csr}
use Rattle.generator_action.specs.Mass.{given, stored}
use Rattle.csr_shift.specs.Shift.{negated_csr_shift}
use Rattle.csr_shift.specs.declared.Shifted.{Shifted}
use Rattle.expmv.specs.Select.{Bounds}
use Rattle.phi_action_helpers.specs.declared.SweepPlan.{SweepPlan}
use Rattle.phi_action_helpers.specs.declared.Layout.{Layout}
use Rattle.phi_action_helpers.specs.Augmented.{Augmented}
use Rattle.phi_action_helpers.specs.Laid.{ReadyAt, Lined, matrix_at, operator_at}
use Rattle.phi_action_helpers.proofs.Counts.{run_long}
use Rattle.phi_shift.specs.Plan.{with_shift, sweep_plan}
use Rattle.phi_shift.proofs.Chosen.{plan_bounded}
use Rattle.phi_shift.proofs.Ways as plan_ways
use Rattle.combination.specs.Call.{Call, ends, cleared}
use Rattle.combination.specs.Checks.{taylor_need}
use Rattle.taylor_schedule.specs.Inner.{Coupled, matrix_of}
use Rattle.taylor_schedule.specs.declared.Job.{Job}
use Rattle.combination.proofs.Cleared.{clear_over}
use Rattle.taylor_schedule.proofs.Stored.{Held, long₁, matrix_is, front_is, cleared_is, operator_is}
use Rattle.taylor_schedule.proofs.Stored as stored_laws
use Rattle.taylor_job.specs.Calls.{Fields, after_plan, report, swept_fields}
use Rattle.taylor_job.specs.Inner.{layout, Allowed, plan_by, operator_by, job_end}
use Rattle.taylor_job.specs.Calls.{TaylorAnswer}

-- ---- the output
pub soak_long : (b : Augmented) (tau : Float) (y : List Float) (p : SweepPlan) → length y ≡ b.matrix.n + b.d → length (swept_fields b tau y p).fields ≡ b.matrix.n
unfolding swept_fields
soak_long b tau y p h = length_window 0 b.matrix.n _ (omega (arith, run_long b tau p y h))

field_whole : (b : Augmented) (tau : Float) (p : SweepPlan) (y out : List Float) → length y ≡ b.matrix.n + b.d → length out ≡ b.matrix.n
    → splice 0 (swept_fields b tau y p).fields out ≡ (swept_fields b tau y p).fields
field_whole b tau p y out h l = splice_whole _ out (soak_long b tau y p h ∙ sym l)

-- ---- the first field y was written to the front of the memory: the end is that of y and of the memory before
pub started_is : (j : Job) (q : Csr) (run : List Float → SweepPlan → Fields) (long : ℕ) (y w₀ : List Float) {w₁ : List Float} {c : Call TaylorAnswer} → length y ≡ long
    → long ≤ j.need
    → j.need ≤ length w₀
    → w₁ ≡ splice 0 y w₀
    → c ≡ job_end j q (run (window 0 long w₁)) w₁
    → c ≡ job_end j q (run y) w₀
started_is j q run long y w₀ {w₁} ly hn hm e f =
    let p = plan_by j q in
    let field : window 0 long w₁ ≡ y = ap (window 0 long) e ∙ window_splice_same 0 long y w₀ ly (omega arith) in
    let clear = clear_over j.need 0 y w₀ e (omega arith) in
    f ∙ (λ i. ends (report p (run (field i) p).applied) (run (field i) p).fields (clear i))

-- ---- a job: the places of its operands are those of `layout`
module _ {starts cols : List ℕ} {vals mass w₀ : List Float} {j : Job} (h : Allowed starts cols vals mass w₀ j) where
  abbrev a : Csr
  a = csr j.g.n starts cols vals

  -- the row that the checks found has a plan
  pub planned : (q : Csr) → sweep_plan j.cap j.tau q j.g.norm ≡ Some (plan_by j q)
  planned q = sym (plan_ways.planned j.cap j.tau q j.g.norm refl refl h.row refl refl)

  pub bounded : {p : SweepPlan} (q : Csr) → p ≡ plan_by j q → Bounds j.cap p.s p.m
  bounded q e = rw e (plan_bounded j.cap j.tau q j.g.norm (planned q))

  pub ends_planned : (out : List Float) (q : Csr) (run : SweepPlan → Fields) → job_end j q run w₀ ≡ after_plan j.need j.tau j.g.norm out w₀ (sweep_plan j.cap j.tau q j.g.norm) run
  unfolding after_plan
  ends_planned out q run = rw (planned q) refl

  module _ {l : Layout} (el : l ≡ layout j.g.n j.d j.g.with_mass) where
    pub held : Held starts cols vals mass j.g j.d j.need l w₀
    unfolding taylor_need
    held = rw el (record { passed = h.passed; enough = h.enough; rows = refl; chain = refl; given_mass = refl; behind = sym h.needed })

    pub lined : Lined l
    lined = rw el (record { field_first = omega arith; then_term = omega arith; then_product = omega arith })

    -- the quotients are written
    module _ {w₁ : List Float} (e₀ : w₁ ≡ splice (layout j.g.n j.d j.g.with_mass).q (stored a (given j.g.with_mass mass)) w₀) where
      e₁ : w₁ ≡ splice l.q (stored a (given j.g.with_mass mass)) w₀
      e₁ = rw el e₀

      pub still_enough : {w₂ : List Float} → Kept 0 l.q +0 w₁ w₂ → j.need ≤ length w₂
      still_enough k = omega (arith, h.enough, k.long, long₁ held e₁)

      pub plan_is : {shift : Option Shifted} {p : SweepPlan} → shift ≡ negated_csr_shift (matrix_at l starts cols vals w₁) j.g.norm → p ≡ with_shift j.cap j.tau j.row shift
          → p ≡ plan_by j (matrix_of j.g starts cols vals mass)
      plan_is e f = f ∙ rw (e, matrix_is held e₁) refl

      module _ (vectors : List Float) (cp : Coupled j.b j.g.n j.d (length vectors)) where
        pub ready : ReadyAt l j.b starts cols vals vectors w₁
        ready = stored_laws.ready held e₁ vectors cp lined

        field_is : window 0 (l.n + l.d) w₁ ≡ window 0 (j.g.n + j.d) w₀
        field_is = front_is held e₁ 0 _ (rw el (omega arith)) ∙ rw el refl

        -- after the sweeps: any fields, and the memory before the quotients changed; what was needed is cleared
        pub finished : (run : Augmented → SweepPlan → Fields) {p : SweepPlan} {applied : ℕ} {x : TaylorAnswer} {out₁ w₂ w₃ : List Float} → p ≡ plan_by j (matrix_of j.g starts cols vals mass)
            → applied ≡ (run (operator_at l j.b starts cols vals vectors w₁) p).applied
            → out₁ ≡ (run (operator_at l j.b starts cols vals vectors w₁) p).fields
            → Kept 0 l.q +0 w₁ w₂
            → x ≡ report p applied
            → w₃ ≡ cleared j.need w₂
            → ends x out₁ w₃ ≡ job_end j (matrix_of j.g starts cols vals mass) (run (operator_by j (matrix_of j.g starts cols vals mass) vectors)) w₀
        finished run {p} {applied} {x} {out₁} {w₂} {w₃} ep ea eo k ex e₃ =
            let B = operator_at l j.b starts cols vals vectors w₁ in
            let same = operator_is held e₁ vectors cp in
            let e₃' = cleared_is held e₁ k e₃ in
            let made : ends x out₁ w₃ ≡ ends (report p (run B p).applied) (run B p).fields (cleared j.need w₀) = rw ex (λ i. ends (report p (ea i)) (eo i) (e₃' i)) in
            made ∙ (λ i. ends (report (ep i) (run (same i) (ep i)).applied) (run (same i) (ep i)).fields (cleared j.need w₀))

        pub done : (out : List Float) {p : SweepPlan} {applied : ℕ} {x : TaylorAnswer} {out₁ w₂ w₃ : List Float} → length out ≡ j.g.n → p ≡ plan_by j (matrix_of j.g starts cols vals mass)
            → applied ≡ (swept_fields (operator_at l j.b starts cols vals vectors w₁) j.tau (window 0 (l.n + l.d) w₁) p).applied
            → out₁ ≡ splice 0 (swept_fields (operator_at l j.b starts cols vals vectors w₁) j.tau (window 0 (l.n + l.d) w₁) p).fields out
            → Kept 0 l.q +0 w₁ w₂
            → x ≡ report p applied
            → w₃ ≡ cleared j.need w₂
            → ends x out₁ w₃ ≡ job_end j (matrix_of j.g starts cols vals mass) (swept_fields (operator_by j (matrix_of j.g starts cols vals mass) vectors) j.tau (window 0 (j.g.n + j.d) w₀)) w₀
        unfolding taylor_need
        done out {p} {applied} {out₁ = out₁} lo ep ea eo k ex e₃ =
            let B = operator_at l j.b starts cols vals vectors w₁ in
            let y = window 0 (j.g.n + j.d) w₀ in
            let ly : length y ≡ l.n + l.d = length_window 0 (j.g.n + j.d) w₀ (omega (arith, h.needed, h.enough)) ∙ rw el refl in
            let whole = field_whole B j.tau p y out ly (lo ∙ rw el refl) in
            finished (λ b. swept_fields b j.tau y) ep (rw field_is at ea) ((rw field_is at eo) ∙ whole) k ex e₃
