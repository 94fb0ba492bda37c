-- From stage to stage. Assumes nothing.
use mathlib.Core.Path.{◌≡◌, refl, sym, ap, ◌∙◌}
use mathlib.Core.List.{List, ◌++◌}
use Prim.Native.Nat.{ℕ, ◌+◌, ◌-◌, ◌*◌}
use native.Mathlib.Omega.{arith}
use lib.Dec.{eqb}
use lib.ListN.{length}
use lib.Ieee.{Float}
use Rattle.lists.specs.Walk.{Turn, on, walk}
use Rattle.lists.proofs.Walk.{Left, left_out}
use Rattle.checks.specs.First.{first}
use Rattle.checks.specs.First.{Checked}
use Rattle.generator_action.specs.Generator.{Generator}
use Rattle.combination.specs.Call.{Call, ends, unless_refused}
use Rattle.combination.proofs.Ends.{refused_by, runs}
use Rattle.phi_solver.specs.Combine.{PhiAnswer}
use Rattle.phi_solver.specs.declared.PhiReport.TheVariants as phi
use Rattle.schedule_checks.specs.declared.Stage.{Stage}
use Rattle.schedule_checks.specs.declared.StageRefusal.{StageRefusal}
use Rattle.schedule_checks.specs.declared.SoFar.{SoFar}
use Rattle.std.specs.Prelude.{Ok, Err}
use Rattle.schedule_checks.specs.Schedule.{StagedAnswer, refused_at, Schedule, stage, stages_of, Progress, further_need, stage_checks, settle, schedule_checks}
use Rattle.stage_calls.specs.Stages.{stage_call, unless_stage_refused, stage_step, concluded, begun, before_stages, staged}
use Rattle.schedule_checks.specs.Inner.{StageTurn, turn_at}
use Rattle.combination.specs.Combination.{field_of}
use Rattle.combination.proofs.Further.{later_field}
use Rattle.stage_calls.specs.Inner.{stage_end}
use Rattle.checks.specs.Reasons.{refusal, Sound, Refused}
use Rattle.checks.specs.declared.Reason.{Reason}

-- ---- a refusal by a stage's own checks is told as one by its call
by_checks : (i used : ℕ) (p : Progress) (c : Call PhiAnswer) (x : Checked)
    → unless_stage_refused x i p (settle i used p.report c c.answer) ≡ settle i used p.report (unless_refused Refused x p.output p.memory c) (unless_refused Refused x p.output p.memory c).answer
unfolding unless_stage_refused unless_refused settle
by_checks i used p c (Err r) = refl
by_checks i used p c (Ok _) = refl

pub step_by : (g : Generator) (schedule : Schedule) (further : List Float) (i : ℕ) (p : Progress)
    → let s = stage schedule i in
    let c = stage_end g s (eqb (i + 1) (stages_of schedule)) p.used further p.field p.output p.memory in
    stage_step g schedule further i p ≡ settle i (p.used + further_need g.matrix.n s) p.report c c.answer
unfolding stage_step stage_end
step_by g schedule further i p =
    let s = stage schedule i in
    by_checks i (p.used + further_need g.matrix.n s) p (stage_call g s further p) (first (stage_checks g.matrix.n s (eqb (i + 1) (stages_of schedule)) (length p.output) (length p.field) p.used (length further)))

-- ---- what one turn of the loop gives
pub step_is : (g : Generator) (n : ℕ) → g.matrix.n ≡ n → (schedule : Schedule) (further start : List Float) (i : ℕ) (p : SoFar) (out₀ w₀ : List Float) {s : Stage} {answer : PhiAnswer} {out₁ w₁ : List Float} (t : StageTurn)
    → s ≡ stage schedule i
    → ends answer out₁ w₁ ≡ stage_end g s (eqb (i + 1) (stages_of schedule)) p.used further (field_of (eqb i 0) start out₀) out₀ w₀
    → turn_at t out₁ out₁ w₁ ≡ settle i (p.used + (s.count - 1) * n) p.report (ends answer out₁ w₁) answer
    → turn_at t (field_of (eqb (i + 1) 0) start out₁) out₁ w₁ ≡ stage_step g schedule further i (record { field = field_of (eqb i 0) start out₀; output = out₀; memory = w₀; used = p.used; report = p.report })
step_is g n rows schedule further start i p out₀ w₀ {s} {answer} {out₁} {w₁} t es ec et =
    let P : Progress = record { field = field_of (eqb i 0) start out₀; output = out₀; memory = w₀; used = p.used; report = p.report } in
    ap (λ (y : List Float). turn_at t y out₁ w₁) (later_field (i + 1) start out₁ (omega arith))
    ∙ et
    ∙ ap (λ (k : ℕ). settle i (p.used + (s.count - 1) * k) p.report (ends answer out₁ w₁) answer) (sym rows)
    ∙ ap (λ (c : Call PhiAnswer). settle i (p.used + further_need g.matrix.n s) p.report c c.answer) ec
    ∙ ap
    (λ (x : Stage). let c = stage_end g x (eqb (i + 1) (stages_of schedule)) p.used further (field_of (eqb i 0) start out₀) out₀ w₀ in settle i (p.used + further_need g.matrix.n x) p.report c c.answer)
    es
    ∙ sym (step_by g schedule further i P)

-- ---- the ends of the loop
pub turn_on : (t : StageTurn) (p : SoFar) (field output memory : List Float) → t ≡ Ok p → turn_at t field output memory ≡ on (record { field = field; output = output; memory = memory; used = p.used; report = p.report })
unfolding turn_at
turn_on t p field output memory e = ap (λ (x : StageTurn). turn_at x field output memory) e

pub turn_ended : {step : ℕ → Progress → Turn Progress (Call StagedAnswer)} {n i : ℕ} {o₀ : Turn Progress (Call StagedAnswer)} (t : StageTurn) (field output memory : List Float) {e : StageRefusal} → t ≡ Err e
    → Left step n i o₀ (turn_at t field output memory)
    → turn_at t output output memory ≡ walk step n 0 o₀
unfolding turn_at
turn_ended t field output memory e h = ap (λ (u : StageTurn). turn_at u output output memory) e ∙ ap (λ (u : StageTurn). turn_at u field output memory) (sym e) ∙ left_out h _ (ap (λ (u : StageTurn). turn_at u field output memory) e)

-- ---- the whole
module _ (g : Generator) (schedule : Schedule) (start further out₀ w₀ : List Float) {r : Checked} (told : r ≡ first (g.checks ++ schedule_checks schedule)) where
  pub staged_refused : {k : Reason} {x : Float} → r ≡ Refused k x → ends (refused_at (refusal k x) 0) out₀ w₀ ≡ staged g schedule start further out₀ w₀
  unfolding staged
  staged_refused e = refused_by before_stages _ out₀ w₀ _ e told

  pub staged_is : {c : Call StagedAnswer} → r ≡ Sound → c ≡ concluded (walk (stage_step g schedule further) (stages_of schedule) 0 (on (begun start out₀ w₀))) → c ≡ staged g schedule start further out₀ w₀
  unfolding staged
  staged_is e h = runs before_stages _ out₀ w₀ _ e told h
