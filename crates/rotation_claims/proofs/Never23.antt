-- No answer of a unit is 23 (document 02, N14). Assumes nothing.
use mathlib.Core.Path.{◌≡◌, sym, ap, ◌∙◌}
use mathlib.Core.Logic.{inl, inr}
use native.Mathlib.Omega.{arith}
use mathlib.Core.List.{List}
use lib.ListN.{length}
use lib.Ieee.{Float}
use Rattle.checks.specs.First.{before}
use Rattle.checks.proofs.Numbers.{not_by, not_numbered}
use Rattle.paused_run.specs.Paused.{Input, PausedCall, StartAnswer, StepAnswer, StepRefused, step_checks}
use Rattle.paused_run.specs.declared.PausedRun.{PausedRun}
use Rattle.rotation.specs.Unit.{run_at, UnitCall, turn}
use Rattle.rotation.specs.declared.Rotation.{Rotation}
use Rattle.paused_claims.specs.Alike.{number_in}
use Rattle.paused_claims.proofs.Start.{the_start}
use Rattle.rotation_claims.specs.Admission.{Coming, join_to, start_of}
use Rattle.rotation_claims.specs.Claim.{Never23}
use Rattle.rotation_claims.proofs.Cases.{turn_cases}
use Rattle.rotation_claims.proofs.Numbers.{none_23, step_none_23, step_number}
use Rattle.rotation_claims.proofs.Admission.{same_refused, any_unit}
use Rattle.checks.specs.Reasons.{number, Refused}
use Rattle.checks.specs.declared.Reason.TheVariants.{NormRange}

module _ (u : Rotation) where
  starts : (c : Coming) → before NormRange c.j.g.checks ≡ c.j.g.checks → (x : Float) → (start_of c).answer ≡ Refused NormRange x → ⊥
  starts c g x e = elim ((the_start c.o c.j c.output c.memory c.field).only_refused NormRange x e) [
    | inl r ↦ not_by NormRange _ (none_23 c.o c.j (length c.output) (length c.memory) g) r
    | inr r ↦ (let z = ap number r.2 in absurd (omega (arith, z)))
  ]

  joins : (c : Coming) → before NormRange c.j.g.checks ≡ c.j.g.checks → (x : Float) → (join_to u c).call.answer ≡ Refused NormRange x → ⊥
  joins c g x e = elim (any_unit u c).else_32 [
    | inl k ↦ starts c g x (sym (ap (λ (r : PausedCall StartAnswer). r.answer) k) ∙ e)
    | inr k ↦ (let z = ap number (same_refused (sym (ap (λ (r : UnitCall StartAnswer). r.call.answer) k) ∙ e)).0 in absurd (omega (arith, z)))
  ]

  turns : (i : Input) (y : List Float) → before NormRange i.job.g.checks ≡ i.job.g.checks → (x : Float) (s : PausedRun) → (turn u y i).call.answer ≡ StepRefused NormRange x s → ⊥
  turns i y g x s e = elim (turn_cases u y i) [
    | inl k ↦
        step_number (run_at u k.p) y i 23 (λ j x n r. not_numbered NormRange (step_checks (run_at u k.p) (length y) i) (step_none_23 (run_at u k.p) (length y) i g) n r) (λ z. absurd (omega (arith, z))) (λ z. absurd (omega (arith, z))) (λ z. absurd (omega (arith, z))) (λ z. absurd (omega (arith, z))) (ap number_in (sym (ap (λ (r : UnitCall StepAnswer). r.call.answer) k.is) ∙ e))
    | inr k ↦ (let z = ap number_in (sym (ap (λ (r : UnitCall StepAnswer). r.call.answer) k.is) ∙ e) in absurd (omega (arith, z)))
  ]

  pub never_23 : Never23 u
  never_23 = record { joins = joins; turns = turns }
