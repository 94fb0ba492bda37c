-- 27 comes exactly with the limit's last substep, where that does not end the run (document 02, N5). Assumes nothing.
use mathlib.Core.Path.{◌≡◌, refl, sym, ap, ◌∙◌, subst}
use mathlib.Core.Logic.{inl, inr}
use mathlib.Core.Bool.{true≢false}
use Prim.Native.Nat.{ℕ, zero, ◌≤◌, ◌<◌}
use native.Mathlib.Nat.{le_trans, le_of_eq}
use native.Mathlib.Omega.{arith}
use lib.Dec.{T}
use lib.ListN.{length}
use lib.Ieee.{Float, lt, of_bits}
use Rattle.doubles.specs.F64.{◌⋖◌, 1f}
use Rattle.krylov_job.specs.declared.KrylovPhiOptions.{KrylovPhiOptions}
use Rattle.paused_run.specs.Paused.{Job, StepAnswer, StepRefused, Input}
use Rattle.paused_run.specs.declared.PausedRun.{PausedRun}
use Rattle.demand_3.specs.Trace.{Run}
use Rattle.demand_3.specs.Krylov.{Finished}
use Rattle.paused_claims.specs.History.{Past, call_on, Steps, in_force, made_with, next, Left, run_so_far}
use Rattle.paused_claims.specs.History as history
use Rattle.paused_claims.specs.Steps.{Outcome, AtLimit, Exactly27}
use Rattle.paused_claims.proofs.Known.{some_limit}
use Rattle.paused_claims.proofs.Standing.{left_sound, left_stands}
use Rattle.paused_claims.proofs.Steps.{step_done}
use Rattle.checks.specs.declared.Reason.TheVariants.{SubstepLimit}
use Rattle.std.specs.Prelude.{Ok, Err}

module _ {o : KrylovPhiOptions} {j : Job} {p : Past} (l : Left o j p) (i : Input) (e : Steps p i) where
  abbrev u : Run
  u = run_so_far o j (next o j p i)

  abbrev limit : ℕ
  limit = o.max_substeps

  abbrev Ends : StepAnswer → Type 0
  Ends a = Outcome limit (made_with o j (in_force i.tolerance p.tol) i.job) (run_so_far o j p) u p.run a

  some : 0 < limit
  some = let s = left_sound l in some_limit o j (length s.0) (length s.1) s.2

  few : length u.settings ≤ limit
  few = elim (left_stands (history.stepped l i)) [
    | inl h ↦ le_trans (le_of_eq (ap length h.settings)) (omega arith)
    | inr h ↦ h.stood.few
  ]

  only : {x : Float} {s : PausedRun} → (call_on p i).answer ≡ StepRefused SubstepLimit x s → AtLimit limit u x
  only {x} {s} q = go (subst Ends q (step_done l i e).outcome)
    where
      go : Ends (StepRefused SubstepLimit x s) → AtLimit limit u x
      go (inl g) = record { substeps = g.all; below_one = g.goes_on.below_one; norm_left = g.goes_on.norm_left (subst (λ (n : ℕ). 0 < n) (sym g.all) some); told = g.told }
      go (inr g) = elim g.failed.number [
        | inl n ↦ (let z : zero ≡ 1 = cc in absurd (omega (arith, z)))
        | inr n ↦ (let z : zero ≡ 1 = cc in absurd (omega (arith, z)))
      ]

  not_reached : {x : Float} → AtLimit limit u x → Finished u → ⊥
  unfolding lt of_bits
  not_reached a f = elim f.reached [
    | inl z ↦ absurd (true≢false (sym z ∙ a.norm_left))
    | inr t ↦ subst (λ (y : Float). T (y ⋖ 1f)) t a.below_one
  ]

  when : {x : Float} → AtLimit limit u x → (s : PausedRun) × ((call_on p i).answer ≡ StepRefused SubstepLimit x s)
  when {x} a = go (call_on p i).answer refl (step_done l i e).outcome
    where
      go : (b : StepAnswer) → (call_on p i).answer ≡ b → Ends b → (s : PausedRun) × ((call_on p i).answer ≡ StepRefused SubstepLimit x s)
      go (Ok s) q (inl g) = let n = a.substeps in let b = g.below in absurd (omega (arith, n, b))
      go (Ok s) q (inr g) = absurd (not_reached a g.finished)
      go (Err r) q (inl g) = (r.run, q ∙ (λ t. StepRefused (g.number t) ((g.told ∙ sym a.told) t) r.run))
      go (Err r) q (inr g) = let n = a.substeps in let b = g.failed.fewer in let c = few in absurd (omega (arith, n, b, c))

pub exactly_27 : {o : KrylovPhiOptions} {j : Job} {p : Past} → Left o j p → (i : Input) → Exactly27 o j p i
exactly_27 l i = record { only = λ e q. only l i e q; when = λ e a. when l i e a }
