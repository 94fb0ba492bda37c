-- When a run as it was left has ended (document 02, N5). Definitions only.
use Rattle.std.specs.Prelude.{◌≡◌, ◌⊎◌, true, List, [], ◌∷◌, ℕ, ◌<◌, T, length, Float}
use Rattle.std.specs.Float.{binary64}
use Rattle.std.specs.Float.Ieee.{fits, eq}
use Rattle.doubles.specs.F64.{+0, 1f, at}
use Rattle.paused_run.specs.Paused.{Job, StepAnswer}
use Rattle.demand_3.specs.Krylov.{euclidean, Each, Zeros}
use Rattle.paused_claims.specs.History.{Past}
use Rattle.paused_claims.specs.Start.{values_of}
use Rattle.paused_claims.specs.Early.{Plain}
use Rattle.checks.specs.declared.Reason.TheVariants.{SubstepLimit, LengthsRejected, NoInnerPlan}
use Rattle.std.specs.Prelude.{Ok, Err}

-- 27 to 29
abbrev pub Met : StepAnswer → Type 0
Met (Ok s) = ⊥
Met (Err r) = (r.refusal.reason ≡ SubstepLimit) ⊎ ((r.refusal.reason ≡ LengthsRejected) ⊎ (r.refusal.reason ≡ NoInnerPlan))

abbrev pub Some : {A : Type 0} → (A → Type 0) → List A → Type 0
Some P [] = ⊥
Some P (a ∷ l) = P a ⊎ Some P l

-- 'A run has ended when its time reached 1, its norm was 0, its start was all zeros, or it met 27 to 29'
abbrev pub Causes : Job → Past → Type 0
Causes j p = (p.run.time ≡ 1f) ⊎ ((eq (euclidean p.field) +0 ≡ true) ⊎ (Zeros (values_of j) ⊎ Some Met p.answers))

-- what a slice holds
abbrev pub Doubles : List Float → Type 0
Doubles y = (i : ℕ) → i < length y → T (fits binary64 (at y i))

-- exactly so, of vectors of doubles, over generators whose own checks are not numbered 27 to 29
abbrev pub EndedClaim : Job → Past → Type 0
EndedClaim j p = Doubles j.w → Each (λ i. Plain i.job.g) p.inputs → (p.run.ended ≡ true → Causes j p) × (Causes j p → p.run.ended ≡ true)
