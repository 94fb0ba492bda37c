-- When a step on a run as it was left is refused early, and that it then changes nothing (document 02, N5: 'Early refusals leave the run unchanged'). Definitions only.
use Rattle.std.specs.Prelude.{◌≡◌, Bool, true, false, not, ◌&&◌, List, [], ◌∷◌, ◌++◌, map, ℕ, ◌+◌, ◌-◌, ◌<◌, length, Float, if◌then◌else◌}
use Rattle.std.specs.Float.{nan}
use Rattle.std.specs.Float.Ieee.{eq}
use Rattle.lists.specs.Find.{exists}
use Rattle.doubles.specs.F64.{◌⊗◌, +0, nat, is_finite}
use Rattle.power.specs.Power.{power}
use Rattle.pow2.specs.Pow2.{sup}
use Rattle.checks.specs.First.{Check, refuse, first, same as same_number, before}
use Rattle.generator_action.specs.Generator.{Generator}
use Rattle.combination.specs.Combination.{further, vector}
use Rattle.krylov_job.specs.declared.KrylovPhiOptions.{KrylovPhiOptions}
use Rattle.paused_run.specs.Paused.{Job, leaves, StepRefused, Input}
use Rattle.paused_claims.specs.History.{own_eta, Past, call_on, checked, in_force}
use Rattle.paused_claims.specs.Start.{job_checks}
use Rattle.checks.specs.Reasons.{Sound, Refused}
use Rattle.checks.specs.declared.Reason.TheVariants.{VectorLength, VectorNotFinite, GainNotFinite, SubstepLimit, LengthsRejected, NoInnerPlan, RunEnded}
use Rattle.checks.specs.declared.Reason.{Reason}

-- a generator whose own checks have none of the numbers that are told apart here: of jobs (17, 22), of runs (27 to 29) and of ended runs (31)
pub record Plain (g : Generator) : Type 0 where
  pub no_17 : before VectorNotFinite g.checks ≡ g.checks
  pub no_22 : before GainNotFinite g.checks ≡ g.checks
  pub no_27 : before SubstepLimit g.checks ≡ g.checks
  pub no_28 : before LengthsRejected g.checks ≡ g.checks
  pub no_29 : before NoInnerPlan g.checks ≡ g.checks
  pub no_31 : before RunEnded g.checks ≡ g.checks

-- the start's options with another tol: 'm and the limit stay'
abbrev pub with_tol : KrylovPhiOptions → Float → KrylovPhiOptions
with_tol o tol = record { tol = tol; m = o.m; max_substeps = o.max_substeps }

-- the checks of the whole call of the step's own job, with the tol in force: 'checked as in 18'
abbrev pub step_job_checks : KrylovPhiOptions → Past → Input → List Check
step_job_checks o p i = job_checks (with_tol o (in_force i.tolerance p.tol)) i.job i.output i.memory

-- w_(k+1) is not all zeros, and tau ^ (k + 1) times eta is not finite
abbrev pub overflows : Job → Float → ℕ → Bool
overflows i eta k =
    let n = i.g.matrix.n in
    not (eq (sup (vector n (further n i.w) k)) +0) && not (is_finite (power i.tau (k + 1) ⊗ eta))

-- 22 asks b
abbrev pub asking_22 : Bool → Check → Check
asking_22 b c = if same_number c.reason GainNotFinite then refuse GainNotFinite b c.reported else c

-- the start's n and count
abbrev pub Fits : Job → Job → Type 0
Fits j i = (i.g.matrix.n ≡ j.g.matrix.n) × (i.count ≡ j.count)

-- 22 refuses: no check in front of it holds, and tau ^ k times the start's eta is not finite for a further vector that is not all zeros
pub record Refused22 (o : KrylovPhiOptions) (j : Job) (p : Past) (i : Input) : Type 0 where
  pub earlier : Sound ≡ first (before GainNotFinite (step_job_checks o p i))
  pub place : ℕ
  pub below : place < i.job.count - 1
  pub overflow : overflows i.job (own_eta j) place ≡ true

pub record EarlyClaim (o : KrylovPhiOptions) (j : Job) (p : Past) (i : Input) : Type 0 where
  -- 'It refuses with 31, before any other check, a step on a run that has ended', and no other
  pub if_31 : p.run.ended ≡ true → checked p i ≡ Refused RunEnded nan
  pub only_31 : (x : Float) → checked p i ≡ Refused RunEnded x → p.run.ended ≡ true
  -- 'another n or count: 16', where no check up to 16 of the whole call refuses
  pub other : p.run.ended ≡ false → (Fits j i.job → ⊥) → checked p i ≡ first (before VectorNotFinite (step_job_checks o p i) ++ (refuse VectorLength true (nat (length i.job.w)) ∷ []))
  -- else as the whole call of the step's job, 'eta [..] the start's, in 22 too'
  pub same : p.run.ended ≡ false → Fits j i.job → checked p i ≡ first (map (asking_22 (exists (overflows i.job (own_eta j)) (i.job.count - 1))) (step_job_checks o p i))
  pub only_22 : p.run.ended ≡ false → Fits j i.job → {x : Float} → checked p i ≡ Refused GainNotFinite x → Refused22 o j p i × (x ≡ nan)
  pub if_22 : p.run.ended ≡ false → Fits j i.job → Refused22 o j p i → checked p i ≡ Refused GainNotFinite nan
  -- which, where its own eta is the start's, is the whole call's list itself
  pub own : p.run.ended ≡ false → Fits j i.job → own_eta i.job ≡ own_eta j → checked p i ≡ first (step_job_checks o p i)
  -- nothing is changed
  pub unchanged : (k : Reason) (x : Float) → checked p i ≡ Refused k x → call_on p i ≡ leaves (StepRefused k x p.run) i.output i.memory p.field
