-- The run over unit time: state, substep, limit (phi_krylov_arnoldi.rs, `substeps`, `expv`; Sidje 1998). Definitions only.
use Rattle.std.specs.Prelude.{Bool, true, false, not, ◌&&◌, List, ℕ, suc, ◌+◌, min, eqb, ltb, length, replicate, get_or, [], Float, if◌then◌else◌, Option, Some, None}
use Rattle.std.specs.Float.Ieee.{eq}
use Rattle.checks.specs.declared.Reason.{Reason}
use Rattle.checks.specs.declared.Reason.TheVariants.{SubstepLimit, LengthsRejected, NoInnerPlan}
use Rattle.lists.specs.Loop.{iter}
use Rattle.lists.specs.Walk.{Turn, on, out, walk}
use Rattle.doubles.specs.F64.{◌⊕◌, ◌⊖◌, ◌⊗◌, ◌⊘◌, ◌⋖◌, bits, nat, +0, 1f, at, min_num, max_num}
use Rattle.sqrt.specs.Sqrt.{sqrt}
use Rattle.power.specs.Power.{power, root}
use Rattle.round2.specs.Rounded.{round2}
use Rattle.retry.specs.Retry.{retry}
use Rattle.vectors.specs.Vectors.{axpy, scale}
use Rattle.pow2.specs.declared.Scale.{Scale}
use Rattle.pow2.specs.Pow2.{pow2_scale, open_pow2}
use Rattle.phi_action_helpers.specs.Augmented.{Augmented}
use Rattle.gram_schmidt.specs.Basis.{Setting, Basis, breakdown, full, norm2, arnoldi}
use Rattle.trial_steps.specs.Trials.{Trying, Tried, accepted, stuck, trials, open_trials}
use Rattle.krylov_advance.specs.declared.Control.{Control}
use Rattle.krylov_advance.specs.declared.KrylovPhiReport.{KrylovPhiReport}

abbrev pub EPSILON : Float
EPSILON = bits 0x3cb0_0000_0000_0000

abbrev pub MIN_POSITIVE : Float
MIN_POSITIVE = bits 0x0010_0000_0000_0000

abbrev pub E : Float
E = bits 0x4005_bf0a_8b14_5769

abbrev pub 2PI : Float
2PI = bits 0x4019_21fb_5444_2d18

abbrev pub 4f : Float
4f = bits 0x4010_0000_0000_0000

pub record State : Type 0 where
  pub control : Control
  pub report : KrylovPhiReport
  pub y : List Float

-- a run's end: with a result, or why it is refused, the double that is reported with it, and the last accepted state
pub data End : Type 0 where
  finished : State → End
  refused : Reason → Float → State → End

abbrev pub applied_of : Basis → ℕ
applied_of (breakdown b) = b.columns.applied
applied_of (full b avnorm) = b.applied

abbrev pub columns_of : Basis → List (List Float)
columns_of (breakdown b) = b.columns.v
columns_of (full b avnorm) = b.v

-- beta times the columns by their coefficients, added up from zeros
unfoldable pub combined : Float → List (List Float) → List Float → ℕ → List Float
combined beta v f n = iter (λ i y. axpy (beta ⊗ at f i) (get_or v i []) y) (length f) (replicate n +0)

-- the shortest accepted length, t among them (document 02, N10)
unfoldable pub shorter : ℕ → Float → Float → Float
shorter substeps shortest t = if eqb substeps 0 then t else min_num shortest t

-- the report after an accepted length t: the counts of what was made are added, and the estimate
unfoldable pub counted : KrylovPhiReport → ℕ → ℕ → Float → Float → KrylovPhiReport
counted r applied rejections t err =
    record {
      matvecs = r.matvecs + applied;
      substeps = suc r.substeps;
      rejected = r.rejected + rejections;
      est_error = r.est_error ⊕ err;
      shortest = shorter r.substeps r.shortest t;
      last = t;
    }

-- the state after an accepted length
unfoldable pub advance : Setting → State → ℕ → List (List Float) → ℕ → Float → List Float → Float → State
advance p s applied v rejections t f err =
    let c = s.control in
    let y = combined c.beta v f (length s.y) in
    let time = c.time ⊕ t in
    record {
      control = record { time = time; next = if +0 ⋖ err then retry p.m p.tol t err else 1f ⊖ time; beta = norm2 y };
      report = counted s.report applied rejections t (max_num err (p.anorm ⊗ EPSILON ⊗ c.beta));
      y = y;
    }

-- a run goes on while its norm is not 0 and its time is below 1
unfoldable pub unfinished : State → Bool
unfinished s = not (eq s.control.beta +0) && s.control.time ⋖ 1f

abbrev pub standing : State → Bool → Turn State End
standing s true = on s
standing s false = out (finished s)

-- refused after eleven rejections, or without an inner plan; either leaves the last accepted state
unfoldable pub settle : Setting → State → Basis → Turn Trying Tried → Turn State End
settle p s b (on t) = out (refused LengthsRejected p.tol s)
settle p s b (out (stuck arg)) = out (refused NoInnerPlan arg s)
settle p s b (out (accepted rejections t f err)) =
    let next = advance p s (applied_of b) (columns_of b) rejections t f err in
    standing next (unfinished next)

-- one substep: the columns once, then lengths tried on them
unfoldable pub substep : Setting → State → Turn State End
substep p s =
    let b = arnoldi p s.y s.control.beta in
    settle p s b (trials p s.control.beta s.control.next (1f ⊖ s.control.time) b)

-- refused for its limit: a run that has not ended
unfoldable pub spent : Turn State End → End
spent (on s) = refused SubstepLimit s.report.est_error s
spent (out e) = e

-- `substeps`: at most `limit` substeps
unfoldable pub run : Setting → ℕ → State → End
run p limit s = spent (walk (λ _ t. substep p t) limit 0 (on s))

-- ---- `expv`
-- the first length proposed
unfoldable pub first_length : ℕ → Float → Float → Float → Float
first_length m anorm tol beta =
    let m₁ = nat m ⊕ 1f in
    let fact = power (m₁ ⊘ E) (m + 1) ⊗ sqrt (2PI ⊗ m₁) in
    round2 (1f ⊘ max_num anorm MIN_POSITIVE ⊗ root (fact ⊗ tol ⊘ (4f ⊗ beta ⊗ max_num anorm 1f)) m)

abbrev pub empty_report : KrylovPhiReport
empty_report = record { matvecs = 0; substeps = 0; rejected = 0; est_error = +0; shortest = +0; last = +0 }

-- a run starts at time +0 with all counts 0
unfoldable pub started : Setting → List Float → State
started p y =
    let beta = norm2 y in
    record { control = record { time = +0; next = first_length p.m p.anorm p.tol beta; beta = beta }; report = empty_report; y = y }

-- the estimate relative to the first norm, all else as it is
unfoldable pub relative_report : KrylovPhiReport → Float → KrylovPhiReport
relative_report r beta₀ =
    record { matvecs = r.matvecs; substeps = r.substeps; rejected = r.rejected; est_error = r.est_error ⊘ beta₀; shortest = r.shortest; last = r.last }

-- the field scaled back, and that report
unfoldable pub scaled_back : Float → Float → State → State
scaled_back up beta₀ s = record { control = s.control; report = relative_report s.report beta₀; y = scale up s.y }

unfoldable pub back : Float → Float → End → End
back up beta₀ (finished s) = finished (scaled_back up beta₀ s)
back up beta₀ (refused k x s) = refused k x (scaled_back up beta₀ s)

-- M: m clamped to 2 .. max(2, len)
unfoldable pub clamp_m : ℕ → ℕ → ℕ
clamp_m m len = if ltb m 2 then 2 else min m (if ltb len 2 then 2 else len)

-- a start whose values are all zeros takes no substep
unfoldable pub idle : List Float → State
idle y = record { control = record { time = +0; next = +0; beta = +0 }; report = empty_report; y = y }

abbrev pub setting : Augmented → Float → Float → Float → ℕ → Setting
setting b tau anorm tol m = record { operator = b; tau = tau; anorm = anorm; tol = tol; m = m }

unfoldable pub expv_by : Augmented → Float → Float → Float → ℕ → ℕ → List Float → Option Scale → End
expv_by b tau anorm tol m limit y None = finished (idle y)
expv_by b tau anorm tol m limit y (Some f) =
    let y₀ = scale f.down y in
    let beta₀ = norm2 y₀ in
    let p = setting b tau anorm (tol ⊗ beta₀) (clamp_m m (length y)) in
    back f.up beta₀ (run p limit (started p y₀))

unfoldable pub expv : Augmented → Float → Float → Float → ℕ → ℕ → List Float → End
expv b tau anorm tol m limit y = expv_by b tau anorm tol m limit y (pow2_scale y)

-- to compute: a line `unfolding open_run` opens every definition of this file and of those below it
unfoldable pub open_run : Unit {0}
unfolding combined shorter counted advance unfinished settle substep spent run first_length started relative_report scaled_back back clamp_m idle expv_by expv open_pow2 open_trials
open_run = tt
