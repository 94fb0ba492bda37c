-- A job on a unit without room, by its start alone. Assumes nothing.
use Rattle.std.specs.Prelude.{if◌then◌else◌, Option, Some, None, is_some}
use mathlib.Core.Path.{◌≡◌, refl, sym, ap, ◌∙◌}
use mathlib.Core.Bool.{Bool, true, false}
use mathlib.Core.List.{List, [], ◌++◌}
use Prim.Native.Nat.{ℕ, ◌+◌, ◌-◌, ◌*◌}
use native.Mathlib.Omega.{arith}
use lib.ListN.{length}
use lib.Ieee.{Float, nan}
use Rattle.pow2.specs.declared.Scale.{Scale}
use Rattle.pow2.specs.Pow2.{eta_scaling, pow2_scale}
use Rattle.pow2.specs.declared.Scaling.{Scaling}
use Rattle.checks.specs.First.{Check, first}
use Rattle.checks.specs.First.{Checked}
use Rattle.general_operator.specs.Csr.{csr}
use Rattle.generator_action.specs.Mass.{given}
use Rattle.generator_action.specs.Known.{Passed}
use Rattle.generator_action.specs.declared.Shape.{Shape}
use Rattle.combination.specs.Combination.{further, magnitude, combination_start}
use Rattle.combination.specs.Call.{cleared}
use Rattle.combination.specs.Checks.{length_checks}
use Rattle.krylov_job.specs.Inner.{scaling_by, scaling_of, admitted}
use Rattle.krylov_job.proofs.Calls.{known}
use Rattle.krylov_job.specs.declared.KrylovPhiOptions.{KrylovPhiOptions}
use Rattle.krylov_job.specs.declared.RunJob.{RunJob}
use Rattle.paused_run.specs.Paused.{Job, PausedCall, start}
use Rattle.paused_run.specs.Inner.{job_over, begun_of}
use Rattle.paused_run.specs.Paused.{StartAnswer}
use Rattle.paused_start.proofs.Starts.{refused_generator, refused_job, refused_field, started_is}
use Rattle.rotation_joins.specs.Inner.{full_answer}
use Rattle.checks.specs.Reasons.{Sound, Refused}
use Rattle.checks.specs.declared.Reason.TheVariants.{WorkLength, UnitFull}
use Rattle.checks.specs.declared.Reason.{Reason}
use Rattle.checks.specs.declared.Refusal.{Refusal}
use Rattle.std.specs.Prelude.{Result, Ok}

abbrev answered : PausedCall StartAnswer → Checked
answered c = full_answer c.answer

begun_full : (o : KrylovPhiOptions) (j : RunJob) (y memory : List Float) (p : Option Scale) → (if is_some p then Refused UnitFull nan else Sound) ≡ answered (begun_of o j y memory p)
unfolding begun_of
begun_full o j y memory None = refl
begun_full o j y memory (Some f) = refl

pub told_32 : {b : Bool} {x : Float} → b ≡ true → x ≡ nan → Refused UnitFull x ≡ (if b then Refused UnitFull nan else Sound)
told_32 e ex = rw (e, ex) refl

pub told_sound : {b : Bool} → b ≡ false → Sound ≡ (if b then Refused UnitFull nan else Sound)
told_sound e = rw e refl

pub else_full : {b : Bool} {r x : Checked} → b ≡ false → r ≡ x → r ≡ (if b then Sound else x)
else_full e h = h ∙ rw e refl

-- one vector is n values
pub one_long : (g : Shape) (tau : Float) (count : ℕ) (w : List Float) (eta : Scaling) (o : KrylovPhiOptions) (output memory : ℕ) {j : RunJob}
    → admitted g tau count w eta o (length_checks output g.n (length w) (count * g.n) ++ []) memory ≡ Ok j
    → j.d ≡ 0
    → length w ≡ j.g.n
one_long g tau count w eta o output memory {j} told h =
    let k = known told in
    let one : count ≡ 1 = omega (arith, k.vectors.some, h, ap (λ (x : RunJob). x.d) k.is) in
    let single : 1 * g.n ≡ j.g.n = omega (arith, ap (λ (x : RunJob). x.g.n) k.is) in
    k.vectors.flat ∙ ap (λ (x : ℕ). x * g.n) one ∙ single

-- the generator's own checks
pub full_generator : (o : KrylovPhiOptions) (j : Job) (out w₀ field : List Float) {k : Reason} {x : Float} → Refused k x ≡ first j.g.checks → Refused k x ≡ full_answer (start o j out w₀ field).answer
full_generator o j out w₀ field e = ap answered (refused_generator o j out w₀ field e)

module _
    {starts cols : List ℕ}
    {vals : List Float}
    (mass : List Float)
    {g : Shape}
    (ok : Passed (csr g.n starts cols vals) (given g.with_mass mass) g)
    (gs : List Check)
    (sound : Sound ≡ first gs)
    (tau : Float)
    (count : ℕ)
    (w : List Float)
    (o : KrylovPhiOptions)
    (out w₀ field : List Float)
    {no nw nf : ℕ}
    (eo : length out ≡ no)
    (ew : length w₀ ≡ nw)
    (ef : length field ≡ nf)
    {r : Result RunJob Refusal}
    (ad : r ≡ admitted g tau count w (scaling_of g tau count w None) o (length_checks no g.n (length w) (count * g.n) ++ []) nw) where
  ad' : r ≡ admitted g tau count w (scaling_of g tau count w None) o (length_checks (length out) g.n (length w) (count * g.n) ++ []) (length w₀)
  ad' = rw (eo, ew) ad

  pub full_job : {k : Reason} {x : Float} → r ≡ Refused k x → Refused k x ≡ full_answer (start o (job_over gs g starts cols vals mass tau count w) out w₀ field).answer
  full_job e = ap answered (refused_job mass ok gs sound tau count w o out w₀ field ad' e)

  module _ {j : RunJob} (e : r ≡ Ok j) where
    pub full_field : {x : Float} → (nf ≡ j.g.n + j.d → ⊥) → x ≡ nan → Refused WorkLength x ≡ full_answer (start o (job_over gs g starts cols vals mass tau count w) out w₀ field).answer
    full_field ne ex = ap answered (refused_field mass ok gs sound tau count w o out w₀ field ad' e (λ h. ne (sym ef ∙ h)) ex)

    abbrev values : List Float
    values = combination_start j.g.n w j.d j.eta.inv

    eta_is : j.eta ≡ eta_scaling (magnitude g.n (further g.n w) tau (count - 1))
    unfolding scaling_by
    eta_is = ap (λ (x : RunJob). x.eta) (known (sym ad ∙ e)).is

    -- the start's own call: all zeros, or 32
    pub full_start : {b : Bool} {a : Checked} → nf ≡ j.g.n + j.d
        → ((sum : Float) → b ≡ is_some (pow2_scale (combination_start j.g.n w j.d (eta_scaling sum).inv)))
        → a ≡ (if b then Refused UnitFull nan else Sound)
        → a ≡ full_answer (start o (job_over gs g starts cols vals mass tau count w) out w₀ field).answer
    full_start l h er =
        let sum = magnitude g.n (further g.n w) tau (count - 1) in
        let hb = h sum ∙ ap (λ (x : Scaling). is_some (pow2_scale (combination_start j.g.n w j.d x.inv))) (sym eta_is) in
        er
        ∙ ap (λ (x : Bool). if x then Refused UnitFull nan else Sound) hb
        ∙ begun_full o j values (cleared j.need w₀) (pow2_scale values)
        ∙ ap answered (started_is mass ok gs sound tau count w o out w₀ field ad' e (ef ∙ l) refl)
