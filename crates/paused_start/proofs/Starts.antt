-- A start over a job that passed its checks, and by all of them. Assumes nothing.
use mathlib.Core.Path.{◌≡◌, refl, sym, ap, ◌∙◌}
use mathlib.Core.Bool.{true, false}
use mathlib.Core.List.{List, [], ◌++◌}
use Prim.Native.Nat.{ℕ, ◌+◌, ◌-◌, ◌*◌, ◌≤◌}
use native.Mathlib.Omega.{arith}
use lib.ListN.{length, replicate}
use lib.Ieee.{Float, nan}
use Rattle.std.specs.Prelude.{Option, Some, None}
use Rattle.lists.specs.Window.{window, splice}
use Rattle.lists.proofs.Window.{length_window, splice_whole}
use Rattle.doubles.specs.F64.{◌⊗◌, +0, 1f}
use Rattle.vectors.specs.Vectors.{scale}
use Rattle.pow2.specs.Pow2.{pow2_scale}
use Rattle.pow2.specs.declared.Scale.{Scale}
use Rattle.pow2.specs.declared.Scaling.{Scaling}
use Rattle.checks.specs.First.{Check, first}
use Rattle.checks.proofs.First.{refused_up, sound_on, err_first, ok_first, stops, passes, ends_sound, not_eq, not_ne}
use Rattle.general_operator.specs.Csr.{csr}
use Rattle.generator_action.specs.Mass.{given}
use Rattle.generator_action.specs.Known.{Passed}
use Rattle.generator_action.specs.declared.Shape.{Shape}
use Rattle.combination.specs.Combination.{further, eta_of, combination_start}
use Rattle.combination.specs.Call.{cleared}
use Rattle.combination.specs.Checks.{length_checks}
use Rattle.taylor_schedule.proofs.Admitted.{first_within}
use Rattle.taylor_schedule.proofs.Stored.{quotients_rows}
use Rattle.gram_schmidt.specs.Basis.{norm2}
use Rattle.krylov_advance.specs.Run.{first_length}
use Rattle.krylov_job.specs.KrylovCall.{dimension, krylov_checks, krylov_checks_by}
use Rattle.krylov_job.specs.Inner.{scaling_by, scaling_of, run_job_by, checks_after, admitted}
use Rattle.krylov_job.proofs.Calls.{Known, known, job_told}
use Rattle.krylov_job.specs.declared.KrylovPhiOptions.{KrylovPhiOptions}
use Rattle.krylov_job.specs.declared.RunJob.{RunJob}
use Rattle.paused_run.specs.Paused.{Job, PausedCall, leaves, rows, field_checks, start_checks, first_field, need_of, begun, start_unless, start}
use Rattle.paused_run.specs.Inner.{job_over, fresh_of, first_of, begun_of}
use Rattle.paused_run.specs.declared.PausedRun.{PausedRun}
use Rattle.paused_run.specs.Paused.{StartAnswer}
use Rattle.checks.specs.Reasons.{Sound, Refused}
use Rattle.std.specs.Prelude.{Result, Ok}
use Rattle.checks.specs.declared.Refusal.{Refusal}
use Rattle.checks.specs.declared.Reason.TheVariants.{WorkLength}
use Rattle.checks.specs.declared.Reason.{Reason}

-- ---- the run at time 0
module _ (o : KrylovPhiOptions) (j : RunJob) where
  pub first_is : (f : Scale) (y : List Float) {y₁ : List Float} {norm next : Float} {r : PausedRun} → y₁ ≡ scale f.down y → norm ≡ norm2 y₁
      → next ≡ first_length j.k.m j.k.anorm (o.tol ⊗ norm) norm
      → r ≡ fresh_of o j f norm next false
      → r ≡ first_of o j f (scale f.down y)
  first_is f y e en ex er = er ∙ rw (ex, en, e) refl

  -- y is written over the whole field, and the working memory cleared
  module _ (y w₀ out field : List Float) {field₁ w₁ : List Float} {s : Option Scale} (ly : length y ≡ length field) (lo : length out ≡ j.g.n) (fits : j.g.n ≤ length field) (e : field₁ ≡ splice 0 y field)
      (ew : w₁ ≡ splice 0 (replicate j.need +0) w₀) (es : s ≡ pow2_scale field₁) where
    field_is : field₁ ≡ y
    field_is = e ∙ splice_whole y field ly

    pub long : length field₁ ≡ length field
    long = ap length field_is ∙ ly

    scale_is : pow2_scale y ≡ s
    scale_is = sym (es ∙ ap pow2_scale field_is)

    pub begun_idle : {out₁ : List Float} {r : PausedRun} → s ≡ None → out₁ ≡ splice 0 (window 0 j.g.n field₁) out → r ≡ fresh_of o j (record { down = 1f; up = 1f }) +0 +0 true
        → leaves (Ok r) out₁ w₁ field₁ ≡ begun_of o j y (cleared j.need w₀) (pow2_scale y)
    unfolding begun_of cleared
    begun_idle {out₁} {r} en eo er =
        let eo' : out₁ ≡ window 0 j.g.n y = eo ∙ ap (λ (x : List Float). splice 0 (window 0 j.g.n x) out) field_is ∙ splice_whole _ out (length_window 0 j.g.n y (omega (arith, ly, fits)) ∙ sym lo) in
        rw (scale_is ∙ en) (λ i. leaves (Ok (er i)) (eo' i) (ew i) (field_is i))

    pub begun_first : (f : Scale) {out₁ y₁ : List Float} {r : PausedRun} → s ≡ Some f → r ≡ first_of o j f (scale f.down field₁) → y₁ ≡ scale f.down field₁
        → out₁ ≡ window 0 (length out) (scale f.up (scale f.down field₁))
        → leaves (Ok r) out₁ w₁ y₁ ≡ begun_of o j y (cleared j.need w₀) (pow2_scale y)
    unfolding begun_of cleared
    begun_first f {out₁} {y₁} {r} en er ey eo =
        let er' = rw field_is at er in
        let ey' = rw field_is at ey in
        let eo' = rw (field_is, lo) at eo in
        rw (scale_is ∙ en) (λ i. leaves (Ok (er' i)) (eo' i) (ew i) (ey' i))

-- ---- by the checks
-- what `begin` requires of a job that passed
module _ {g : Shape} {tau : Float} {count : ℕ} {w : List Float} {eta : Scaling} {o : KrylovPhiOptions} {output : ℕ} {os : List Check} {memory : ℕ} {j : RunJob} (k : Known g tau count w eta o output os memory j) where
  pub begins : (j.d ≤ 3) × (j.k.m ≤ 128) × (j.need ≤ memory) × (j.g.n ≤ length w)
  begins = (
    omega (arith, ap (λ (x : RunJob). x.d) k.is, k.vectors.most),
    omega (arith, ap (λ (x : RunJob). x.k.m) k.is, k.options.0),
    k.enough,
    omega (arith, ap (λ (x : RunJob). x.g.n) k.is, first_within k.vectors),
  )

  pub out_long : output ≡ j.g.n
  out_long = k.vectors.out ∙ ap (λ (x : RunJob). x.g.n) (sym k.is)

module _ (o : KrylovPhiOptions) (j : Job) (out w₀ field : List Float) where
  pub start_refused : {k : Reason} {x : Float} → Refused k x ≡ first (start_checks o j (length out) (length w₀) (length field)) → leaves (Refused k x) out w₀ field ≡ start o j out w₀ field
  unfolding start start_unless
  start_refused e = rw (← e) refl

  pub refused_generator : {k : Reason} {x : Float} → Refused k x ≡ first j.g.checks → leaves (Refused k x) out w₀ field ≡ start o j out w₀ field
  unfolding start_checks krylov_checks krylov_checks_by
  refused_generator e = start_refused (refused_up _ _ refl (refused_up _ _ refl e))

  start_runs : {c : PausedCall StartAnswer} → Sound ≡ first (start_checks o j (length out) (length w₀) (length field))
      → c ≡ begun o j (first_field j) (cleared (need_of j o.m) w₀) (pow2_scale (first_field j))
      → c ≡ start o j out w₀ field
  unfolding start start_unless
  start_runs e h = h ∙ rw (← e) refl

module _
    {starts cols : List ℕ}
    {vals : List Float}
    (mass : List Float)
    {g : Shape}
    (ok : Passed (csr g.n starts cols vals) (given g.with_mass mass) g)
    (gs : List Check)
    (sound : Sound ≡ first gs)
    (tau : Float)
    (count : ℕ)
    (w : List Float)
    (o : KrylovPhiOptions)
    (out w₀ field : List Float)
    {r : Result RunJob Refusal}
    (ad : r ≡ admitted g tau count w (scaling_of g tau count w None) o (length_checks (length out) g.n (length w) (count * g.n) ++ []) (length w₀)) where
  abbrev job : Job
  job = job_over gs g starts cols vals mass tau count w

  rows_are : rows job ≡ g.n
  rows_are = quotients_rows (csr g.n starts cols vals) (given g.with_mass mass)

  told : first (checks_after g tau count w (scaling_of g tau count w None).eta o (length_checks (length out) g.n (length w) (count * g.n) ++ []) (length w₀)) ≡ first (krylov_checks job.g tau count w o (length out) (length w₀))
  told = job_told mass ok gs sound tau count w o out w₀ ad

  pub refused_job : {k : Reason} {x : Float} → r ≡ Refused k x → leaves (Refused k x) out w₀ field ≡ start o job out w₀ field
  unfolding start_checks
  refused_job e = let f = err_first _ _ (sym ad ∙ e) in start_refused o job out w₀ field (sym f ∙ refused_up _ _ f told)

  module _ {j : RunJob} (e : r ≡ Ok j) where
    passed : first (checks_after g tau count w (scaling_of g tau count w None).eta o (length_checks (length out) g.n (length w) (count * g.n) ++ []) (length w₀)) ≡ Sound
    passed = (ok_first _ _ (sym ad ∙ e)).0

    k : Known g tau count w (scaling_of g tau count w None) o (length out) [] (length w₀) j
    k = known (sym ad ∙ e)

    n_is : j.g.n ≡ g.n
    n_is = ap (λ (x : RunJob). x.g.n) k.is

    d_is : j.d ≡ count - 1
    d_is = ap (λ (x : RunJob). x.d) k.is

    pub refused_field : {x : Float} → (length field ≡ j.g.n + j.d → ⊥) → x ≡ nan → leaves (Refused WorkLength x) out w₀ field ≡ start o job out w₀ field
    unfolding start_checks field_checks
    refused_field ne ex =
        start_refused o job out w₀ field (sound_on _ _ passed told (stops [] (not_ne (λ h. ne (h ∙ rw (rows_are, n_is, d_is) refl))) ex))

    begun_is : (y memory : List Float) (p : Option Scale) → begun_of o (run_job_by g tau (count - 1) (further g.n w) (scaling_of g tau count w None) o (dimension g.n (count - 1) o.m)) y memory p ≡ begun o job y memory p
    unfolding begun begun_of scaling_by eta_of
    begun_is y memory None =
        let c : count - 1 + 1 ≡ count = omega (arith, k.vectors.some) in
        rw (rows_are, c) refl
    begun_is y memory (Some f) =
        let c : count - 1 + 1 ≡ count = omega (arith, k.vectors.some) in
        rw (← ok.norm, rows_are, c) refl

    pub started_is : {c : PausedCall StartAnswer} → length field ≡ j.g.n + j.d
        → c ≡ begun_of o j (combination_start j.g.n w j.d j.eta.inv) (cleared j.need w₀) (pow2_scale (combination_start j.g.n w j.d j.eta.inv))
        → c ≡ start o job out w₀ field
    unfolding start_checks field_checks scaling_by eta_of
    started_is l h =
        start_runs o job out w₀ field
        (sound_on _ _ refl (sym passed ∙ told) (passes WorkLength nan [] (not_eq (l ∙ rw (rows_are, n_is, d_is) refl)) ends_sound))
        ((rw k.is at h) ∙ begun_is _ _ _ ∙ rw rows_are refl)
