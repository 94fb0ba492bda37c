-- A step over a job that passed its checks, and by all of them. Assumes nothing.
use mathlib.Core.Path.{◌≡◌, refl, sym, ap, subst, ◌∙◌}
use mathlib.Core.Bool.{true, false}
use mathlib.Core.List.{List, [], ◌++◌}
use Prim.Native.Nat.{ℕ, ◌+◌, ◌-◌, ◌*◌, ◌≤◌}
use native.Mathlib.Omega.{arith}
use lib.Dec.{ltb, leb}
use lib.ListN.{length, replicate}
use lib.Ieee.{Float, nan}
use borrow.Author.Tests.{ltb-false, leb-false}
use Rattle.std.specs.Prelude.{Option, Some}
use Rattle.lists.specs.Window.{window, splice}
use Rattle.lists.specs.Walk.{Turn}
use Rattle.lists.specs.Frame.{Kept}
use Rattle.lists.proofs.Window.{length_window, length_splice, splice_whole, window_splice_same, window_whole}
use Rattle.doubles.specs.F64.{+0}
use Rattle.vectors.specs.Vectors.{scale}
use Rattle.checks.specs.First.{Check, first}
use Rattle.checks.proofs.First.{err_is, ok_is, refused_up, sound_on, err_first, ok_first, stops, passes, ends_sound, not_eq, not_ne}
use Rattle.general_operator.specs.Csr.{csr}
use Rattle.general_operator.proofs.Sound.{or_false}
use Rattle.generator_action.specs.Mass.{given, quotients, stored}
use Rattle.generator_action.specs.Known.{Passed}
use Rattle.generator_action.specs.declared.Shape.{Shape}
use Rattle.pow2.specs.declared.Scaling.{Scaling}
use Rattle.phi_action_helpers.specs.declared.Layout.{Layout}
use Rattle.phi_action_helpers.specs.Laid.{matrix_at}
use Rattle.combination.specs.Combination.{further, combination_operator}
use Rattle.combination.specs.Call.{cleared}
use Rattle.combination.specs.Checks.{length_checks}
use Rattle.taylor_schedule.specs.Inner.{matrix_of}
use Rattle.taylor_schedule.proofs.Admitted.{first_within}
use Rattle.combination.proofs.Cleared.{clear_over}
use Rattle.taylor_schedule.proofs.Stored.{quotients_rows}
use Rattle.gram_schmidt.specs.Basis.{norm2}
use Rattle.gram_schmidt.specs.Memory.{setting_at, Room}
use Rattle.gram_schmidt.specs.declared.Krylov.{Krylov}
use Rattle.krylov_advance.specs.Run.{State, End, substep}
use Rattle.krylov_advance.specs.Memory.{state_at, progress_at}
use Rattle.krylov_advance.specs.declared.Progress.{Progress}
use Rattle.krylov_advance.specs.declared.Progress.TheVariants as progress
use Rattle.krylov_advance.proofs.Whole.{absolute, room_absolute}
use Rattle.krylov_job.specs.KrylovCall.{krylov_checks_by}
use Rattle.krylov_job.specs.Memory.{layout}
use Rattle.krylov_job.specs.Inner.{scaling_by, scaling_of, checks_after, admitted, Allowed}
use Rattle.krylov_job.proofs.Calls.{Known, known, allowed, all_checks, field_needed}
use Rattle.krylov_job.proofs.Runs.{store_fits, room, operator_is, field_is, spared}
use Rattle.krylov_job.specs.declared.KrylovPhiOptions.{KrylovPhiOptions}
use Rattle.krylov_job.specs.declared.RunJob.{RunJob}
use Rattle.paused_run.specs.Paused.{Job, Input, PausedCall, leaves, rows, field_checks, setting_of, tol_in, options_in, over, other_checks, step_checks, resumed, verdict, field_after, substep_of, after_substep, step_unless, step}
use Rattle.paused_run.specs.Inner.{job_over, other_checks_by, setting_for, turned, after_of}
use Rattle.paused_run.specs.declared.PausedRun.{PausedRun}
use Rattle.paused_run.specs.declared.StepRefusal.{StepRefusal}
use Rattle.std.specs.Prelude.{Result, Ok, Err}
use Rattle.std.specs.Result.{MatchResult, IsOkAnd, IsErrAnd}
use Rattle.std.proofs.lemmas.Result.{err_from_is_err_and}
use Rattle.paused_run.specs.Paused.{StepAnswer, StepRefused}
use Rattle.checks.specs.Reasons.{Sound, Refused}
use Rattle.checks.specs.declared.Reason.TheVariants.{WorkLength, RunEnded}
use Rattle.checks.specs.declared.Reason.{Reason}
use Rattle.checks.specs.declared.Refusal.{Refusal}

-- ---- one substep on the lent field
seen : (l : Layout) (k : Krylov) (o : Progress) (w : List Float) → progress_at l k o w ≡ turned o (window k.y (l.n + l.d) w)
unfolding progress_at turned
seen l k (progress.On c r) w = refl
seen l k (progress.Finished c r) w = refl
seen l k (progress.Refused e c r) w = refl

module _
    {starts cols : List ℕ}
    {vals mass : List Float}
    {j : RunJob}
    (vectors w₀ field : List Float)
    (al : Allowed starts cols vals mass j (length vectors) (length w₀))
    (long : length field ≡ j.g.n + j.d)
    {l : Layout}
    (el : l ≡ layout j.g.n j.d j.k.m j.g.with_mass) where
  pub field_fits : j.k.y + (j.g.n + j.d) ≤ length w₀
  field_fits = omega (arith, field_needed al, al.enough)

  -- the field is written into the memory
  module _ {w₁ : List Float} (e₁ : w₁ ≡ splice j.k.y (window 0 (j.g.n + j.d) field) w₀) where
    brought : window 0 (j.g.n + j.d) field ≡ field
    brought = window_whole (j.g.n + j.d) field long

    long₁ : length w₁ ≡ length w₀
    long₁ = ap length e₁ ∙ length_splice _ _ w₀

    al₁ : Allowed starts cols vals mass j (length vectors) (length w₁)
    al₁ = rw long₁ al

    pub fits : j.g.with_mass ≡ true → l.q + length vals ≤ length w₁
    fits = store_fits vectors w₁ al₁ el

    -- the quotients too
    module _ {w₂ : List Float} (e₂ : w₂ ≡ splice l.q (stored (csr j.g.n starts cols vals) (given j.g.with_mass mass)) w₁) where
      pub room₂ : (norm : Float) → Room l j.b (absolute j.k norm) (matrix_at l starts cols vals w₂) (length vals) (length vectors) (length w₂)
      room₂ norm = room_absolute norm (room vectors w₁ al₁ el e₂)

      begins_from : window j.k.y (l.n + l.d) w₂ ≡ field
      begins_from =
          field_is vectors w₁ al₁ el e₂
          ∙ ap (window j.k.y (j.g.n + j.d)) e₁
          ∙ window_splice_same j.k.y (j.g.n + j.d) _ w₀ (ap length brought ∙ long) field_fits
          ∙ brought

      -- and the substep is made
      module _ (s : PausedRun) {w₃ : List Float} (kept : Kept 0 l.q +0 w₂ w₃) {beta : Float} (eb : beta ≡ norm2 field) where
        pub long₃ : length w₃ ≡ length w₀
        long₃ = kept.long ∙ ap length e₂ ∙ length_splice _ _ w₁ ∙ long₁

        pub cleared₃ : cleared j.need w₃ ≡ cleared j.need w₀
        cleared₃ =
            spared vectors w₁ al₁ el e₂ kept
            ∙ clear_over j.need j.k.y _ w₀ e₁ (omega (arith, ap length brought ∙ long, field_needed al))

        pub substep_is : (o : Progress) {field₁ : List Float}
            → progress_at l (absolute j.k s.norm) o w₃ ≡ substep (setting_at l j.b (absolute j.k s.norm) (matrix_at l starts cols vals w₂) vectors) (state_at l (absolute j.k s.norm) (record { time = s.time; next = s.next; beta = beta }) s.report w₂)
            → field₁ ≡ splice 0 (window j.k.y (j.g.n + j.d) w₃) field
            → (turned o field₁ ≡ substep (setting_for j (matrix_of j.g starts cols vals mass) vectors s.norm) (resumed s field)) × (length field₁ ≡ length field)
        unfolding resumed
        substep_is o {field₁} e e₃ =
            let n_is = ap (λ (x : Layout). x.n) el in
            let d_is = ap (λ (x : Layout). x.d) el in
            let at_end : field₁ ≡ window j.k.y (l.n + l.d) w₃ = e₃ ∙ splice_whole _ field (length_window j.k.y (j.g.n + j.d) w₃ (omega (arith, field_fits, long₃)) ∙ sym long) ∙ rw (n_is, d_is) refl in (
              ap (turned o) at_end ∙ sym (seen l (absolute j.k s.norm) o w₃) ∙ e ∙ rw (operator_is vectors w₁ al₁ el e₂, begins_from, eb) refl,
              ap length e₃ ∙ length_splice _ _ field,
            )

-- ---- what it hands out
field_seen : (o : Progress) (y : List Float) → field_after (turned o y) ≡ y
unfolding turned
field_seen (progress.On c r) y = refl
field_seen (progress.Finished c r) y = refl
field_seen (progress.Refused e c r) y = refl

pub advanced : (s : PausedRun) (tol : Float) (j : RunJob) (output w₀ : List Float) (o : Progress) {t : Turn State End} {r : StepAnswer} {y out₁ : List Float} (w₁ : List Float) {w₂ : List Float} → turned o y ≡ t
    → r ≡ verdict s tol (turned o y)
    → out₁ ≡ window 0 (length output) (scale s.factors.up y)
    → length output ≡ j.g.n
    → w₂ ≡ splice 0 (replicate j.need +0) w₁
    → cleared j.need w₁ ≡ cleared j.need w₀
    → leaves r out₁ w₂ y ≡ after_of s tol j w₀ t
unfolding after_of cleared
advanced s tol j output w₀ o {t} {r} {y} {out₁} w₁ {w₂} et er eo lo ew ec =
    let er' = er ∙ ap (verdict s tol) et in
    let ey : y ≡ field_after t = sym (field_seen o y) ∙ ap field_after et in
    let eo' : out₁ ≡ window 0 j.g.n (scale s.factors.up (field_after t)) = (rw lo at eo) ∙ ap (λ (x : List Float). window 0 j.g.n (scale s.factors.up x)) ey in
    let ew' = ew ∙ ec in
    λ i. leaves (er' i) (eo' i) (ew' i) (ey i)

-- the options of a step are the run's, with the tol in force
pub own_options : (g : Shape) (tau : Float) (count : ℕ) (w : List Float) (eta : Scaling) (ls : List Check) (memory : ℕ) {r : Result RunJob Refusal} (s : PausedRun) (tolerance : Option Float) {tol : Float} {o : KrylovPhiOptions} → tol ≡ tol_in tolerance s
    → o ≡ options_in s tol
    → r ≡ admitted g tau count w eta o ls memory
    → r ≡ admitted g tau count w eta (options_in s (tol_in tolerance s)) ls memory
own_options g tau count w eta ls memory s tolerance e f ad = ad ∙ ap (λ (o : KrylovPhiOptions). admitted g tau count w eta o ls memory) (f ∙ ap (options_in s) e)

-- ---- the counts of a run that 31 does not refuse
pub counts : (s : PausedRun) → over s ≡ false → s.limit ≤ 1000000 → (s.report.substeps ≤ 1000000) × (s.report.matvecs ≤ 1000000000) × (s.report.rejected ≤ 1000000000)
unfolding over
counts s e few =
    let a = or_false s.ended _ e in
    let b = or_false (leb s.limit s.report.substeps) _ a.1 in
    let c = or_false (ltb 129000000 s.report.matvecs) _ b.1 in
    (omega (arith, leb-false s.limit s.report.substeps b.0), omega (arith, ltb-false 129000000 s.report.matvecs c.0), omega (arith, ltb-false 10000000 s.report.rejected c.1))

-- ---- a refusal that is given the run it leaves
ok_not_err : {A E : Type 0} {x : A} {d : E} → ◌≡◌ {A = Result A E} (Ok x) (Err d) → ⊥
ok_not_err e = subst (λ r. IsOkAnd r (λ _. Unit {0})) e tt

pub refusal_given : {A E D : Type 0} (c : Result A E) (r : Result A D) (P : E → D → Type 0) {d : D} → r ≡ Err d → MatchResult c (λ x. r ≡ Ok x) (λ e. IsErrAnd r (P e)) → (e : E) × ((c ≡ Err e) × P e d)
refusal_given (Ok x) r P e m = absurd (ok_not_err (sym m ∙ e))
refusal_given (Err y) (Ok x) P e m = absurd m
refusal_given (Err y) (Err d) P e m = (y, (refl, subst (P y) (err_is e) m))

pub value_given : {A E D : Type 0} (c : Result A E) (r : Result A D) (P : E → D → Type 0) {x : A} → r ≡ Ok x → MatchResult c (λ y. r ≡ Ok y) (λ e. IsErrAnd r (P e)) → c ≡ Ok x
value_given (Ok y) r P e m = ap Ok (ok_is (sym m ∙ e))
value_given (Err y) (Ok x) P e m = absurd m
value_given (Err y) (Err d) P e m = absurd (ok_not_err (sym e))

-- what `?` then returns
pub handed_on : {A : Type 0} {r : Result A StepRefusal} {d : StepRefusal} → IsErrAnd r (λ x. x ≡ d) → r ≡ Err d
handed_on {r = r} h = let p = err_from_is_err_and r h in p.1 ∙ ap Err p.2

-- ---- by the checks
module _ (s : PausedRun) (y : List Float) (i : Input) where
  step_refused : {k : Reason} {x : Float} → Refused k x ≡ first (step_checks s (length y) i) → leaves (StepRefused k x s) i.output i.memory y ≡ step s y i
  unfolding step step_unless
  step_refused e = rw (← e) refl

  step_runs : {c : PausedCall StepAnswer} → Sound ≡ first (step_checks s (length y) i) → c ≡ after_substep s i (substep_of s y i) → c ≡ step s y i
  unfolding step step_unless
  step_runs e h = h ∙ rw (← e) refl

  pub refused_over : {x : Float} → over s ≡ true → x ≡ nan → leaves (StepRefused RunEnded x s) i.output i.memory y ≡ step s y i
  unfolding step_checks
  refused_over e ex = step_refused (stops _ e ex)

  pub refused_generator : {k : Reason} {x : Float} → over s ≡ false → Refused k x ≡ first i.job.g.checks → leaves (StepRefused k x s) i.output i.memory y ≡ step s y i
  unfolding step_checks krylov_checks_by
  refused_generator eo e = step_refused (passes RunEnded nan _ eo (refused_up _ _ refl (refused_up _ _ refl e)))

module _
    {starts cols : List ℕ}
    {vals : List Float}
    (mass : List Float)
    {g : Shape}
    (ok : Passed (csr g.n starts cols vals) (given g.with_mass mass) g)
    (gs : List Check)
    (sound : Sound ≡ first gs)
    (s : PausedRun)
    (going : over s ≡ false)
    (tolerance : Option Float)
    (tau : Float)
    (count : ℕ)
    (w out w₀ field : List Float)
    {r : Result RunJob Refusal}
    (ad : r ≡ admitted g tau count w (scaling_of g tau count w (Some s.eta)) (options_in s (tol_in tolerance s)) (length_checks (length out) g.n (length w) (count * g.n) ++ other_checks_by s g.n count (length w)) (length w₀)) where
  abbrev job : Job
  job = job_over gs g starts cols vals mass tau count w

  abbrev input : Input
  input = record { tolerance = tolerance; job = job; output = out; memory = w₀ }

  rows_are : rows job ≡ g.n
  rows_are = quotients_rows (csr g.n starts cols vals) (given g.with_mass mass)

  told : first (checks_after g tau count w s.eta (options_in s (tol_in tolerance s)) (length_checks (length out) g.n (length w) (count * g.n) ++ other_checks_by s g.n count (length w)) (length w₀)) ≡ first (krylov_checks_by job.g tau count w s.eta (length_checks (length out) (rows job) (length w) (count * rows job) ++ other_checks s job) (options_in s (tol_in tolerance s)) (length w₀))
  unfolding other_checks scaling_by quotients
  told = rw rows_are (all_checks mass ok gs sound tau count w (options_in s (tol_in tolerance s)) s.eta _ (length w₀) refl)

  pub refused_job : {k : Reason} {x : Float} → r ≡ Refused k x → leaves (StepRefused k x s) out w₀ field ≡ step s field input
  unfolding step_checks scaling_by
  refused_job e = let f = err_first _ _ (sym ad ∙ e) in step_refused s field input (sym f ∙ passes RunEnded nan _ going (refused_up _ _ f told))

  module _ {j : RunJob} (e : r ≡ Ok j) where
    passed : first (checks_after g tau count w s.eta (options_in s (tol_in tolerance s)) (length_checks (length out) g.n (length w) (count * g.n) ++ other_checks_by s g.n count (length w)) (length w₀)) ≡ Sound
    unfolding scaling_by
    passed = (ok_first _ _ (sym ad ∙ e)).0

    k : Known g tau count w (scaling_of g tau count w (Some s.eta)) (options_in s (tol_in tolerance s)) (length out) (other_checks_by s g.n count (length w)) (length w₀) j
    k = known (sym ad ∙ e)

    pub n_is : j.g.n ≡ g.n
    n_is = ap (λ (x : RunJob). x.g.n) k.is

    d_is : j.d ≡ count - 1
    d_is = ap (λ (x : RunJob). x.d) k.is

    pub within : (j.d ≤ 3) × (g.n ≤ length w)
    within = (omega (arith, d_is, k.vectors.most), first_within k.vectors)

    pub refused_field : {x : Float} → (length field ≡ g.n + j.d → ⊥) → x ≡ nan → leaves (StepRefused WorkLength x s) out w₀ field ≡ step s field input
    unfolding step_checks field_checks
    refused_field ne ex =
        step_refused s field input (passes RunEnded nan _ going (sound_on _ _ passed told (stops [] (not_ne (λ h. ne (h ∙ rw (rows_are, d_is) refl))) ex)))

    pub advances : length field ≡ g.n + j.d
        → Allowed starts cols vals mass j (length (further g.n w)) (length w₀)
        × (((length field ≡ j.g.n + j.d) × (s.report.substeps ≤ 1000000) × (s.report.matvecs ≤ 1000000000) × (s.report.rejected ≤ 1000000000))
        × (length out ≡ j.g.n))
    advances l =
        let c = counts s going k.options.1 in
        (allowed mass ok k, ((l ∙ rw n_is refl, c.0, c.1, c.2), k.vectors.out ∙ sym n_is))

    setting_is : setting_for j (matrix_of j.g starts cols vals mass) (further g.n w) s.norm ≡ setting_of job s.eta s.norm (tol_in tolerance s) s.m
    unfolding setting_of combination_operator scaling_by
    setting_is = rw k.is (rw (← ok.norm, rows_are) refl)

    pub stepped_is : {tol : Float} {c : PausedCall StepAnswer} → length field ≡ g.n + j.d → tol ≡ tol_in tolerance s
        → c ≡ after_of s tol j w₀ (substep (setting_for j (matrix_of j.g starts cols vals mass) (further g.n w) s.norm) (resumed s field))
        → c ≡ step s field input
    unfolding step_checks field_checks after_substep after_of
    stepped_is l et h =
        step_runs s field input
        (passes RunEnded nan _ going (sound_on _ _ refl (sym passed ∙ told) (passes WorkLength nan [] (not_eq (l ∙ rw (rows_are, d_is) refl)) ends_sound)))
        (h ∙ rw (et, setting_is, k.is, rows_are) refl)
