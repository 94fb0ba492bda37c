-- What the checks of a Krylov combination leave, and what its answer is. Assumes nothing.
use mathlib.Core.Path.{◌≡◌, refl, sym, ap, ◌∙◌}
use mathlib.Core.Bool.{true}
use mathlib.Core.List.{List, [], ◌∷◌, ◌++◌, append_assoc}
use Prim.Native.Nat.{ℕ, ◌+◌, ◌-◌, ◌*◌, ◌≤◌}
use native.Mathlib.Omega.{arith}
use lib.Dec.{ltb}
use lib.ListN.{length}
use lib.Ieee.{Float}
use borrow.Author.Tests.{ltb-false}
use Rattle.std.specs.Prelude.{None}
use Rattle.lists.specs.Window.{window, splice}
use Rattle.lists.proofs.Bounds.{column_within}
use Rattle.lists.proofs.Window.{window_splice_same}
use Rattle.checks.specs.First.{Check, refuse, first, or_first}
use Rattle.checks.proofs.First.{sound_cons, sound_append, sound_on, refused_up, err_first, ok_first, refused_or, sound_or}
use Rattle.checks.specs.First.{Checked}
use Rattle.general_operator.specs.Csr.{Csr, csr}
use Rattle.general_operator.proofs.Sound.{or_false}
use Rattle.generator_action.specs.Mass.{given, quotients}
use Rattle.generator_action.specs.Generator.{Generator}
use Rattle.generator_action.specs.Known.{Passed}
use Rattle.generator_action.specs.declared.Shape.{Shape}
use Rattle.pow2.specs.declared.Scaling.{Scaling}
use Rattle.phi_action_helpers.specs.Augmented.{augmented}
use Rattle.combination.specs.Combination.{further, eta_of, combination_operator, combination_start}
use Rattle.combination.specs.Call.{Call, ends, cleared}
use Rattle.combination.specs.Checks.{count_checks, time_checks, length_checks, finite_checks, vector_checks_by, vector_checks, magnitude_checks}
use Rattle.taylor_schedule.specs.Inner.{matrix_of, after_checks}
use Rattle.taylor_schedule.proofs.Admitted.{Vectors, vectors_known, first_within, further_within, coupled_in, enough_known, length_start}
use Rattle.combination.proofs.Further.{length_further}
use Rattle.combination.proofs.Cleared.{clear_over}
use Rattle.taylor_schedule.proofs.Stored.{quotients_rows}
use Rattle.combination.proofs.Ends.{refused_by, runs}
use Rattle.gram_schmidt.specs.declared.Krylov.{Krylov}
use Rattle.krylov_advance.specs.Run.{End, finished, refused}
use Rattle.krylov_job.specs.KrylovCall.{dimension, option_checks, bound_checks, run_checks, krylov_need, krylov_checks_by, krylov_checks, after_run, combination_run_krylov, phi_combination_krylov}
use Rattle.krylov_job.specs.Inner.{scaling_by, scaling_of, run_job_by, run_by, checks_after, admitted, Allowed, run_of}
use Rattle.krylov_job.specs.KrylovCall.{KrylovAnswer}
use Rattle.krylov_job.specs.declared.KrylovPhiOptions.{KrylovPhiOptions}
use Rattle.krylov_job.specs.declared.RunJob.{RunJob}
use Rattle.krylov_job.proofs.Places.{clamp_twice, expv_clamped}
use Rattle.checks.specs.Reasons.{Sound, Refused}
use Rattle.std.specs.Prelude.{Result, Ok, Err}
use Rattle.checks.specs.declared.Refusal.{Refusal}
use Rattle.checks.specs.declared.Reason.{Reason}

-- ---- what 18 to 22, 24 and 26 tell
pub options_known : (o : KrylovPhiOptions) (M : ℕ) {r : Checked} → r ≡ Sound → r ≡ first (option_checks o M) → (M ≤ 128) × (o.max_substeps ≤ 1000000)
unfolding option_checks
options_known o M e f =
    let b = sound_cons _ _ _ _ (sound_cons _ _ _ _ (sym e ∙ f)).1 in
    let c = or_false (ltb 128 M) (ltb 1000000 o.max_substeps) (sound_cons _ _ _ _ b.1).0 in
    (ltb-false 128 M c.0, ltb-false 1000000 _ c.1)

run_known : (n : ℕ) (tau : Float) (d : ℕ) (f : List Float) (eta anorm : Float) (memory need : ℕ) → Sound ≡ first (run_checks n tau d f eta anorm memory need) → need ≤ memory
unfolding run_checks
run_known n tau d f eta anorm memory need e = enough_known memory need (sound_append (bound_checks anorm) _ (sound_append (magnitude_checks n f tau d eta) _ e).1).1

-- the first field lies in the part that is needed
pub field_needed : {starts cols : List ℕ} {vals mass : List Float} {j : RunJob} {vectors memory : ℕ} → Allowed starts cols vals mass j vectors memory → j.k.y + (j.g.n + j.d) ≤ j.need
unfolding krylov_need
field_needed {j = j} al =
    let y_is = ap (λ (x : Krylov). x.y) al.placed in
    let o = column_within (j.k.m + 2) (j.k.m + 3) (j.g.n + j.d) (omega arith) in
    omega (arith, y_is, o, al.needed)

-- ---- what all checks after those of the generator tell
-- an answer is that of some checks
abbrev pub alone : Checked → List Check
alone (Ok _) = []
alone (Err r) = refuse r.reason true r.value ∷ []

pub alone_told : (r : Checked) → r ≡ first (alone r)
unfolding first
alone_told (Ok _) = refl
alone_told (Err r) = refl

-- what stands between 16 and 17 passed, and so did 12 to 17 without it
pub vectors_alone : (n : ℕ) (ts os : List Check) (count : ℕ) (w : List Float) (output : ℕ) → Sound ≡ first (vector_checks_by ts (length_checks output n (length w) (count * n) ++ os) count w)
    → Vectors n count (length w) output × (Sound ≡ first os)
unfolding vector_checks vector_checks_by
vectors_alone n ts os count w output e =
    let ls = length_checks output n (length w) (count * n) in
    let c = sound_append (count_checks count) _ e in
    let t = sound_append ts _ c.1 in
    let l = sound_append (ls ++ os) (finite_checks w) t.1 in
    let o = sound_append ls os l.0 in
    (vectors_known n ts count w output refl (sound_on (count_checks count) _ refl c.0 (sound_on ts _ refl t.0 (sound_on ls _ refl o.0 l.1))), o.1)

-- the answer of 12 to 20, and then of the rest
module _ (g : Shape) (tau : Float) (count : ℕ) (w : List Float) (o : KrylovPhiOptions) (output : ℕ) (os : List Check) {early : Checked}
    (told : early ≡ first (vector_checks_by (time_checks tau) (length_checks output g.n (length w) (count * g.n) ++ os) count w ++ option_checks o (dimension g.n (count - 1) o.m))) where
  pub early_known : early ≡ Sound → Vectors g.n count (length w) output × (dimension g.n (count - 1) o.m ≤ 128)
  early_known e =
      let v = sound_append _ (option_checks o (dimension g.n (count - 1) o.m)) (sym e ∙ told) in
      ((vectors_alone g.n (time_checks tau) os count w output v.0).0, (options_known o _ refl v.1).0)

  pub refused_early : (eta : Scaling) (memory : ℕ) {e : Refusal} → early ≡ Err e
      → Err e ≡ admitted g tau count w eta o (length_checks output g.n (length w) (count * g.n) ++ os) memory
  unfolding checks_after
  refused_early eta memory e =
      refused_or _ _ _ e told
      ∙ ap (λ (cs : List Check). or_first cs (run_job_by g tau (count - 1) (further g.n w) eta o (dimension g.n (count - 1) o.m))) (append_assoc (vector_checks_by (time_checks tau) (length_checks output g.n (length w) (count * g.n) ++ os) count w) _ _)

  pub then_run : (eta : Scaling) (memory : ℕ) {r : Result RunJob Refusal} → early ≡ Sound
      → r ≡ run_by g tau (count - 1) (further g.n w) eta o (dimension g.n (count - 1) o.m) memory
      → r ≡ admitted g tau count w eta o (length_checks output g.n (length w) (count * g.n) ++ os) memory
  unfolding checks_after
  then_run eta memory e er =
      sound_or _ _ _ e told er
      ∙ ap (λ (cs : List Check). or_first cs (run_job_by g tau (count - 1) (further g.n w) eta o (dimension g.n (count - 1) o.m))) (append_assoc (vector_checks_by (time_checks tau) (length_checks output g.n (length w) (count * g.n) ++ os) count w) _ _)

pub record Known (g : Shape) (tau : Float) (count : ℕ) (w : List Float) (eta : Scaling) (o : KrylovPhiOptions) (output : ℕ) (os : List Check) (memory : ℕ) (j : RunJob) : Type 0 where
  pub is : j ≡ run_job_by g tau (count - 1) (further g.n w) eta o (dimension g.n (count - 1) o.m)
  pub vectors : Vectors g.n count (length w) output
  pub options : (dimension g.n (count - 1) o.m ≤ 128) × (o.max_substeps ≤ 1000000)
  pub others : Sound ≡ first os
  pub enough : j.need ≤ memory

pub known : {g : Shape} {tau : Float} {count : ℕ} {w : List Float} {eta : Scaling} {o : KrylovPhiOptions} {output : ℕ} {os : List Check} {memory : ℕ} {j : RunJob}
    → admitted g tau count w eta o (length_checks output g.n (length w) (count * g.n) ++ os) memory ≡ Ok j
    → Known g tau count w eta o output os memory j
unfolding checks_after
known {g} {tau} {count} {w} {eta} {o} {output} {os} {memory} {j} ad =
    let told = ok_first _ _ ad in
    let is = sym told.1 in
    let M = dimension g.n (count - 1) o.m in
    let v = sound_append (vector_checks_by (time_checks tau) (length_checks output g.n (length w) (count * g.n) ++ os) count w) _ (sym told.0) in
    let p = sound_append (option_checks o M) _ v.1 in
    let a = vectors_alone g.n (time_checks tau) os count w output v.0 in
    record {
      is = is;
      vectors = a.0;
      options = options_known o M refl p.0;
      others = a.1;
      enough = omega (arith, ap (λ (x : RunJob). x.need) is, run_known g.n tau (count - 1) (further g.n w) eta.eta _ memory _ p.1);
    }

module _
    {starts cols : List ℕ}
    {vals : List Float}
    (mass : List Float)
    {g : Shape}
    (ok : Passed (csr g.n starts cols vals) (given g.with_mass mass) g)
    {tau : Float}
    {count : ℕ}
    {w : List Float}
    {eta : Scaling}
    {o : KrylovPhiOptions}
    {output : ℕ}
    {os : List Check}
    {memory : ℕ}
    {j : RunJob}
    (k : Known g tau count w eta o output os memory j) where
  pub allowed : Allowed starts cols vals mass j (length (further g.n w)) memory
  unfolding dimension
  allowed =
      let few : count - 1 ≤ 3 = omega (arith, k.vectors.most) in
      let enough = k.enough in
      rw k.is
      (record {
        passed = ok;
        coupled = coupled_in g.n (count - 1) (length (further g.n w)) _ (rw length_further (further_within k.vectors)) few;
        placed = refl;
        small = k.options.0;
        clamped = clamp_twice o.m (g.n + (count - 1));
        limited = k.options.1;
        needed = refl;
        enough = rw k.is at enough;
      })

-- ---- it is cleared with that part
after_cleared : (n need : ℕ) (w₀ w₁ : List Float) (e : End) → cleared need w₁ ≡ cleared need w₀ → after_run n need w₁ e ≡ after_run n need w₀ e
unfolding after_run
after_cleared n need w₀ w₁ (finished s) e = rw e refl
after_cleared n need w₀ w₁ (refused k x s) e = rw e refl

run_from : {starts cols : List ℕ} {vals mass : List Float} {j : RunJob} {vectors : ℕ} (q : Csr) (f y w₀ : List Float) {w₁ : List Float} → Allowed starts cols vals mass j vectors (length w₀)
    → length y ≡ j.g.n + j.d
    → w₁ ≡ splice j.k.y y w₀
    → after_run j.g.n j.need w₁ (run_of j q f (window j.k.y (j.g.n + j.d) w₁)) ≡ after_run j.g.n j.need w₀ (run_of j q f y)
run_from {j = j} q f y w₀ {w₁} al ly e =
    let fits = field_needed al in
    let field : window j.k.y (j.g.n + j.d) w₁ ≡ y = ap (window j.k.y (j.g.n + j.d)) e ∙ window_splice_same j.k.y (j.g.n + j.d) y w₀ ly (omega (arith, fits, al.enough)) in
    after_cleared j.g.n j.need w₀ w₁ _ (clear_over j.need j.k.y y w₀ e (omega (arith, fits, ly))) ∙ rw field refl

-- ---- the answer
pub refused_generator : (g : Generator) (tau : Float) (count : ℕ) (w : List Float) (o : KrylovPhiOptions) (out w₀ : List Float) {k : Reason} {x : Float} → Refused k x ≡ first g.checks
    → ends (Refused k x) out w₀ ≡ phi_combination_krylov g tau count w o out w₀
unfolding phi_combination_krylov krylov_checks krylov_checks_by
refused_generator g tau count w o out w₀ e = refused_by Refused _ out w₀ _ refl (refused_up g.checks _ refl e)

-- over a generator that passed the checks gs
module _
    {starts cols : List ℕ}
    {vals : List Float}
    (mass : List Float)
    {g : Shape}
    (ok : Passed (csr g.n starts cols vals) (given g.with_mass mass) g)
    (gs : List Check)
    (sound : Sound ≡ first gs)
    (tau : Float)
    (count : ℕ)
    (w : List Float)
    (o : KrylovPhiOptions) where
  abbrev generator : Generator
  generator = after_checks gs (csr g.n starts cols vals) (given g.with_mass mass) g

  rows : generator.matrix.n ≡ g.n
  rows = quotients_rows (csr g.n starts cols vals) (given g.with_mass mass)

  -- 12 to 26 are then all checks
  pub all_checks : (eta : Float) (ls : List Check) (memory : ℕ) {r : Checked} → r ≡ first (checks_after g tau count w eta o ls memory) → r ≡ first (krylov_checks_by generator tau count w eta ls o memory)
  unfolding checks_after krylov_checks_by
  all_checks eta ls memory e = sound_on gs _ refl sound (rw (← ok.norm, rows) e)

  -- a job with nothing between 16 and 17, by its own eta
  module _ (out w₀ : List Float) {r : Result RunJob Refusal} (ad : r ≡ admitted g tau count w (scaling_of g tau count w None) o (length_checks (length out) g.n (length w) (count * g.n) ++ []) (length w₀)) where
    pub job_told : first (checks_after g tau count w (scaling_of g tau count w None).eta o (length_checks (length out) g.n (length w) (count * g.n) ++ []) (length w₀)) ≡ first (krylov_checks generator tau count w o (length out) (length w₀))
    unfolding krylov_checks length_checks scaling_by eta_of quotients
    job_told = rw rows (all_checks (scaling_of g tau count w None).eta (length_checks (length out) g.n (length w) (count * g.n)) (length w₀) refl)

    pub refused_run : {k : Reason} {x : Float} → r ≡ Refused k x → ends (Refused k x) out w₀ ≡ phi_combination_krylov generator tau count w o out w₀
    unfolding phi_combination_krylov
    refused_run e = refused_by Refused _ out w₀ _ (err_first _ _ (sym ad ∙ e)) job_told

    module _ {j : RunJob} (e : r ≡ Ok j) where
      k : Known g tau count w (scaling_of g tau count w None) o (length out) [] (length w₀) j
      k = known (sym ad ∙ e)

      pub start_fits : (g.n ≤ length w) × (j.k.y + (g.n + j.d) ≤ length w₀)
      start_fits =
          let al = allowed mass ok k in
          (first_within k.vectors, omega (arith, field_needed al, al.enough, ap (λ (x : RunJob). x.g.n) k.is))

      pub runs_job : {long : ℕ} → long ≡ length w₀ → Allowed starts cols vals mass j (length (further g.n w)) long × (length out ≡ j.g.n)
      runs_job l = (rw l (allowed mass ok k), k.vectors.out ∙ ap (λ (x : RunJob). x.g.n) (sym k.is))

      pub combined_is : {c : Call KrylovAnswer} {w₁ : List Float} → w₁ ≡ splice j.k.y (combination_start g.n w j.d j.eta.inv) w₀
          → c ≡ after_run j.g.n j.need w₁ (run_of j (matrix_of j.g starts cols vals mass) (further g.n w) (window j.k.y (j.g.n + j.d) w₁))
          → c ≡ phi_combination_krylov generator tau count w o out w₀
      unfolding phi_combination_krylov combination_run_krylov combination_operator dimension scaling_by eta_of
      combined_is e₁ ran =
          let d = count - 1 in
          let f = further g.n w in
          let M = dimension g.n d o.m in
          let J = run_job_by g tau d f (scaling_of g tau count w None) o M in
          let q = generator.matrix in
          let y = combination_start g.n w d J.eta.inv in
          let ly = length_start g.n w d J.eta.inv (first_within k.vectors) in
          let B = augmented q d f J.b.places J.b.gains J.b.count in
          let clamped = rw ly at (expv_clamped B tau J.k.anorm o.tol o.m o.max_substeps y) in
          runs Refused _ out w₀ _ (ok_first _ _ (sym ad ∙ e)).0 job_told ((rw k.is at ran) ∙ run_from q f y w₀ (rw k.is at (allowed mass ok k)) ly (rw k.is at e₁) ∙ ap (after_run g.n J.need w₀) clamped ∙ rw (← ok.norm, rows) refl)
