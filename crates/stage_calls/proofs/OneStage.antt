-- One stage: 12 to 16 have passed, w_0 is the field v, and the further vectors are f. Assumes nothing.
use mathlib.Core.Path.{◌≡◌, refl, sym, ap, ◌∙◌}
use mathlib.Core.Bool.{Bool}
use mathlib.Core.List.{List, [], ◌++◌, append_assoc}
use Prim.Native.Nat.{ℕ, zero, suc, ◌+◌, ◌-◌, ◌*◌, ◌≤◌}
use native.Mathlib.Omega.{arith}
use native.Mathlib.Nat.{suc-mul}
use lib.ListN.{length, take, drop, length-append}
use lib.Ieee.{Float}
use Rattle.std.specs.Prelude.{None, Result, Ok}
use Rattle.lists.specs.Window.{window, splice}
use Rattle.lists.proofs.Window.{part_window, length_window}
use Rattle.checks.specs.First.{Check, first, or_first}
use Rattle.checks.specs.First.{Checked}
use Rattle.checks.proofs.First.{sound_on, refused_up, ends_sound, ok_first}
use Rattle.general_operator.specs.Csr.{csr}
use Rattle.generator_action.specs.Mass.{given}
use Rattle.generator_action.specs.Generator.{Generator}
use Rattle.generator_action.specs.Known.{Passed}
use Rattle.generator_action.specs.declared.Shape.{Shape}
use Rattle.combination.specs.Combination.{further, magnitude, combination_start}
use Rattle.combination.specs.Checks.{count_checks, time_checks, plan_checks, length_checks, finite_checks, vector_checks_by, vector_checks}
use Rattle.combination.specs.Call.{Call, ends}
use Rattle.taylor_schedule.specs.Inner.{Coupled, matrix_of, after_checks, combination_job, combination_refusals}
use Rattle.taylor_schedule.specs.declared.Job.{Job}
use Rattle.combination.proofs.Ends.{refused_by, runs}
use Rattle.taylor_schedule.proofs.Stored.{quotients_rows}
use Rattle.combination.proofs.Further.{further_behind, start_of}
use Rattle.taylor_job.specs.Calls.{swept_fields, phi_combination}
use Rattle.taylor_job.specs.Inner.{Allowed, operator_by, job_end}
use Rattle.taylor_job.specs.Calls.{TaylorAnswer}
use Rattle.phi_combination.proofs.Calls as taylor_calls
use Rattle.krylov_job.specs.KrylovCall.{dimension, option_checks, krylov_checks_by, krylov_checks, after_run, phi_combination_krylov}
use Rattle.phi_solver.specs.Combine.{combine}
use Rattle.phi_solver.specs.Combine.{PhiAnswer}
use Rattle.phi_solver.specs.declared.PhiReport.TheVariants as phi
use Rattle.krylov_job.specs.Inner.{scaling_by, scaling_of, run_by, admitted, Allowed as Runnable, run_of}
use Rattle.krylov_job.specs.KrylovCall.{KrylovAnswer}
use Rattle.krylov_job.specs.declared.KrylovPhiOptions.{KrylovPhiOptions}
use Rattle.krylov_job.specs.declared.RunJob.{RunJob}
use Rattle.krylov_job.proofs.Calls as krylov_calls
use Rattle.schedule_checks.specs.declared.Stage.{Stage}
use Rattle.schedule_checks.specs.Schedule.{stage_checks}
use Rattle.stage_calls.specs.Inner.{Whole, stage_end}
use Rattle.schedule_checks.proofs.Checks.{count_sound, lengths_sound, Fitting}
use Rattle.checks.specs.Reasons.{Sound, Refused}
use Rattle.checks.specs.declared.Reason.{Reason}
use Rattle.checks.specs.declared.Refusal.{Refusal}

-- w_0 and its further vectors
filled : (count n : ℕ) → 1 ≤ count → n + (count - 1) * n ≡ count * n
filled zero n h = absurd (omega arith)
filled (suc d) n h = let e : suc d - 1 ≡ d = omega arith in rw e (omega (arith, suc-mul d n))

-- ---- 12 to 16 of the single call pass too
module _ {n count output : ℕ} (v f : List Float) (h : Whole n count (length v) (length f) output) where
  pub behind : further n (v ++ f) ≡ f
  behind = further_behind n v f h.fielded

  vectors_long : length (v ++ f) ≡ count * n
  vectors_long = length-append v f ∙ omega (arith, h.fielded, h.rest, filled count n h.some)

  lengths_pass : Sound ≡ first (length_checks output n (length (v ++ f)) (count * n))
  lengths_pass = lengths_sound h.out vectors_long

  pub taylor_told : (ts : List Check) {r : Checked} → Sound ≡ first ts → r ≡ first (finite_checks (v ++ f)) → r ≡ first (vector_checks n ts count (v ++ f) output)
  unfolding vector_checks vector_checks_by
  taylor_told ts st e = sound_on (count_checks count) _ refl (count_sound h.some h.most) (sound_on ts _ refl st (sound_on (length_checks output n (length (v ++ f)) (count * n)) _ refl lengths_pass e))

  pub krylov_told : (tau : Float) (os : List Check) {r : Checked} → Sound ≡ first (time_checks tau) → r ≡ first (finite_checks (v ++ f) ++ os)
      → r ≡ first (vector_checks_by (time_checks tau) (length_checks output n (length (v ++ f)) (count * n) ++ []) count (v ++ f) ++ os)
  unfolding vector_checks_by count_checks time_checks length_checks finite_checks
  krylov_told tau os st e = sound_on (count_checks count) _ refl (count_sound h.some h.most) (sound_on (time_checks tau) _ refl st (sound_on (length_checks output n (length (v ++ f)) (count * n)) _ refl lengths_pass e))

module _
    {starts cols : List ℕ}
    {vals : List Float}
    (mass : List Float)
    {g : Shape}
    (ok : Passed (csr g.n starts cols vals) (given g.with_mass mass) g)
    (tau : Float)
    (count : ℕ)
    (v f out w₀ : List Float)
    (h : Whole g.n count (length v) (length f) (length out)) where
  abbrev w : List Float
  w = v ++ f

  abbrev d : ℕ
  d = count - 1

  few : d ≤ 3
  few = omega (arith, h.most)

  fits : d * g.n ≤ length f
  fits = omega (arith, h.rest)

  wide : g.n ≤ length w
  wide = omega (arith, length-append v f, h.fielded)

  -- ---- by Taylor
  module _ (cap : ℕ) where
    pub taylor_fits : {j : Job} → or_first (combination_refusals g tau cap d f (length w₀)) (combination_job g tau cap d f) ≡ Ok j → 0 + (g.n + d) ≤ length w₀
    taylor_fits told =
        let al = taylor_calls.allowed_combination mass ok tau cap {work = w₀} f few told refl in
        let x = rw (← (ok_first _ _ told).1) at (taylor_calls.field_fits al) in
        omega (arith, x)

    pub taylor_runs : {j : Job} {w₁ : List Float} → or_first (combination_refusals g tau cap d f (length w₀)) (combination_job g tau cap d f) ≡ Ok j → length w₁ ≡ length w₀
        → Allowed starts cols vals mass w₁ j × (Coupled j.b j.g.n j.d (length f) × (length out ≡ j.g.n))
    taylor_runs told l = taylor_calls.runs_combination mass ok tau cap f few fits h.out told l

    module _ (gs : List Check) (sound : Sound ≡ first gs) (timed : Sound ≡ first (plan_checks tau cap)) {r : Checked} (told : r ≡ first (finite_checks w)) where
      pub taylor_refused : {k : Reason} {x : Float} → r ≡ Refused k x
          → ends (Refused k x) out w₀ ≡ phi_combination (after_checks gs (csr g.n starts cols vals) (given g.with_mass mass) g) tau cap count w out w₀
      taylor_refused e = taylor_calls.refused_vectors mass ok gs sound tau cap count w out w₀ (taylor_told v f h (plan_checks tau cap) timed told) e

      module _ (passed : r ≡ Sound) {a : Result Job Refusal} (ea : a ≡ or_first (combination_refusals g tau cap d f (length w₀)) (combination_job g tau cap d f)) where
        job_is : a ≡ or_first (combination_refusals g tau cap d (further g.n w) (length w₀)) (combination_job g tau cap d (further g.n w))
        job_is = ea ∙ ap (λ (x : List Float). or_first (combination_refusals g tau cap d x (length w₀)) (combination_job g tau cap d x)) (sym (behind v f h))

        pub taylor_not_admitted : {k : Reason} {x : Float} → a ≡ Refused k x
            → ends (Refused k x) out w₀ ≡ phi_combination (after_checks gs (csr g.n starts cols vals) (given g.with_mass mass) g) tau cap count w out w₀
        taylor_not_admitted e = taylor_calls.refused_sweeps mass ok gs sound tau cap count w out w₀ (taylor_told v f h (plan_checks tau cap) timed told) passed job_is e

        pub taylor_is : {j : Job} {c : Call TaylorAnswer} {w₁ : List Float} → a ≡ Ok j
            → w₁ ≡ splice 0 (combination_start g.n v d j.inv) w₀
            → c ≡ job_end j (matrix_of j.g starts cols vals mass) (swept_fields (operator_by j (matrix_of j.g starts cols vals mass) f) j.tau (window 0 (j.g.n + j.d) w₁)) w₁
            → c ≡ phi_combination (after_checks gs (csr g.n starts cols vals) (given g.with_mass mass) g) tau cap count w out w₀
        taylor_is {j} {w₁ = w₁} e e₁ ec =
            let start = e₁ ∙ ap (λ (y : List Float). splice 0 y w₀) (sym (start_of g.n v f h.fielded d j.inv)) in
            let run = ec ∙ ap (λ (x : List Float). job_end j (matrix_of j.g starts cols vals mass) (swept_fields (operator_by j (matrix_of j.g starts cols vals mass) x) j.tau (window 0 (j.g.n + j.d) w₁)) w₁) (sym (behind v f h)) in
            taylor_calls.combined_is mass ok gs sound tau cap count w out w₀ (taylor_told v f h (plan_checks tau cap) timed told) passed job_is e
            (taylor_calls.ran mass ok gs sound tau cap d w (further g.n w) out w₀ few wide (sym job_is ∙ e) start run)

  -- ---- by Krylov
  module _ (o : KrylovPhiOptions) (timed : Sound ≡ first (time_checks tau)) {r : Checked} (told : r ≡ first (finite_checks w ++ option_checks o (dimension g.n d o.m))) where
    early : r ≡ first (vector_checks_by (time_checks tau) (length_checks (length out) g.n (length w) (count * g.n) ++ []) count w ++ option_checks o (dimension g.n d o.m))
    early = krylov_told v f h tau (option_checks o (dimension g.n d o.m)) timed told

    pub dimension_small : r ≡ Sound → dimension g.n d o.m ≤ 128
    dimension_small e = (krylov_calls.early_known g tau count w o (length out) [] early e).1

    abbrev job_result : Result RunJob Refusal
    job_result = admitted g tau count w (scaling_of g tau count w None) o (length_checks (length out) g.n (length w) (count * g.n) ++ []) (length w₀)

    pub krylov_refused : (gs : List Check) → Sound ≡ first gs → {k : Reason} {x : Float} → r ≡ Refused k x
        → ends (Refused k x) out w₀ ≡ phi_combination_krylov (after_checks gs (csr g.n starts cols vals) (given g.with_mass mass) g) tau count w o out w₀
    unfolding phi_combination_krylov krylov_checks krylov_checks_by length_checks
    krylov_refused gs sound e = refused_by Refused _ out w₀ _ e (sound_on gs _ refl sound (rw (quotients_rows (csr g.n starts cols vals) (given g.with_mass mass)) (refused_up _ _ e early ∙ ap first (append_assoc (vector_checks_by (time_checks tau) (length_checks (length out) g.n (length w) (count * g.n)) count w) (option_checks o (dimension g.n d o.m)) _))))

    module _ (passed : r ≡ Sound) {a : Result RunJob Refusal} {M : ℕ} (eM : M ≡ dimension g.n d o.m) (ea : a ≡ run_by g tau d f (scaling_by None (magnitude g.n f tau d)) o M (length w₀)) where
      pub job_of : a ≡ job_result
      job_of =
          krylov_calls.then_run g tau count w o (length out) [] early _ (length w₀) passed
          (ea ∙ (λ i. run_by g tau d (sym (behind v f h) i) (scaling_by None (magnitude g.n (sym (behind v f h) i) tau d)) o (eM i) (length w₀)))

      pub krylov_fits : {j : RunJob} → a ≡ Ok j → j.k.y + (g.n + d) ≤ length w₀
      krylov_fits e =
          let x = (krylov_calls.start_fits mass ok [] ends_sound tau count w o out w₀ job_of e).1 in
          omega (arith, x, ap (λ (y : RunJob). y.d) (krylov_calls.known (sym job_of ∙ e)).is)

      pub krylov_runs : {j : RunJob} {w₁ : ℕ} → a ≡ Ok j → w₁ ≡ length w₀ → Runnable starts cols vals mass j (length f) w₁ × (length out ≡ j.g.n)
      krylov_runs e l = rw (behind v f h) at (krylov_calls.runs_job mass ok [] ends_sound tau count w o out w₀ job_of e l)

      module _ (gs : List Check) (sound : Sound ≡ first gs) where
        pub krylov_not_admitted : {k : Reason} {x : Float} → a ≡ Refused k x
            → ends (Refused k x) out w₀ ≡ phi_combination_krylov (after_checks gs (csr g.n starts cols vals) (given g.with_mass mass) g) tau count w o out w₀
        krylov_not_admitted e = krylov_calls.refused_run mass ok gs sound tau count w o out w₀ job_of e

        pub krylov_is : {j : RunJob} {c : Call KrylovAnswer} {w₁ : List Float} → a ≡ Ok j
            → w₁ ≡ splice j.k.y (combination_start g.n v d j.eta.inv) w₀
            → c ≡ after_run j.g.n j.need w₁ (run_of j (matrix_of j.g starts cols vals mass) f (window j.k.y (j.g.n + j.d) w₁))
            → c ≡ phi_combination_krylov (after_checks gs (csr g.n starts cols vals) (given g.with_mass mass) g) tau count w o out w₀
        krylov_is {j} {w₁ = w₁} e e₁ ec =
            let d_is : d ≡ j.d = ap (λ (y : RunJob). y.d) (sym (krylov_calls.known (sym job_of ∙ e)).is) in
            let start = e₁ ∙ ap (λ (y : List Float). splice j.k.y y w₀) (sym (start_of g.n v f h.fielded d j.eta.inv) ∙ ap (λ (k : ℕ). combination_start g.n w k j.eta.inv) d_is) in
            let run = ec ∙ ap (λ (x : List Float). after_run j.g.n j.need w₁ (run_of j (matrix_of j.g starts cols vals mass) x (window j.k.y (j.g.n + j.d) w₁))) (sym (behind v f h)) in
            krylov_calls.combined_is mass ok gs sound tau count w o out w₀ job_of e start run

-- ---- its checks before it
module _ (n : ℕ) (s : Stage) {output field used : ℕ} (xs : List Float) (h : Fitting n s output field used (length xs)) where
  pub stage_whole : Whole n s.count field (length (take (used + (s.count - 1) * n - used) (drop used xs))) output
  stage_whole =
      record {
        some = h.some;
        most = h.most;
        fielded = h.fielded;
        rest = ap length (part_window used ((s.count - 1) * n) xs) ∙ length_window used ((s.count - 1) * n) xs h.within;
        out = h.out;
      }

module _
    (g : Generator)
    (n : ℕ)
    (rows : g.matrix.n ≡ n)
    (s : Stage)
    (last : Bool)
    (used : ℕ)
    (xs v out w₀ : List Float)
    {r : Checked}
    (told : r ≡ first (stage_checks n s last (length out) (length v) used (length xs))) where
  told_by : r ≡ first (stage_checks g.matrix.n s last (length out) (length v) used (length xs))
  told_by = told ∙ ap (λ (k : ℕ). first (stage_checks k s last (length out) (length v) used (length xs))) (sym rows)

  pub stage_refused : {k : Reason} {x : Float} → r ≡ Refused k x → ends (Refused k x) out w₀ ≡ stage_end g s last used xs v out w₀
  unfolding stage_end
  stage_refused e = refused_by Refused _ out w₀ _ e told_by

  pub stage_is : {c : Call PhiAnswer} → r ≡ Sound
      → c ≡ combine s.solver g s.tau s.count (v ++ take (used + (s.count - 1) * n - used) (drop used xs)) out w₀
      → c ≡ stage_end g s last used xs v out w₀
  unfolding stage_end
  stage_is e ec =
      let f = part_window used ((s.count - 1) * n) xs ∙ ap (λ (k : ℕ). window used ((s.count - 1) * k) xs) (sym rows) in
      runs Refused _ out w₀ _ e told_by (ec ∙ ap (λ (y : List Float). combine s.solver g s.tau s.count (v ++ y) out w₀) f)
