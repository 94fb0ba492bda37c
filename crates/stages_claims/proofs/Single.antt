-- A schedule of one stage is its single call, for results and refusals. Assumes nothing.
use mathlib.Core.Path.{◌≡◌, refl, sym, ap, ◌∙◌}
use mathlib.Core.Bool.{Bool, true, false, not}
use mathlib.Core.List.{List, [], ◌∷◌, ◌++◌}
use Prim.Native.Nat.{ℕ, zero, ◌+◌, ◌-◌, ◌*◌, ◌≤◌}
use native.Mathlib.Nat.{zero-mul, zero-add}
use native.Mathlib.Omega.{arith}
use lib.Dec.{eqb}
use lib.ListN.{length, get_or, length-append}
use lib.Ieee.{Float, nan}
use Rattle.lists.specs.Walk.{on, walk}
use Rattle.lists.specs.Window.{window}
use Rattle.lists.proofs.Window.{length_window, window_whole}
use Rattle.doubles.specs.F64.{nat}
use Rattle.checks.specs.First.{Check, refuse, first}
use Rattle.checks.specs.First.{Checked}
use Rattle.checks.proofs.First.{refused_up, sound_on, passes, stops, ends_sound, not_eq}
use Rattle.generator_action.specs.Generator.{Generator}
use Rattle.combination.specs.Call.{Call, ends}
use Rattle.combination.specs.Checks.{count_checks, time_checks, degree_checks, plan_checks, length_checks, finite_checks, vector_checks, vector_checks_by}
use Rattle.combination.proofs.Ends.{refused_by}
use Rattle.taylor_job.specs.Calls.{combination_checks, phi_combination}
use Rattle.krylov_job.specs.KrylovCall.{krylov_checks, krylov_checks_by, phi_combination_krylov}
use Rattle.phi_solver.specs.Combine.{of_taylor, of_krylov, answering, combine}
use Rattle.phi_solver.specs.declared.PhiSolver.{PhiSolver}
use Rattle.phi_solver.specs.declared.PhiSolver.TheVariants as solver
use Rattle.phi_solver.specs.Combine.{PhiAnswer}
use Rattle.phi_solver.specs.declared.PhiReport.TheVariants as phi
use Rattle.schedule_checks.specs.declared.Stage.{Stage}
use Rattle.schedule_checks.specs.Schedule.{StagedAnswer, Schedule, stage, stages_of, schedule_checks, further_need, wrong_slice, time_checks_of, stage_checks, Progress, counted}
use Rattle.schedule_checks.proofs.Checks.{count_known}
use Rattle.stage_calls.specs.Stages.{stage_step, concluded, begun, staged}
use Rattle.stages.proofs.Turns.{staged_refused, staged_is}
use Rattle.stages_claims.specs.Ran.{solver_at, count_at, vectors_before, Gave}
use Rattle.stages_claims.specs.Single.{stage_told, one_stage}
use Rattle.stages_claims.proofs.Checks.{slice_sound}
use Rattle.stages_claims.proofs.Reached.{checks_at, made_at, Outcome, early, late, result, outcome, call_is}
use Rattle.checks.specs.Reasons.{Sound, Refused}
use Rattle.std.specs.Prelude.{Ok, Err}
use Rattle.checks.specs.declared.Reason.TheVariants.{OutputLength, VectorLength}
use Rattle.checks.specs.declared.Reason.{Reason}

-- ---- a refusal of the generator, and one by a list in front of 17, is the single call's
module _ (g : Generator) (tau : Float) (count : ℕ) (w output memory : List Float) where
  abbrev n : ℕ
  n = g.matrix.n

  -- of 12 to 16
  abbrev list : PhiSolver → List Check
  list s = count_checks count ++ (time_checks_of s tau ++ length_checks (length output) n (length w) (count * n))

  pub call_refused : (s : PhiSolver) {k : Reason} {x : Float} → Refused k x ≡ first g.checks → combine s g tau count w output memory ≡ ends (Refused k x) output memory
  unfolding combine answering of_taylor of_krylov phi_combination combination_checks phi_combination_krylov krylov_checks krylov_checks_by
  call_refused (solver.Taylor cap) e = ap (answering of_taylor) (sym (refused_by Refused _ output memory _ refl (refused_up g.checks _ refl e)))
  call_refused (solver.Krylov o) e = ap (answering of_krylov) (sym (refused_by Refused _ output memory _ refl (refused_up g.checks _ refl e)))

  pub list_refused : Sound ≡ first g.checks → (s : PhiSolver) {k : Reason} {x : Float} → Refused k x ≡ first (list s) → combine s g tau count w output memory ≡ ends (Refused k x) output memory
  unfolding combine answering of_taylor of_krylov phi_combination combination_checks phi_combination_krylov krylov_checks krylov_checks_by vector_checks vector_checks_by count_checks plan_checks time_checks degree_checks length_checks finite_checks
  list_refused sound (solver.Taylor cap) e = ap (answering of_taylor) (sym (refused_by Refused _ output memory _ refl (sound_on g.checks _ refl sound (refused_up (list (solver.Taylor cap)) _ refl e))))
  list_refused sound (solver.Krylov o) e = ap (answering of_krylov) (sym (refused_by Refused _ output memory _ refl (sound_on g.checks _ refl sound (refused_up (list (solver.Krylov o)) _ refl e))))

-- ---- a stage's list refuses as the single call's, where w_0 has n values and the slice is the vectors'
module _ (n : ℕ) (s : Stage) (last : Bool) (output long : ℕ) (w : ℕ) where
  not_sound : {k : Reason} {x : Float} → Sound ≡ Refused k x → zero ≡ 1
  not_sound e = cc

  same_list : w ≡ long + (s.count - 1) * n → long ≡ n → {k : Reason} {x : Float} → first (stage_checks n s last output long 0 ((s.count - 1) * n)) ≡ Refused k x
      → Refused k x ≡ first (count_checks s.count ++ (time_checks_of s.solver s.tau ++ length_checks output n w (s.count * n)))
  unfolding stage_checks length_checks
  same_list ew el {k} {x} e = by_count (first (count_checks s.count)) refl
    where
      slice : List Check
      slice = refuse VectorLength (wrong_slice (further_need n s) last 0 ((s.count - 1) * n)) (nat ((s.count - 1) * n)) ∷ []

      slice_passes : Sound ≡ first slice
      slice_passes = passes VectorLength _ [] (slice_sound ((s.count - 1) * n) last 0 ((s.count - 1) * n) (omega arith) (λ _. zero-add ((s.count - 1) * n))) ends_sound

      by_output : 1 ≤ s.count → (b : Bool) → eqb output n ≡ b → first (length_checks output n long n ++ slice) ≡ Refused k x → Refused k x ≡ first (length_checks output n w (s.count * n))
      by_output l true d f = absurd (omega (arith, not_sound (passed ∙ f)))
        where
          passed : Sound ≡ first (length_checks output n long n ++ slice)
          passed = passes OutputLength _ _ (ap not d) (passes VectorLength _ _ (not_eq el) slice_passes)
      by_output l false d f =
          let g : Refused OutputLength (nat output) ≡ Refused k x = (stops {x = nat output} (refuse VectorLength (not (eqb long n)) (nat long) ∷ slice) (ap not d) refl) ∙ f in
          sym g ∙ stops (refuse VectorLength (not (eqb w (s.count * n))) (nat w) ∷ []) (ap not d) refl

      by_time : 1 ≤ s.count → (c : Checked) → first (time_checks_of s.solver s.tau) ≡ c → first (time_checks_of s.solver s.tau ++ (length_checks output n long n ++ slice)) ≡ Refused k x
          → Refused k x ≡ first (time_checks_of s.solver s.tau ++ length_checks output n w (s.count * n))
      by_time l (Err r) d f = sym f ∙ sym (refused_up (time_checks_of s.solver s.tau) _ refl (sym d)) ∙ refused_up (time_checks_of s.solver s.tau) _ refl (sym d)
      by_time l (Ok _) d f =
          sound_on (time_checks_of s.solver s.tau) _ refl (sym d)
          (by_output l (eqb output n) refl (sound_on (time_checks_of s.solver s.tau) (length_checks output n long n ++ slice) refl (sym d) refl ∙ f))

      by_count : (c : Checked) → first (count_checks s.count) ≡ c → Refused k x ≡ first (count_checks s.count ++ (time_checks_of s.solver s.tau ++ length_checks output n w (s.count * n)))
      by_count (Err r) d = sym e ∙ sym (refused_up (count_checks s.count) _ refl (sym d)) ∙ refused_up (count_checks s.count) _ refl (sym d)
      by_count (Ok _) d =
          sound_on (count_checks s.count) _ refl (sym d)
          (by_time (count_known s.count refl (sym d)).0 (first (time_checks_of s.solver s.tau)) refl (sound_on (count_checks s.count) (time_checks_of s.solver s.tau ++ (length_checks output n long n ++ slice)) refl (sym d) refl ∙ e))

-- the counts of one call
counted_one : (a : PhiAnswer) → Gave a → ◌≡◌ {A = StagedAnswer} (Ok (counted (record { applications = 0; substeps = 0; rejected = 0 }) a)) (one_stage 1 a)
unfolding counted one_stage
counted_one (Err r) h = absurd h
counted_one (Ok (phi.Taylor t)) h = λ i. Ok (record { applications = zero-add t.applications i; substeps = 0; rejected = 0 })
counted_one (Ok (phi.Krylov t)) h = λ i. Ok (record { applications = zero-add t.matvecs i; substeps = zero-add t.substeps i; rejected = zero-add t.rejected i })

-- ---- the whole
module _ (g : Generator) (s : Schedule) (start further output memory : List Float) where
  abbrev rows : ℕ
  rows = g.matrix.n

  abbrev single : Call PhiAnswer
  single = combine (solver_at s 0) g (get_or s.taus 0 nan) (count_at s 0) (start ++ further) output memory

  module _ (one : stages_of s ≡ 1) (scheduled : Sound ≡ first (schedule_checks s)) (field : length start ≡ rows) (rest : length further ≡ (count_at s 0 - 1) * rows) where
    abbrev begins : Progress
    begins = begun start output memory

    made_is : made_at g s start further output memory 0 begins ≡ single
    unfolding vectors_before
    made_is =
        call_is g s start further output memory 0 begins (sym (zero-mul rows))
        ∙ ap (λ (y : List Float). combine (solver_at s 0) g (get_or s.taus 0 nan) (count_at s 0) (start ++ y) output memory)
        (ap (λ (k : ℕ). window k ((count_at s 0 - 1) * rows) further) (zero-mul rows) ∙ window_whole ((count_at s 0 - 1) * rows) further rest)

    pub one_call : staged g s start further output memory ≡ answering (one_stage (stage_told (first g.checks))) single
    unfolding walk concluded answering one_stage
    one_call = by_checks (first g.checks) refl
      where
        told_by : Sound ≡ first g.checks → {k : Reason} {x : Float} → first (checks_at g s start further output memory 0 begins) ≡ Refused k x → made_at g s start further output memory 0 begins ≡ ends (Refused k x) output memory
        told_by sound e =
            let S = stage s 0 in
            let c : S.count ≡ count_at s 0 = unfold stage in refl in
            let need : length further ≡ (S.count - 1) * rows = rest ∙ ap (λ (k : ℕ). (k - 1) * rows) (sym c) in
            let long = length-append start (window 0 (further_need rows S) further) ∙ ap (λ (k : ℕ). length start + k) (length_window 0 (further_need rows S) further (omega (arith, need))) in
            let own = ap (λ (k : ℕ). first (stage_checks rows S (eqb (0 + 1) (stages_of s)) (length output) (length start) 0 k)) (sym need) ∙ e in
            list_refused g S.tau S.count (start ++ window 0 (further_need rows S) further) output memory sound S.solver
            (same_list rows S (eqb (0 + 1) (stages_of s)) (length output) (length start) (length (start ++ window 0 (further_need rows S) further)) long field own)

        by_outcome : Sound ≡ first g.checks → Outcome g s start further output memory 0 begins → concluded (stage_step g s further 0 begins) ≡ answering (one_stage 1) single
        by_outcome sound (early k x a b) = ap concluded b ∙ ap (answering (one_stage 1)) (sym (told_by sound a) ∙ made_is)
        by_outcome sound (late k x a b c) =
            ap concluded c
            ∙ ap (λ (y : PhiAnswer). ends (one_stage 1 y) (made_at g s start further output memory 0 begins).output (made_at g s start further output memory 0 begins).memory) (sym b)
            ∙ ap (answering (one_stage 1)) made_is
        by_outcome sound (result a b c) =
            ap concluded c
            ∙ ap (λ (y : StagedAnswer). ends y (made_at g s start further output memory 0 begins).output (made_at g s start further output memory 0 begins).memory) (counted_one (made_at g s start further output memory 0 begins).answer b)
            ∙ ap (answering (one_stage 1)) made_is

        by_checks : (c : Checked) → first g.checks ≡ c → staged g s start further output memory ≡ answering (one_stage (stage_told c)) single
        by_checks (Err r) e =
            sym (staged_refused g s start further output memory (refused_up g.checks _ refl (sym e)) refl)
            ∙ ap (answering (one_stage 0)) (sym (call_refused g (get_or s.taus 0 nan) (count_at s 0) (start ++ further) output memory (solver_at s 0) (sym e)))
        by_checks (Ok _) e =
            sym (staged_is g s start further output memory (sound_on g.checks _ refl (sym e) scheduled) refl refl)
            ∙ ap (λ (k : ℕ). concluded (walk (stage_step g s further) k 0 (on begins))) one
            ∙ by_outcome (sym e) (outcome g s start further output memory 0 begins)
