-- One record: its checks, its run with w_1 in the output, and what it answers. Assumes nothing.
use mathlib.Core.Path.{◌≡◌, refl, sym, ap, ◌∙◌}
use mathlib.Core.Logic.{inl, inr}
use mathlib.Core.List.{List, [], ◌++◌}
use Prim.Native.Nat.{ℕ, ◌+◌, ◌-◌, ◌*◌, ◌≤◌}
use native.Mathlib.Omega.{arith}
use native.Mathlib.Nat.{one-mul}
use lib.Dec.{ltb}
use lib.ListN.{length, length-append}
use lib.Ieee.{Float}
use borrow.Author.Tests.{lt-ltb, le-ltb}
use Rattle.lists.specs.Window.{window, splice}
use Rattle.lists.proofs.Bounds.{lt_or_le}
use Rattle.lists.proofs.Window.{length_splice, window_splice_same}
use Rattle.vectors.specs.Vectors.{scale}
use Rattle.vectors.proofs.Laws.{length_scale}
use Rattle.checks.specs.First.{Check, first, or_first}
use Rattle.checks.specs.First.{Checked}
use Rattle.checks.proofs.First.{and_then, first_append, sound_on, refused_up, err_first, ok_first, passes, ends_sound, not_eq}
use Rattle.general_operator.specs.Csr.{Csr, csr, row_sum_norm}
use Rattle.generator_action.specs.Mass.{Mass, given, quotients}
use Rattle.generator_action.specs.Generator.{Generator}
use Rattle.generator_action.specs.Known.{Passed}
use Rattle.generator_action.specs.declared.Shape.{Shape}
use Rattle.expmv.specs.Select.{M_MAX}
use Rattle.phi_action_helpers.specs.declared.SweepPlan.{SweepPlan}
use Rattle.phi_shift.specs.Plan.{sweep_plan}
use Rattle.combination.specs.Combination.{further, eta_of, combination_operator, combination_start}
use Rattle.combination.specs.Checks.{count_checks, plan_checks, length_checks, finite_checks, magnitude_checks, schedule_checks, memory_checks, vector_checks_by, vector_checks, sweep_checks, taylor_need}
use Rattle.combination.specs.Call.{Call, ends, cleared}
use Rattle.taylor_schedule.specs.Inner.{Coupled, matrix_of, after_checks}
use Rattle.taylor_schedule.specs.declared.Job.{Job}
use Rattle.taylor_schedule.proofs.Admitted.{coupled_in, sweeps_known, length_start}
use Rattle.combination.proofs.Ends.{refused_by, runs}
use Rattle.combination.proofs.Further.{further_behind, start_of}
use Rattle.combination.proofs.Cleared.{clear_over, cleared_less}
use Rattle.taylor_schedule.proofs.Stored.{quotients_rows}
use Rattle.taylor_job.specs.Calls.{Fields, after_plan, report, swept_fields, combination_checks, combination_run, phi_combination}
use Rattle.taylor_job.specs.Inner.{Allowed, plan_by, operator_by, job_end}
use Rattle.taylor_job.specs.Calls.{TaylorAnswer}
use Rattle.taylor_job.proofs.Jobs.{planned}
use Rattle.ambient_checks.specs.Inner.{early_checks, record_job, record_refusals}
use Rattle.ambient_record.specs.Record.{wider, record_call}
use Rattle.ambient_record.specs.Inner.{record_end}
use Rattle.checks.specs.Reasons.{Sound, Refused}
use Rattle.checks.specs.declared.Reason.TheVariants.{OutputLength, VectorLength}
use Rattle.checks.specs.declared.Reason.{Reason}
use Rattle.checks.specs.declared.Refusal.{Refusal}
use Rattle.std.specs.Prelude.{Result, Ok}

pub spliced_long : (p : ℕ) (xs w₀ : List Float) {w₁ : List Float} → w₁ ≡ splice p xs w₀ → length w₁ ≡ length w₀
spliced_long p xs w₀ e = ap length e ∙ length_splice p xs w₀

-- ---- n doubles more
-- a job that clears n doubles more than its combination needed
pub ended_wider : (j : Job) (q : Csr) (run : SweepPlan → Fields) (w₀ w₂ : List Float) {x : TaylorAnswer} {out₁ w₃ : List Float}
    → ends x out₁ (cleared j.need w₂) ≡ job_end j q run w₀
    → w₃ ≡ cleared (j.need + j.g.n) w₂
    → ends x out₁ w₃ ≡ record_end j q run w₀
ended_wider j q run w₀ w₂ {x} {out₁} {w₃} e e₃ =
    let more = j.need + j.g.n in
    let m =
    e₃
    ∙ sym (cleared_less j.need more w₂ (omega arith))
    ∙ ap (λ (c : Call TaylorAnswer). cleared more c.memory) e
    ∙ cleared_less j.need more w₀ (omega arith) in
    λ i. ends (e i).answer (e i).output (m i)

-- 26 with n doubles more, and 26 of n doubles less
shorter : (m a n : ℕ) → 1 ≤ a → ltb m (a + n) ≡ ltb (m - n) a
shorter m a n h = elim (lt_or_le m (a + n)) [
  | inl l ↦ lt-ltb m (a + n) l ∙ sym (lt-ltb (m - n) a (omega (arith, h, l)))
  | inr l ↦ le-ltb m (a + n) l ∙ sym (le-ltb (m - n) a (omega (arith, l)))
]

room_wider : (n stored memory : ℕ) → memory_checks memory (taylor_need n 1 (stored + n)) ≡ memory_checks (memory - n) (taylor_need n 1 stored)
unfolding memory_checks taylor_need
room_wider n stored memory =
    let e : 3 * n + 2 * 1 + (stored + n) ≡ 3 * n + 2 * 1 + stored + n = omega arith in
    rw (e, shorter memory (3 * n + 2 * 1 + stored) n (omega arith)) refl

-- the checks of a record are its combination's, of n doubles less
pub checks_wider : (g : Generator) (tau : Float) (cap : ℕ) (w : List Float) (output memory : ℕ) → combination_checks (wider g) tau cap 2 w output memory ≡ combination_checks g tau cap 2 w output (memory - g.matrix.n)
unfolding combination_checks sweep_checks
checks_wider g tau cap w output memory =
    let n = g.matrix.n in
    ap
    (λ (ms : List Check). g.checks ++ (vector_checks n (plan_checks tau cap) 2 w output ++ (magnitude_checks n (further n w) tau 1 (eta_of n (further n w) tau 1).eta ++ (schedule_checks cap (row_sum_norm g.matrix) tau ++ ms))))
    (room_wider n g.stored memory)

-- ---- checks that pass may stand between others or not
between : (ts ls fs : List Check) → Sound ≡ first ls → first (ts ++ fs) ≡ first (ts ++ (ls ++ fs))
between ts ls fs h = first_append ts fs ∙ ap (and_then (first ts)) (sound_on ls fs refl h refl) ∙ sym (first_append ts (ls ++ fs))

pub two_vectors : Sound ≡ first (count_checks 2)
unfolding count_checks first
two_vectors = refl

-- ---- one record: w_0 is the field v, w_1 the load times the level
module _
    {starts cols : List ℕ}
    {vals : List Float}
    (mass : List Float)
    {g : Shape}
    (ok : Passed (csr g.n starts cols vals) (given g.with_mass mass) g)
    (tau level : Float)
    (v load out w₀ : List Float)
    (lv : length v ≡ g.n)
    (lf : length load ≡ g.n)
    (lo : length out ≡ g.n) where
  abbrev f : List Float
  f = scale level load

  abbrev w : List Float
  w = v ++ f

  abbrev a : Csr
  a = csr g.n starts cols vals

  abbrev m : Mass
  m = given g.with_mass mass

  rows : (quotients a m).n ≡ g.n
  rows = quotients_rows a m

  long : length f ≡ g.n
  long = length_scale level load ∙ lf

  behind : further g.n w ≡ f
  behind = further_behind g.n v f lv

  lengths_pass : Sound ≡ first (length_checks (length out) g.n (length w) (2 * g.n))
  unfolding length_checks
  lengths_pass = passes OutputLength _ _ (not_eq lo) (passes VectorLength _ [] (not_eq (length-append v f ∙ omega (arith, lv, long))) ends_sound)

  early : {r : Checked} → r ≡ first (early_checks tau level v load) → r ≡ first (vector_checks g.n (plan_checks tau M_MAX) 2 w (length out))
  unfolding vector_checks vector_checks_by
  early e =
      sound_on (count_checks 2) _ refl two_vectors
      (e ∙ between (plan_checks tau M_MAX) (length_checks (length out) g.n (length w) (2 * g.n)) (finite_checks w) lengths_pass)

  module _ (gs : List Check) (sound : Sound ≡ first gs) {r : Checked} (fr : r ≡ first (early_checks tau level v load)) where
    pub record_refused : {k : Reason} {x : Float} → r ≡ Refused k x → ends (Refused k x) out w₀ ≡ record_call (after_checks gs a m g) tau level v load out w₀
    unfolding record_call phi_combination combination_checks
    record_refused e =
        refused_by Refused _ out w₀ _ e (sound_on gs _ refl sound (rw rows (refused_up (vector_checks g.n (plan_checks tau M_MAX) 2 w (length out)) _ e (early fr))))

  module _ {j : Job} (told : or_first (record_refusals g tau level load (length w₀)) (record_job g tau level load) ≡ Ok j) where
    ej : j ≡ record_job g tau level load
    ej = sym (ok_first _ _ told).1

    room : taylor_need g.n 1 g.stored ≤ length w₀ - g.n
    room = (sweeps_known g.n tau M_MAX 1 f g.norm (length w₀ - g.n) _ (sym (ok_first _ _ told).0)).room

    allowed : {w₁ : List Float} → length w₁ ≡ length w₀ → Allowed starts cols vals mass w₁ j
    unfolding taylor_need
    allowed l =
        let p = sweeps_known g.n tau M_MAX 1 f g.norm (length w₀ - g.n) _ (sym (ok_first _ _ told).0) in
        rw ej (record { passed = ok; short = omega arith; needed = refl; enough = omega (arith, l, room); row = p.row })

    pub record_fits : g.n + 1 ≤ length w₀
    unfolding taylor_need
    record_fits = omega (arith, room)

    pub record_runs : {output : ℕ} {w₁ : List Float} → length w₁ ≡ length w₀ → output ≡ g.n
        → Allowed starts cols vals mass w₁ j × (Coupled j.b j.g.n j.d output × (output ≡ j.g.n) × (j.need + j.g.n ≤ length w₁))
    unfolding taylor_need
    record_runs l l₁ = (allowed l, rw ej (coupled_in g.n 1 _ _ (omega (arith, one-mul g.n, l₁)) (omega arith), l₁, omega (arith, l, room)))

  module _ (gs : List Check) (sound : Sound ≡ first gs) {r : Checked} (fr : r ≡ first (early_checks tau level v load)) (er : r ≡ Sound) {a₁ : Result Job Refusal}
      (ea : a₁ ≡ or_first (record_refusals g tau level load (length w₀)) (record_job g tau level load)) where
    all_told : first (record_refusals g tau level load (length w₀)) ≡ first (combination_checks (wider (after_checks gs a m g)) tau M_MAX 2 w (length out) (length w₀))
    unfolding combination_checks
    all_told =
        sound_on gs _ refl sound
        (rw (← ok.norm, rows, behind) (sound_on (vector_checks g.n (plan_checks tau M_MAX) 2 w (length out)) _ er (early fr) refl))
        ∙ ap first (sym (checks_wider (after_checks gs a m g) tau M_MAX w (length out) (length w₀)))

    pub record_not_admitted : {k : Reason} {x : Float} → a₁ ≡ Refused k x → ends (Refused k x) out w₀ ≡ record_call (after_checks gs a m g) tau level v load out w₀
    unfolding record_call phi_combination
    record_not_admitted e = refused_by Refused _ out w₀ _ (err_first _ _ (sym ea ∙ e)) all_told

    module _ {j : Job} (ec : a₁ ≡ Ok j) where
      passes_all : or_first (record_refusals g tau level load (length w₀)) (record_job g tau level load) ≡ Ok j
      passes_all = sym ea ∙ ec

      job_is : j ≡ record_job g tau level load
      job_is = ej passes_all

      -- the end with n doubles more
      planned_wider : (run : SweepPlan → Fields)
          → record_end j (quotients a m) run w₀ ≡ after_plan (taylor_need g.n 1 (g.stored + g.n)) tau g.norm out w₀ (sweep_plan M_MAX tau (quotients a m) g.norm) run
      unfolding after_plan taylor_need
      planned_wider run =
          let e : 3 * g.n + 2 * 1 + g.stored + g.n ≡ 3 * g.n + 2 * 1 + (g.stored + g.n) = omega arith in
          rw (job_is, rw job_is at (planned (allowed passes_all {w₁ = w₀} refl) (quotients a m)), e) refl

      within : {k : ℕ} → k ≡ g.n + 1 → 0 + k ≤ taylor_need g.n 1 g.stored + g.n
      unfolding taylor_need
      within e = omega (arith, e)

      pub record_is : {c : Call TaylorAnswer} {w₁ out₁ : List Float}
          → w₁ ≡ splice 0 (combination_start g.n v 1 j.inv) w₀
          → out₁ ≡ f
          → c ≡ record_end j (matrix_of j.g starts cols vals mass) (swept_fields (operator_by j (matrix_of j.g starts cols vals mass) out₁) j.tau (window 0 (j.g.n + j.d) w₁)) w₁
          → c ≡ record_call (after_checks gs a m g) tau level v load out w₀
      unfolding record_call phi_combination combination_run combination_operator
      record_is {c} {w₁} {out₁} e₁ eo h =
          let J = record_job g tau level load in
          let q = quotients a m in
          let y = combination_start g.n v 1 J.inv in
          let more = J.need + g.n in
          let p = plan_by J q in
          let run = swept_fields (operator_by J q f) tau in
          let start : w₁ ≡ splice 0 y w₀ = rw job_is at e₁ in
          let ran : c ≡ record_end J q (run (window 0 (g.n + 1) w₁)) w₁ = rw (job_is, eo) at h in
          let ly = length_start g.n v 1 J.inv (omega (arith, lv)) in
          let field : window 0 (g.n + 1) w₁ ≡ y = ap (window 0 (g.n + 1)) start ∙ window_splice_same 0 (g.n + 1) y w₀ ly (omega (arith, record_fits passes_all)) in
          let clear = clear_over more 0 y w₀ start (within ly) in
          runs Refused _ out w₀ _ (ok_first _ _ passes_all).0 all_told
          (ran
          ∙ (λ i. ends (report p (run (field i) p).applied) (run (field i) p).fields (clear i))
          ∙ (rw job_is at (planned_wider (run y)))
          ∙ rw (← ok.norm, rows, behind, start_of g.n v f lv 1 J.inv) refl)
