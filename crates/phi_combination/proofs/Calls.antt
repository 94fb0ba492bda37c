-- What the checks of a call leave to its run, and what its answer is. Assumes nothing.
use mathlib.Core.Path.{◌≡◌, refl, sym, ap, ◌∙◌}
use mathlib.Core.List.{List}
use Prim.Native.Nat.{ℕ, suc, ◌+◌, ◌-◌, ◌*◌, ◌≤◌}
use native.Mathlib.Omega.{arith}
use lib.ListN.{length}
use lib.Ieee.{Float}
use Rattle.lists.specs.Window.{window, splice}
use Rattle.std.specs.Prelude.{Result, Ok}
use Rattle.checks.specs.First.{Check, first, or_first}
use Rattle.checks.specs.declared.Refusal.{Refusal}
use Rattle.checks.proofs.First.{sound_on, refused_up, err_first, ok_first}
use Rattle.checks.specs.First.{Checked}
use Rattle.general_operator.specs.Csr.{Csr, csr}
use Rattle.generator_action.specs.Mass.{Mass, given, quotients}
use Rattle.generator_action.specs.Generator.{Generator}
use Rattle.generator_action.specs.Known.{Passed}
use Rattle.generator_action.specs.declared.Shape.{Shape}
use Rattle.combination.specs.Combination.{further, combination_operator, combination_start, action_operator, init_aug_vector}
use Rattle.combination.specs.Checks.{index_checks, plan_checks, vector_checks, job_checks, taylor_need}
use Rattle.combination.specs.Call.{Call, ends}
use Rattle.taylor_schedule.specs.Inner.{Coupled, matrix_of, after_checks, combination_job, combination_refusals, action_job, action_refusals}
use Rattle.taylor_schedule.specs.declared.Job.{Job}
use Rattle.combination.proofs.Ends.{refused_by, runs}
use Rattle.taylor_schedule.proofs.Stored.{quotients_rows}
use Rattle.taylor_schedule.proofs.Admitted.{coupled_in, coupled_one, sweeps_known, Action, action_known, length_start, length_init}
use Rattle.taylor_job.specs.Inner.{Allowed, operator_by, job_end}
use Rattle.taylor_job.specs.Calls.{swept_fields, combination_checks, combination_run, phi_combination, action_checks, phi_action, batched, phi_action_batched}
use Rattle.taylor_job.specs.Calls.{TaylorAnswer}
use Rattle.taylor_job.proofs.Jobs.{started_is, ends_planned}
use Rattle.checks.specs.Reasons.{Sound, Refused}
use Rattle.checks.specs.declared.Reason.{Reason}

-- ---- what a run takes from them
pub known_action : (g : Shape) (tau : Float) (cap k : ℕ) (v : List Float) (output wanted memory : ℕ) {j : Job} → or_first (action_refusals g tau cap k v output wanted memory) (action_job g tau cap v) ≡ Ok j
    → Action k tau cap g.norm output wanted (length v) g.n memory (taylor_need g.n 3 g.stored)
known_action g tau cap k v output wanted memory h = action_known k tau cap g.norm output wanted v g.n memory _ (sym (ok_first _ _ h).0)

module _ {starts cols : List ℕ} {vals : List Float} (mass : List Float) {g : Shape} (ok : Passed (csr g.n starts cols vals) (given g.with_mass mass) g) (tau : Float) (cap : ℕ) {j : Job} {work : List Float} where
  pub allowed_combination : {d memory : ℕ} (f : List Float) → d ≤ 3 → or_first (combination_refusals g tau cap d f memory) (combination_job g tau cap d f) ≡ Ok j → length work ≡ memory → Allowed starts cols vals mass work j
  allowed_combination {d} {memory} f few h l =
      let k = ok_first _ _ h in
      let p = sweeps_known g.n tau cap d f g.norm memory _ (sym k.0) in
      rw (← k.1) (record { passed = ok; short = few; needed = refl; enough = rw l p.room; row = p.row })

  pub allowed_action : {k output wanted memory : ℕ} (v : List Float) → Action k tau cap g.norm output wanted (length v) g.n memory (taylor_need g.n 3 g.stored) → j ≡ action_job g tau cap v
      → length work ≡ memory
      → Allowed starts cols vals mass work j
  allowed_action v h ej l = rw ej (record { passed = ok; short = omega arith; needed = refl; enough = rw l h.planned.room; row = h.planned.row })

  -- the columns and the output of a combination, and of an action
  pub runs_combination : {d output memory : ℕ} (f : List Float) → d ≤ 3 → d * g.n ≤ length f → output ≡ g.n
      → or_first (combination_refusals g tau cap d f memory) (combination_job g tau cap d f) ≡ Ok j
      → length work ≡ memory
      → Allowed starts cols vals mass work j × (Coupled j.b j.g.n j.d (length f) × (output ≡ j.g.n))
  runs_combination {d} f few fits out h l =
      let j_is = (ok_first _ _ h).1 in
      (allowed_combination f few h l, (rw (← j_is) (coupled_in g.n d (length f) _ fits few), rw (← j_is) out))

  pub runs_action : {k output memory : ℕ} (v : List Float) → Action k tau cap g.norm output g.n (length v) g.n memory (taylor_need g.n 3 g.stored) → j ≡ action_job g tau cap v
      → length work ≡ memory
      → Allowed starts cols vals mass work j × (Coupled j.b j.g.n j.d (length v) × (output ≡ j.g.n))
  runs_action v h ej l = (allowed_action v h ej l, (rw ej (coupled_one g.n (length v) _ h.whole), rw ej h.out))

  pub runs_batch : {k output count memory : ℕ} (v : List Float) → Action k tau cap g.norm output (count * g.n) (length v) g.n memory (taylor_need g.n 3 g.stored) → j ≡ action_job g tau cap v
      → length work ≡ memory
      → count ≤ 4
      → Allowed starts cols vals mass work j × (Coupled j.b j.g.n j.d (length v) × ((j.d ≡ 3) × (length v ≡ j.g.n) × (count ≤ 4) × (output ≡ count * j.g.n)))
  runs_batch v h ej l few = (allowed_action v h ej l, (rw ej (coupled_one g.n (length v) _ h.whole), rw ej (refl, h.whole, few, h.out)))

-- ---- a refusal by a check of the generator is the call's
module _ (g : Generator) (tau : Float) (cap : ℕ) (out w₀ : List Float) {i : Reason} {x : Float} (e : Refused i x ≡ first g.checks) where
  pub combination_refused : (count : ℕ) (w : List Float) → ends (Refused i x) out w₀ ≡ phi_combination g tau cap count w out w₀
  unfolding phi_combination combination_checks
  combination_refused count w = refused_by Refused _ out w₀ _ refl (refused_up g.checks _ refl e)

  pub action_refused : (k : ℕ) (v : List Float) → ends (Refused i x) out w₀ ≡ phi_action g tau cap k v out w₀
  unfolding phi_action action_checks
  action_refused k v = refused_by Refused _ out w₀ _ refl (refused_up g.checks _ refl e)

  pub batch_refused : (p : ℕ) (v : List Float) → ends (Refused i x) out w₀ ≡ phi_action_batched g tau cap p v out w₀
  unfolding phi_action_batched action_checks
  batch_refused p v = refused_by Refused _ out w₀ _ refl (refused_up g.checks _ refl e)

-- the first field lies within the memory
pub field_fits : {starts cols : List ℕ} {vals mass work : List Float} {j : Job} → Allowed starts cols vals mass work j → j.g.n + j.d ≤ length work
unfolding taylor_need
field_fits h = omega (arith, h.needed, h.enough)

module _ {starts cols : List ℕ} {vals : List Float} (mass : List Float) {g : Shape} (ok : Passed (csr g.n starts cols vals) (given g.with_mass mass) g) (gs : List Check) (sound : Sound ≡ first gs) where
  abbrev a : Csr
  a = csr g.n starts cols vals

  abbrev m : Mass
  m = given g.with_mass mass

  rows : (quotients a m).n ≡ g.n
  rows = quotients_rows a m

  -- ---- a combination that passed: w_0 is the first n values of v, w_1 to w_d are f
  pub ran : (tau : Float) (cap d : ℕ) (v f out w₀ : List Float) {j : Job} {c : Call TaylorAnswer} {w₁ : List Float} → d ≤ 3 → g.n ≤ length v
      → or_first (combination_refusals g tau cap d f (length w₀)) (combination_job g tau cap d f) ≡ Ok j
      → w₁ ≡ splice 0 (combination_start g.n v d j.inv) w₀
      → c ≡ job_end j (matrix_of j.g starts cols vals mass) (swept_fields (operator_by j (matrix_of j.g starts cols vals mass) f) j.tau (window 0 (j.g.n + j.d) w₁)) w₁
      → c ≡ combination_run (after_checks gs a m g) tau cap d v f out w₀
  unfolding combination_run combination_operator taylor_need
  ran tau cap d v f out w₀ few l told e₁ h =
      let J = combination_job g tau cap d f in
      let ej = sym (ok_first _ _ told).1 in
      let q = quotients a m in
      let al = allowed_combination mass ok tau cap {work = w₀} f few told refl in
      let run = swept_fields (operator_by J q f) tau in
      let y = combination_start g.n v d J.inv in
      started_is J q run (g.n + d) y w₀ (length_start g.n v d J.inv l) (omega arith) (rw ej at al.enough) (rw ej at e₁) (rw ej at h)
      ∙ ends_planned (rw ej at al) out q (run y)
      ∙ rw (← ok.norm, rows) refl

  -- ---- a combination
  module _ (tau : Float) (cap count : ℕ) (w out w₀ : List Float) {v : Checked} (fv : v ≡ first (vector_checks g.n (plan_checks tau cap) count w (length out))) where
    pub refused_vectors : {k : Reason} {x : Float} → v ≡ Refused k x → ends (Refused k x) out w₀ ≡ phi_combination (after_checks gs a m g) tau cap count w out w₀
    unfolding phi_combination combination_checks
    refused_vectors e = refused_by Refused _ out w₀ _ e (sound_on gs _ refl sound (rw rows (refused_up (vector_checks g.n (plan_checks tau cap) count w (length out)) _ e fv)))

    -- 12 to 17 passed
    module _ (ev : v ≡ Sound) {r : Result Job Refusal} (er : r ≡ or_first (combination_refusals g tau cap (count - 1) (further g.n w) (length w₀)) (combination_job g tau cap (count - 1) (further g.n w))) where
      told : first (combination_refusals g tau cap (count - 1) (further g.n w) (length w₀)) ≡ first (combination_checks (after_checks gs a m g) tau cap count w (length out) (length w₀))
      unfolding combination_checks
      told =
          sound_on gs _ refl sound (rw (← ok.norm, rows) (sound_on (vector_checks g.n (plan_checks tau cap) count w (length out)) _ ev fv refl))

      pub refused_sweeps : {k : Reason} {x : Float} → r ≡ Refused k x → ends (Refused k x) out w₀ ≡ phi_combination (after_checks gs a m g) tau cap count w out w₀
      unfolding phi_combination
      refused_sweeps e = refused_by Refused _ out w₀ _ (err_first _ _ (sym er ∙ e)) told

      pub combined_is : {j : Job} {c : Call TaylorAnswer} → r ≡ Ok j → c ≡ combination_run (after_checks gs a m g) tau cap (count - 1) w (further g.n w) out w₀
          → c ≡ phi_combination (after_checks gs a m g) tau cap count w out w₀
      unfolding phi_combination
      combined_is e h = runs Refused _ out w₀ _ (ok_first _ _ (sym er ∙ e)).0 told (h ∙ rw rows refl)

  -- ---- an action of the index k: `wanted` values of the output
  module _ (tau : Float) (cap k : ℕ) (v : List Float) (out w₀ : List Float) (wanted : ℕ) {r : Result Job Refusal} (er : r ≡ or_first (action_refusals g tau cap k v (length out) wanted (length w₀)) (action_job g tau cap v)) where
    told_action : first (action_refusals g tau cap k v (length out) wanted (length w₀)) ≡ first (action_checks (after_checks gs a m g) tau cap k v (length out) wanted (length w₀))
    unfolding action_checks
    told_action = sound_on gs _ refl sound (rw (← ok.norm, rows) refl)

    allowed : {j : Job} → r ≡ Ok j → Allowed starts cols vals mass w₀ (action_job g tau cap v)
    allowed e = allowed_action mass ok tau cap {work = w₀} v (known_action g tau cap k v (length out) wanted (length w₀) (sym er ∙ e)) refl refl

  module _ (tau : Float) (cap k : ℕ) (v out w₀ : List Float) {r : Result Job Refusal} (er : r ≡ or_first (action_refusals g tau cap k v (length out) g.n (length w₀)) (action_job g tau cap v)) where
    told_one : first (action_refusals g tau cap k v (length out) g.n (length w₀)) ≡ first (action_checks (after_checks gs a m g) tau cap k v (length out) (quotients a m).n (length w₀))
    told_one = told_action tau cap k v out w₀ g.n er ∙ ap (λ (n : ℕ). first (action_checks (after_checks gs a m g) tau cap k v (length out) n (length w₀))) (sym rows)

    pub refused_action : {i : Reason} {x : Float} → r ≡ Refused i x → ends (Refused i x) out w₀ ≡ phi_action (after_checks gs a m g) tau cap k v out w₀
    unfolding phi_action
    refused_action e = refused_by Refused _ out w₀ _ (err_first _ _ (sym er ∙ e)) told_one

    pub acted_is : {j : Job} {c : Call TaylorAnswer} {w₁ : List Float} → r ≡ Ok j → w₁ ≡ splice 0 (init_aug_vector g.n v j.inv k) w₀
        → c ≡ job_end j (matrix_of j.g starts cols vals mass) (swept_fields (operator_by j (matrix_of j.g starts cols vals mass) v) j.tau (window 0 (j.g.n + j.d) w₁)) w₁
        → c ≡ phi_action (after_checks gs a m g) tau cap k v out w₀
    unfolding phi_action action_operator taylor_need
    acted_is e e₁ f =
        let J = action_job g tau cap v in
        let q = quotients a m in
        let told = sym er ∙ e in
        let ej = sym (ok_first _ _ told).1 in
        let al = allowed tau cap k v out w₀ g.n er e in
        let run = swept_fields (operator_by J q v) tau in
        let y = init_aug_vector g.n v J.inv k in
        runs Refused _ out w₀ _ (ok_first _ _ told).0 told_one
        (started_is J q run (g.n + 3) y w₀ (length_init g.n v J.inv k (known_action g tau cap k v (length out) g.n (length w₀) told).whole) (omega arith) al.enough (rw ej at e₁) (rw ej at f)
        ∙ ends_planned al out q (run y)
        ∙ rw (← ok.norm, rows) refl)

  -- ---- a batch of the indices 0 to k
  module _ (tau : Float) (cap k : ℕ) (v out w₀ : List Float) where
    pub refused_index : {s : Checked} {i : Reason} {x : Float} → s ≡ Refused i x → s ≡ first (index_checks k) → ends (Refused i x) out w₀ ≡ phi_action_batched (after_checks gs a m g) tau cap k v out w₀
    unfolding phi_action_batched action_checks job_checks
    refused_index e f = refused_by Refused _ out w₀ _ e (sound_on gs _ refl sound (refused_up (index_checks k) _ e f))

    module _ (count : ℕ) (ec : count ≡ suc k) {r : Result Job Refusal} (er : r ≡ or_first (action_refusals g tau cap k v (length out) (count * g.n) (length w₀)) (action_job g tau cap v)) where
      told_batch : first (action_refusals g tau cap k v (length out) (count * g.n) (length w₀)) ≡ first (action_checks (after_checks gs a m g) tau cap k v (length out) (suc k * (quotients a m).n) (length w₀))
      told_batch = told_action tau cap k v out w₀ (count * g.n) er ∙ (λ i. first (action_checks (after_checks gs a m g) tau cap k v (length out) (ec i * sym rows i) (length w₀)))

      pub refused_batch : {i : Reason} {x : Float} → r ≡ Refused i x → ends (Refused i x) out w₀ ≡ phi_action_batched (after_checks gs a m g) tau cap k v out w₀
      unfolding phi_action_batched
      refused_batch e = refused_by Refused _ out w₀ _ (err_first _ _ (sym er ∙ e)) told_batch

      pub batch_is : {j : Job} {c : Call TaylorAnswer} → r ≡ Ok j
          → c ≡ job_end j (matrix_of j.g starts cols vals mass) (batched (operator_by j (matrix_of j.g starts cols vals mass) v) j.tau v j.inv count) w₀
          → c ≡ phi_action_batched (after_checks gs a m g) tau cap k v out w₀
      unfolding phi_action_batched action_operator
      batch_is e f =
          let J = action_job g tau cap v in
          let q = quotients a m in
          let told = ok_first _ _ (sym er ∙ e) in
          let ej = sym told.1 in
          runs Refused _ out w₀ _ told.0 told_batch
          ((rw ej at f) ∙ ends_planned (allowed tau cap k v out w₀ (count * g.n) er e) out q (batched (operator_by J q v) tau v J.inv count) ∙ rw (← ok.norm, rows, ec) refl)
