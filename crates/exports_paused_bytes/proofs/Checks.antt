-- The checks of a start and of a step as one list, and what they answer where slices were cut. Assumes nothing.
use mathlib.Core.Bool.{Bool, true, false, not, ◌&&◌, ◌||◌, true≢false}
use mathlib.Core.List.{List, [], ◌∷◌, ◌++◌, append_assoc}
use mathlib.Core.Logic.{inl, inr}
use mathlib.Core.Option.{none, some}
use mathlib.Core.Path.{◌≡◌, refl, sym, ◌∙◌, ap}
use native.Mathlib.Omega.{arith}
use native.Mathlib.Nat.{mul-le-mul}
use Prim.Native.Nat.{ℕ, ◌+◌, ◌-◌, ◌*◌, ◌≤◌, ◌<◌}
use lib.Dec.{eqb, ltb}
use lib.ListN.{length}
use lib.Ieee.{Float, nan}
use borrow.Author.Tests.{ltb-true, ltb-false, ne_eqb, eqb-true, not-false}
use Rattle.std.specs.Prelude.{Option}
use Rattle.doubles.specs.F64.{nat}
use Rattle.checks.specs.First.{Check, refuse, first, Checked, same, before}
use Rattle.checks.proofs.First.{and_then, first_append, sound_append, sound_cons}
use Rattle.checks.proofs.Numbers.{before_append, before_number, alike_before}
use Rattle.general_operator.specs.Csr.{Csr, csr, row_sum_norm}
use Rattle.general_operator.specs.Checks.{shape_checks, row_checks, entry_checks, matrix_checks}
use Rattle.general_operator.proofs.Sound.{or_false}
use Rattle.generator_action.specs.Mass.{Mass, given, mass_checks, sum_checks, norm_checks, bound_checks, generator_checks}
use Rattle.generator_action.specs.Generator.{Generator, forward}
use Rattle.combination.specs.Combination.{further, eta_of}
use Rattle.combination.specs.Checks.{count_checks, time_checks, length_checks, finite_checks, magnitude_checks, memory_checks, vector_checks_by}
use Rattle.taylor_schedule.proofs.Stored.{quotients_rows}
use Rattle.krylov_job.specs.KrylovCall.{bound, dimension, option_checks, bound_checks as argument_checks, run_checks, krylov_need, krylov_checks_by, krylov_checks}
use Rattle.krylov_job.specs.declared.KrylovPhiOptions.{KrylovPhiOptions}
use Rattle.paused_run.specs.Paused.{Job, rows, degree, field_checks, start_checks, start_unless, over, other_checks, step_checks, options_in, tol_in, step_unless, step}
use Rattle.paused_run.specs.declared.PausedRun.{PausedRun}
use Rattle.answers.specs.Told.{options}
use Rattle.exports_paused.proofs.Slices.{fitting}
use Rattle.exports_paused.specs.Told.{fits, run_of, no_run, ran, told, state, start_state, step_state, state_checks, start_told, step_told, tolerance}
use Rattle.byte_arrays.proofs.Parts.{Part, Columns}
use Rattle.byte_arrays.proofs.Cuts.{Recut, retold, Uncut, job_cut}
use Rattle.byte_arrays.proofs.Forward.{forward_refuses}
use Rattle.paused_byte_calls.specs.Inner.{job, called_run}
use Rattle.paused_byte_calls.specs.declared.RunCall.{RunCall}
use Rattle.paused_byte_calls.specs.declared.RunCall.TheVariants.{Start, Step}
use Rattle.checks.specs.Reasons.{number, Sound, Refused}
use Rattle.std.specs.Prelude.{Ok, Err}
use Rattle.checks.specs.declared.Reason.TheVariants.{RowStartsLength, MassLength, VectorCount, OutputLength, VectorLength, WorkLength, SubstepLimit, LengthsRejected, NoInnerPlan, RunEnded}
use Rattle.checks.specs.declared.Reason.{Reason}

-- ---- all checks of a call, by output, working memory, the field's length and the state
pub checks : RunCall → Job → List Float → List Float → ℕ → List Float → List ℕ → List Check
checks (Start tol m limit) j output memory field numbers counts = start_checks (options tol m limit) j (length output) (length memory) field ++ state_checks numbers counts
checks (Step with_tol tol) j output memory field numbers counts = step_checks (run_of numbers counts) field (record { tolerance = tolerance with_tol tol; job = j; output = output; memory = memory })

-- ---- none of them is numbered 27 to 29, so that a refusal by one of them writes no state
not_27 : (a : Csr) (mass : Mass) → (before SubstepLimit (generator_checks a mass) ≡ generator_checks a mass) × (before LengthsRejected (generator_checks a mass) ≡ generator_checks a mass) × (before NoInnerPlan (generator_checks a mass) ≡ generator_checks a mass)
unfolding before generator_checks bound_checks mass_checks sum_checks norm_checks matrix_checks shape_checks row_checks entry_checks
not_27 a none = (refl, refl, refl)
not_27 a (some mass) = (refl, refl, refl)

-- what stands behind those of the matrix
abbrev behind_matrix : PausedRun → ℕ → Option Float → Job → List Float → List Float → List Check
behind_matrix s field t j output memory =
    let n = j.g.matrix.n in
    let d = j.count - 1 in
    let M = dimension n d s.m in
    vector_checks_by (time_checks j.tau) (length_checks (length output) (rows j) (length j.w) (j.count * rows j) ++ other_checks s j) j.count j.w
    ++ (option_checks (options_in s (tol_in t s)) M
    ++ run_checks n j.tau d (further n j.w) s.eta (bound j.tau (row_sum_norm j.g.matrix)) (length memory) (krylov_need n d M j.g.stored))

step_on : (s : PausedRun) (field : ℕ) (t : Option Float) (j : Job) (output memory : List Float)
    → step_checks s field (record { tolerance = t; job = j; output = output; memory = memory }) ≡ refuse RunEnded (over s) nan ∷ (j.g.checks ++ (behind_matrix s field t j output memory ++ field_checks field (rows j + degree j)))
unfolding step_checks krylov_checks_by
step_on s field t j output memory = ap (λ (l : List Check). refuse RunEnded (over s) nan ∷ l) (append_assoc j.g.checks (behind_matrix s field t j output memory) (field_checks field (rows j + degree j)))

behind_27 : (s : PausedRun) (field : ℕ) (t : Option Float) (j : Job) (output memory : List Float) → (let l = behind_matrix s field t j output memory ++ field_checks field (rows j + degree j) in (before SubstepLimit l ≡ l) × (before LengthsRejected l ≡ l) × (before NoInnerPlan l ≡ l))
unfolding before vector_checks_by count_checks time_checks length_checks finite_checks option_checks run_checks magnitude_checks argument_checks memory_checks field_checks other_checks
behind_27 s field t j output memory = (refl, refl, refl)

other : (k : Reason) (b : Bool) (g l : List Check) {j : Reason} {x : Float} → same RunEnded k ≡ false → before k g ≡ g → before k l ≡ l → Refused j x ≡ first (refuse RunEnded b nan ∷ (g ++ l)) → number j ≡ number k → ⊥
unfolding before
other k b g l {j} e eg el f n = before_number j (refuse RunEnded b nan ∷ (g ++ l)) (f ∙ ap first (sym (alike_before j k n (refuse RunEnded b nan ∷ (g ++ l)) ∙ none))) refl
  where
    none : before k (refuse RunEnded b nan ∷ (g ++ l)) ≡ refuse RunEnded b nan ∷ (g ++ l)
    none = rw e (ap (λ (r : List Check). refuse RunEnded b nan ∷ r) (before_append k g l eg ∙ ap (λ (r : List Check). g ++ r) el))

not_ran : (k : ℕ) → (k ≡ 27 → ⊥) → (k ≡ 28 → ⊥) → (k ≡ 29 → ⊥) → ran k ≡ false
not_ran k a b c = go (ltb 26 k) refl (ltb k 30) refl
  where
    go : (t : Bool) → ltb 26 k ≡ t → (u : Bool) → ltb k 30 ≡ u → (t && u) ≡ false
    go false e u f = refl
    go true e false f = refl
    go true e true f = absurd (omega (arith, ltb-true 26 k e, ltb-true k 30 f, a, b, c))

early : (s : PausedRun) (field : ℕ) (t : Option Float) (a : Csr) (mass : Mass) (tau : Float) (count : ℕ) (w output memory : List Float) {k : Reason} {x : Float}
    → first (step_checks s field (record { tolerance = t; job = job a mass tau count w; output = output; memory = memory })) ≡ Refused k x → ran (number k) ≡ false
early s field t a mass tau count w output memory {k} {x} e =
    let j = job a mass tau count w in
    let l = behind_matrix s field t j output memory ++ field_checks field (rows j + degree j) in
    let g = generator_checks a mass in
    let f : Refused k x ≡ first (refuse RunEnded (over s) nan ∷ (g ++ l)) = sym e ∙ ap first (step_on s field t j output memory) in
    not_ran (number k) (other SubstepLimit (over s) g l refl (not_27 a mass).0 (behind_27 s field t j output memory).0 f) (other LengthsRejected (over s) g l refl (not_27 a mass).1 (behind_27 s field t j output memory).1 f) (other NoInnerPlan (over s) g l refl (not_27 a mass).2 (behind_27 s field t j output memory).2 f)

-- ---- a refused call changes nothing
pub refused : (call : RunCall) (a : Csr) (mass : Mass) (tau : Float) (count : ℕ) (w output memory field numbers : List Float) (counts : List ℕ) {k : Reason} {x : Float}
    → first (checks call (job a mass tau count w) output memory (length field) numbers counts) ≡ Refused k x → called_run call (job a mass tau count w) output memory field numbers counts ≡ told (state (number k) x numbers counts) output memory field
unfolding checks called_run start_told start_unless start_state step_told step step_unless step_state
refused (Start tol m limit) a mass tau count w output memory field numbers counts e = rw e refl
refused (Step with_tol tol) a mass tau count w output memory field numbers counts e = rw (e, early (run_of numbers counts) (length field) (tolerance with_tol tol) a mass tau count w output memory e) refl

-- ---- field and state, whole and cut
same_eqb : {A : Type 0} {c : ℕ} {l p : List A} → Part c l p → (w : ℕ) → w < 512 → eqb (length p) w ≡ eqb (length l) w
same_eqb (inl (e, few)) w h = ap (λ x. eqb (length x) w) e
same_eqb {l = l} {p = p} (inr (lc, el, lp)) w h = ne_eqb (length p) w (λ q. omega (arith, q, lp, h)) ∙ sym (ne_eqb (length l) w (λ q. omega (arith, q, lc, el, h)))

-- of a length below 512, nothing was cut
uncut : {A : Type 0} {c : ℕ} {l p : List A} → Part c l p → length p < 512 → (p ≡ l) × (c ≤ 512)
uncut (inl e) h = e
uncut (inr (lc, el, lp)) h = absurd (omega (arith, lp, h))

-- where the checks of a list pass, those behind it decide
same_tail : (xs ys zs : List Check) → (Sound ≡ first xs → first ys ≡ first zs) → first (xs ++ ys) ≡ first (xs ++ zs)
unfolding and_then
same_tail xs ys zs h = first_append xs ys ∙ go (first xs) refl ∙ sym (first_append xs zs)
  where
    go : (r : Checked) → r ≡ first xs → and_then (first xs) (first ys) ≡ and_then (first xs) (first zs)
    go (Ok _) e = rw (← e) (h e)
    go (Err r) e = rw (← e) refl

few_count : (g : Generator) (tau : Float) (count : ℕ) (w : List Float) (eta : Float) (of_lengths : List Check) (o : KrylovPhiOptions) (memory : ℕ) → Sound ≡ first (krylov_checks_by g tau count w eta of_lengths o memory) → count ≤ 4
unfolding krylov_checks_by vector_checks_by count_checks
few_count g tau count w eta of_lengths o memory e = ltb-false 4 count (or_false (eqb count 0) (ltb 4 count) (sound_cons _ _ _ _ (sound_append g.checks _ e).1).0).1

no_state : (numbers : List Float) (counts : List ℕ) → fits numbers counts ≡ false → run_of numbers counts ≡ no_run
unfolding run_of
no_state numbers counts e = rw e refl

ended : over no_run ≡ true
unfolding over
ended = refl

-- a run that goes on is held by slices that fit
running : (numbers : List Float) (counts : List ℕ) → over (run_of numbers counts) ≡ false → fits numbers counts ≡ true
running numbers counts e = go (fits numbers counts) refl
  where
    go : (t : Bool) → fits numbers counts ≡ t → fits numbers counts ≡ true
    go true d = d
    go false d = absurd (true≢false (sym ended ∙ ap over (sym (no_state numbers counts d)) ∙ e))

-- those of a step between 31 and the field's
abbrev of_call : PausedRun → Option Float → Job → List Float → List Float → List Check
of_call s t j output memory =
    krylov_checks_by j.g j.tau j.count j.w s.eta (length_checks (length output) (rows j) (length j.w) (j.count * rows j) ++ other_checks s j) (options_in s (tol_in t s)) (length memory)

module _ {cf cn ck : ℕ} {field field₁ numbers numbers₁ : List Float} {counts counts₁ : List ℕ} (hf : Part cf field field₁) (hn : Part cn numbers numbers₁) (hk : Part ck counts counts₁) where
  same_fits : fits numbers₁ counts₁ ≡ fits numbers counts
  unfolding fits
  same_fits = let x = same_eqb hn 10 (omega arith) in let y = same_eqb hk 8 (omega arith) in λ i. x i && y i

  abbrev Whole : Type 0
  Whole = ((numbers₁ ≡ numbers) × (cn ≤ 512)) × ((counts₁ ≡ counts) × (ck ≤ 512))

  whole_state : fits numbers₁ counts₁ ≡ true → Whole
  whole_state e =
      let x = (fitting numbers₁ counts₁ e).0 in
      let y = (fitting numbers₁ counts₁ e).1 in
      (uncut hn (omega (arith, x)), uncut hk (omega (arith, y)))

  same_run : run_of numbers₁ counts₁ ≡ run_of numbers counts
  same_run = go (fits numbers₁ counts₁) refl
    where
      go : (t : Bool) → fits numbers₁ counts₁ ≡ t → run_of numbers₁ counts₁ ≡ run_of numbers counts
      go true e = let w = whole_state e in λ i. run_of (w.0.0 i) (w.1.0 i)
      go false e = no_state numbers₁ counts₁ e ∙ sym (no_state numbers counts (sym same_fits ∙ e))

  -- the field's length is right or wrong in both, unless 12 refuses
  same_field : (j : Job) → rows j ≤ 64 → j.count ≤ 4 → eqb (length field₁) (rows j + degree j) ≡ eqb (length field) (rows j + degree j)
  same_field j few l = same_eqb hf (rows j + degree j) (omega (arith, few, l))

  pub same_checks : (call : RunCall) (j : Job) (output memory : List Float) → rows j ≤ 64 → first (checks call j output memory (length field) numbers counts) ≡ first (checks call j output memory (length field₁) numbers₁ counts₁)
  unfolding checks start_checks step_checks field_checks state_checks krylov_checks
  same_checks (Start tol m limit) j output memory few =
      let K = krylov_checks j.g j.tau j.count j.w (options tol m limit) (length output) (length memory) in
      ap first (append_assoc K _ _)
      ∙ same_tail K _ _ (λ e. let x = sym (same_field j few (few_count _ _ _ _ _ _ _ _ e)) in let y = sym same_fits in λ i. first (refuse WorkLength (not (x i)) nan ∷ refuse WorkLength (not (y i)) nan ∷ []))
      ∙ ap first (sym (append_assoc K _ _))
  same_checks (Step with_tol tol) j output memory few =
      ap (λ (s : PausedRun). first (step_checks s (length field) (record { tolerance = tolerance with_tol tol; job = j; output = output; memory = memory }))) (sym same_run)
      ∙ same_tail (refuse RunEnded (over (run_of numbers₁ counts₁)) nan ∷ of_call (run_of numbers₁ counts₁) (tolerance with_tol tol) j output memory) _ _ (λ e. let x = sym (same_field j few (few_count _ _ _ _ _ _ _ _ (sound_cons _ _ _ _ e).1)) in λ i. first (refuse WorkLength (not (x i)) nan ∷ []))

  -- where all of them pass, nothing was cut
  pub whole_lent : (call : RunCall) (j : Job) (output memory : List Float) → rows j ≤ 64 → Sound ≡ first (checks call j output memory (length field₁) numbers₁ counts₁) → ((field₁ ≡ field) × (cf ≤ 512)) × Whole
  unfolding checks start_checks step_checks field_checks state_checks krylov_checks
  whole_lent (Start tol m limit) j output memory few e =
      let K = krylov_checks j.g j.tau j.count j.w (options tol m limit) (length output) (length memory) in
      let s = sound_append (K ++ _) _ e in
      let t = sound_append K _ s.0 in
      let c : j.count ≤ 4 = few_count _ _ _ _ _ _ _ _ t.0 in
      let x : length field₁ ≡ rows j + degree j = eqb-true (length field₁) (rows j + degree j) (not-false _ (sound_cons _ _ _ _ t.1).0) in
      (uncut hf (omega (arith, few, c, x)), whole_state (not-false _ (sound_cons _ _ _ _ s.1).0))
  whole_lent (Step with_tol tol) j output memory few e =
      let s = sound_cons _ _ _ _ e in
      let t = sound_append (of_call (run_of numbers₁ counts₁) (tolerance with_tol tol) j output memory) _ s.1 in
      let c : j.count ≤ 4 = few_count _ _ _ _ _ _ _ _ t.0 in
      let x : length field₁ ≡ rows j + degree j = eqb-true (length field₁) (rows j + degree j) (not-false _ (sound_cons _ _ _ _ t.1).0) in
      (uncut hf (omega (arith, few, c, x)), whole_state (running numbers₁ counts₁ s.0))

-- ---- matrix, vectors and output cut
module _ (call : RunCall) (n : ℕ) (vals : List Float) (few : n ≤ 64) (entries : length vals ≤ 512) (tau : Float) (count : ℕ) (memory : List Float) (field : ℕ) (numbers : List Float) (counts : List ℕ) where
  abbrev over_lists : List ℕ → List ℕ → Mass → List Float → Job
  over_lists s c u w = job (csr n s c vals) u tau count w

  pub few_rows : (s c : List ℕ) (u : Mass) (w : List Float) → rows (over_lists s c u w) ≤ 64
  few_rows s c u w = omega (arith, quotients_rows (csr n s c vals) u, few)

  front : RunCall → List Check
  front (Start tol m limit) = []
  front (Step with_tol tol) = refuse RunEnded (over (run_of numbers counts)) nan ∷ []

  limit : Check
  limit = refuse VectorCount (eqb count 0 || ltb 4 count) (nat count)

  -- behind 16
  others : RunCall → Job → List Check
  others (Start tol m most) j =
      let n = j.g.matrix.n in
      let d = j.count - 1 in
      let o = options tol m most in
      let M = dimension n d m in
      finite_checks j.w
      ++ ((option_checks o M ++ run_checks n j.tau d (further n j.w) (eta_of n (further n j.w) j.tau d).eta (bound j.tau (row_sum_norm j.g.matrix)) (length memory) (krylov_need n d M j.g.stored))
      ++ (field_checks field (rows j + degree j) ++ state_checks numbers counts))
  others (Step with_tol tol) j =
      let s = run_of numbers counts in
      let n = j.g.matrix.n in
      let d = j.count - 1 in
      let M = dimension n d s.m in
      other_checks s j
      ++ (finite_checks j.w
      ++ ((option_checks (options_in s (tol_in (tolerance with_tol tol) s)) M ++ run_checks n j.tau d (further n j.w) s.eta (bound j.tau (row_sum_norm j.g.matrix)) (length memory) (krylov_need n d M j.g.stored))
      ++ field_checks field (rows j + degree j)))

  ordered : (call : RunCall) (s c : List ℕ) (u : Mass) (w output : List Float) → (let j = over_lists s c u w in first (checks call j output memory field numbers counts)
      ≡ first (front call ++ (generator_checks (csr n s c vals) u ++ (limit ∷ (time_checks tau ++ (refuse OutputLength (not (eqb (length output) (rows j))) (nat (length output)) ∷ refuse VectorLength (not (eqb (length w) (count * rows j))) (nat (length w)) ∷ others call j))))))
  unfolding checks front limit others start_checks step_checks krylov_checks krylov_checks_by vector_checks_by count_checks time_checks length_checks finite_checks other_checks
  ordered (Start tol m most) s c u w output = ap first (append_assoc (krylov_checks (forward (csr n s c vals) u) tau count w (options tol m most) (length output) (length memory)) _ _ ∙ append_assoc (generator_checks (csr n s c vals) u) _ _)
  ordered (Step with_tol tol) s c u w output = ap (λ (l : List Check). first (refuse RunEnded (over (run_of numbers counts)) nan ∷ l)) (append_assoc (generator_checks (csr n s c vals) u) _ _)

  in_order : (s c : List ℕ) (u : Mass) (w output : List Float) → (let j = over_lists s c u w in first (checks call j output memory field numbers counts)
      ≡ first (front call ++ (generator_checks (csr n s c vals) u ++ (limit ∷ (time_checks tau ++ (refuse OutputLength (not (eqb (length output) (rows j))) (nat (length output)) ∷ refuse VectorLength (not (eqb (length w) (count * rows j))) (nat (length w)) ∷ others call j))))))
  in_order s c u w output = ordered call s c u w output

  free : (call : RunCall) → (before RowStartsLength (front call) ≡ front call) × (before MassLength (front call) ≡ front call) × (before OutputLength (front call) ≡ front call) × (before VectorLength (front call) ≡ front call)
  unfolding before front
  free (Start tol m most) = (refl, refl, refl, refl)
  free (Step with_tol tol) = (refl, refl, refl, refl)

  low : number limit.reason ≤ 13
  unfolding limit
  low = omega arith

  time_not_15 : before OutputLength (time_checks tau) ≡ time_checks tau
  unfolding before time_checks
  time_not_15 = refl

  output_not_16 : (c : Check) → before VectorLength (time_checks tau ++ (refuse OutputLength c.holds c.reported ∷ [])) ≡ time_checks tau ++ (refuse OutputLength c.holds c.reported ∷ [])
  unfolding before time_checks
  output_not_16 c = refl

  few_expected : (m : ℕ) → m ≤ 64 → limit.holds ≡ false → count * m ≤ 256
  unfolding limit
  few_expected m l e = mul-le-mul (ltb-false 4 count (or_false (eqb count 0) (ltb 4 count) e).1) l

  pub checks_cut : {cs cm co cv : ℕ} {s s₁ cols cols₁ : List ℕ} {m m₁ w w₁ o o₁ : List Float} (b : Bool) → Part cs s s₁ → Columns cols cols₁ → (b ≡ true → Part cm m m₁) → (b ≡ false → cm ≤ 512) → Part co o o₁ → Part cv w w₁
      → Recut cs cm co cv (first (checks call (over_lists s cols (given b m) w) o memory field numbers counts)) (first (checks call (over_lists s₁ cols₁ (given b m₁) w₁) o₁ memory field numbers counts)) (Uncut s s₁ cols cols₁ (given b m) (given b m₁) cs cm × (w₁ ≡ w))
  checks_cut {cs} {cm} {co} {cv} {s} {s₁} {cols} {cols₁} {m} {m₁} {w} {w₁} {o} {o₁} b hs hc hm hm' ho hv =
      let ρ = job_cut (length vals) entries (λ s c u. generator_checks (csr n s c vals) u) (forward_refuses n vals few) (front call) (free call) limit low (time_checks tau) time_not_15 output_not_16 (λ s c u. rows (over_lists s c u [])) (λ s c u. count * rows (over_lists s c u [])) (λ s c u e. omega (arith, few_rows s c u [])) (λ s c u. few_expected _ (few_rows s c u [])) (λ s c u w. others call (over_lists s c u w)) b hs hc hm hm' ho hv in
      record {
        told = in_order s cols (given b m) w o ∙ ρ.told ∙ ap (retold cs cm co cv) (sym (in_order s₁ cols₁ (given b m₁) w₁ o₁));
        same = λ e. ρ.same (sym (in_order s₁ cols₁ (given b m₁) w₁ o₁) ∙ e);
      }
