-- A run whose matrix, tau, vectors and tol never change ends as the undivided one (document 02, N5). Assumes nothing.
use Rattle.std.specs.Prelude.{if◌then◌else◌, Some}
use mathlib.Core.Path.{◌≡◌, refl, sym, ap, ◌∙◌, subst}
use mathlib.Core.Logic.{inl, inr}
use mathlib.Core.Bool.{Bool, true, false, not, true≢false}
use mathlib.Core.List.{List, [], ◌∷◌, ◌++◌, append-nil}
use Prim.Native.Nat.{ℕ, zero, suc, ◌+◌, ◌-◌, ◌≤◌, ◌<◌, zero-le}
use native.Mathlib.Nat.{le_trans, le_of_eq, zero-add}
use native.Mathlib.Numerals.{add-one}
use native.Mathlib.Omega.{arith}
use borrow.Author.Tests.{ltb-false, le-ltb}
use lib.Dec.{ltb}
use lib.ListN.{length, replicate, length-append, length-replicate}
use lib.Ieee.{Float}
use Rattle.lists.specs.Walk.{Turn, on, out}
use Rattle.lists.specs.Window.{window}
use Rattle.doubles.specs.F64.{◌⊗◌}
use Rattle.vectors.specs.Vectors.{scale}
use Rattle.pow2.specs.Pow2.{pow2_scale}
use Rattle.pow2.specs.declared.Scale.{Scale}
use Rattle.checks.specs.First.{first, Checked, same as same_number}
use Rattle.general_operator.specs.Csr.{row_sum_norm}
use Rattle.combination.specs.Call.{Call, ends, unless_refused, cleared}
use Rattle.gram_schmidt.specs.Basis.{Setting, norm2}
use Rattle.krylov_advance.specs.Run.{State, End, finished, refused, substep, spent, started, scaled_back, back, relative_report, clamp_m, idle, setting, expv_by, expv}
use Rattle.krylov_job.specs.KrylovCall.{bound, dimension, krylov_checks, KrylovAnswer, after_run, combination_run_krylov, phi_combination_krylov}
use Rattle.krylov_job.specs.declared.KrylovPhiOptions.{KrylovPhiOptions}
use Rattle.paused_run.specs.Paused.{Job, rows, PausedCall, need_of, StepAnswer, StepRefused, Input, moved, over, verdict, field_after, after_substep}
use Rattle.paused_run.specs.declared.PausedRun.{PausedRun}
use Rattle.demand_3.specs.Trace.{Run, runs, status_of}
use Rattle.demand_3.specs.Krylov.{Each, euclidean}
use Rattle.demand_3.specs.Demand3.{operator_of}
use Rattle.demand_3.proofs.Runs.{runs_append, runs_over, run_runs}
use Rattle.demand_3.proofs.Counts.{reached, run_recorded, trace_few}
use Rattle.demand_3.proofs.Krylov.{zeros_none}
use Rattle.demand_3.proofs.Limit.{Going, Over, run_kept}
use Rattle.lists.proofs.Walk.{Kept}
use Rattle.paused_claims.specs.History.{whole, own_eta, made_with, Past, call_on, checked, Steps, in_force, tol_kept, one_more, next, Left}
use Rattle.paused_claims.specs.History as history
use Rattle.paused_claims.specs.Start.{values_of, job_checks}
use Rattle.paused_claims.specs.Early.{with_tol, step_job_checks}
use Rattle.paused_claims.specs.Undivided.{Unchanged, LeftSame, undivided, AsWhole, Served, all_next, UndividedClaim, ZeroWhole}
use Rattle.paused_claims.specs.Undivided as same
use Rattle.paused_claims.proofs.Known.{few, long}
use Rattle.paused_claims.proofs.Pieces.{Pieces, pieces, together, limited, with_limit, with_slices}
use Rattle.paused_claims.proofs.Start.{the_start}
use Rattle.paused_claims.proofs.Standing.{passed, standing_as, ended_by, run_with, whole_is, made, answer_is, Moving, left_sound, left_stands}
use Rattle.paused_claims.proofs.Early.{over_left, own}
use Rattle.paused_claims.proofs.Steps.{sound_call}
use Rattle.paused_claims.proofs.Ended.{stays_ended}
use Rattle.checks.specs.Reasons.{Sound, Refused}
use Rattle.std.specs.Prelude.{Ok, Err}
use Rattle.checks.specs.declared.Reason.TheVariants.{SubstepLimit}
use Rattle.checks.specs.declared.Reason.{Reason}

pub left_same : {o : KrylovPhiOptions} {j : Job} {p : Past} → LeftSame o j p → Left o j p
left_same (same.started output memory field e) = history.started output memory field e
left_same (same.stepped l i h) = history.stepped (left_same l) i

-- ---- lists of one setting
replicate_more : {A : Type 0} (a b : ℕ) (x : A) → replicate (a + b) x ≡ replicate a x ++ replicate b x
replicate_more zero b x = ap (λ (n : ℕ). replicate n x) (zero-add b)
replicate_more {A} (suc a) b x = ap (λ (n : ℕ). replicate n x) (add_suc a b) ∙ ap (λ (l : List A). x ∷ l) (replicate_more a b x)
  where
    add_suc : (a b : ℕ) → suc a + b ≡ suc (a + b)
    add_suc a b = omega arith

replicate_one : {A : Type 0} (a : ℕ) (x : A) → replicate a x ++ (x ∷ []) ≡ replicate (suc a) x
replicate_one a x = sym (replicate_more a 1 x) ∙ ap (λ (n : ℕ). replicate n x) (add-one a)

tol_same : (c : Checked) (a : StepAnswer) (x : Float) → tol_kept c a x x ≡ x
tol_same (Err r) a x = refl
tol_same (Ok _) (Ok s) x = refl
tol_same (Ok _) (Err r) x = go (same_number r.refusal.reason SubstepLimit)
  where
    go : (b : Bool) → (if b then x else x) ≡ x
    go true = refl
    go false = refl

-- ---- the settings of its substeps are one
abbrev One : KrylovPhiOptions → Job → Float → List Setting → Type 0
One o j tol ps = (tol ≡ o.tol) × (ps ≡ replicate (length ps) (made_with o j o.tol j))

made_same : (o : KrylovPhiOptions) (j : Job) (tol : Float) (i : Input) → tol ≡ o.tol → Unchanged o j i → made_with o j (in_force i.tolerance tol) i.job ≡ made_with o j o.tol j
made_same o j tol i e h = λ k. made_with o j ((ap (in_force i.tolerance) e ∙ h.tol) k) (h.job k)

one_next : (o : KrylovPhiOptions) (j : Job) (p : Past) (i : Input) → One o j p.tol p.settings → (Steps p i → Unchanged o j i) → One o j (next o j p i).tol (next o j p i).settings
one_next o j p i h unchanged = go (checked p i) refl
  where
    q : Setting
    q = made_with o j (in_force i.tolerance p.tol) i.job

    kept_tol : Unchanged o j i → (c : Checked) (a : StepAnswer) → tol_kept c a p.tol (in_force i.tolerance p.tol) ≡ o.tol
    kept_tol u c a = (λ k. tol_kept c a (h.0 k) ((ap (in_force i.tolerance) h.0 ∙ u.tol) k)) ∙ tol_same c a o.tol

    grown : q ≡ made_with o j o.tol j → p.settings ++ (q ∷ []) ≡ replicate (length (p.settings ++ (q ∷ []))) (made_with o j o.tol j)
    grown e =
        (λ k. h.1 k ++ (e k ∷ []))
        ∙ replicate_one (length p.settings) (made_with o j o.tol j)
        ∙ ap (λ (n : ℕ). replicate n (made_with o j o.tol j)) (sym (length-append p.settings (q ∷ []) ∙ add-one (length p.settings)))

    go : (c : Checked) → checked p i ≡ c → One o j (tol_kept c (call_on p i).answer p.tol (in_force i.tolerance p.tol)) (p.settings ++ one_more c q)
    go (Err r) e = (h.0, subst (λ (l : List Setting). l ≡ replicate (length l) (made_with o j o.tol j)) (sym (append-nil p.settings)) h.1)
    go (Ok _) e = let u = unchanged (sym e) in (kept_tol u Sound (call_on p i).answer, grown (made_same o j p.tol i h.0 u))

pub one_setting : {o : KrylovPhiOptions} {j : Job} {p : Past} → LeftSame o j p → One o j p.tol p.settings
one_setting (same.started output memory field e) = (refl, refl)
one_setting {o} {j} (same.stepped {p} l i h) = one_next o j p i (one_setting l) h

-- ---- the whole call of a job that is not all zeros
module _ (o : KrylovPhiOptions) (j : Job) (f : Scale) (by : pow2_scale (values_of j) ≡ Some f) where
  abbrev y₀ : List Float
  y₀ = (whole o j).field

  abbrev q₀ : Setting
  q₀ = (whole o j).first

  first_is : (output memory : ℕ) → Sound ≡ first (krylov_checks j.g j.tau j.count j.w o output memory) → q₀ ≡ made_with o j o.tol j
  unfolding norm2 clamp_m
  first_is output memory e =
      let w = whole_is o j f by in
      ap (λ (u : Run). u.first) w ∙ (λ k. setting (operator_of j.g j.tau j.count j.w) j.tau (bound j.tau (row_sum_norm j.g.matrix)) (o.tol ⊗ norm2 (sym w k).field) (clamp_m o.m (long o j output memory e k)))

  -- where its substeps stand, scaled back
  abbrev ended_whole : List Float → Turn State End → Call KrylovAnswer
  ended_whole memory st = after_run (rows j) (need_of j o.m) memory (back f.up (euclidean y₀) (spent st))

  whole_call : (limit : ℕ) (output memory : List Float) → Sound ≡ first (job_checks (limited o limit) j output memory)
      → undivided o j limit output memory ≡ ended_whole memory (runs (replicate limit q₀) (on (started q₀ y₀)))
  unfolding phi_combination_krylov combination_run_krylov unless_refused expv expv_by norm2
  whole_call limit output memory e =
      let w = whole_is o j f by in
      let q = setting (operator_of j.g j.tau j.count j.w) j.tau (bound j.tau (row_sum_norm j.g.matrix)) (o.tol ⊗ norm2 (scale f.down (values_of j))) (clamp_m o.m (length (values_of j))) in
      rw (← e, by)
      (ap (λ (x : End). after_run (rows j) (need_of j o.m) memory (back f.up (norm2 (scale f.down (values_of j))) x)) (run_runs q limit (started q (scale f.down (values_of j))))
      ∙ (λ k. after_run (rows j) (need_of j o.m) memory (back f.up (norm2 (sym w k).field) (spent (runs (replicate limit (sym w k).first) (on (started (sym w k).first (sym w k).field)))))))

  -- a run that has ended takes no further substep
  after_end : (k limit : ℕ) (x : End) → k ≤ limit → runs (replicate k q₀) (on (started q₀ y₀)) ≡ out x → runs (replicate limit q₀) (on (started q₀ y₀)) ≡ out x
  after_end k limit x l e =
      let n : limit ≡ k + (limit - k) = omega (arith, l) in
      ap (λ (m : ℕ). runs (replicate m q₀) (on (started q₀ y₀))) n
      ∙ ap (λ (ps : List Setting). runs ps (on (started q₀ y₀))) (replicate_more k (limit - k) q₀)
      ∙ runs_append (replicate k q₀) (replicate (limit - k) q₀) (on (started q₀ y₀))
      ∙ ap (runs (replicate (limit - k) q₀)) e
      ∙ runs_over (replicate (limit - k) q₀) x

  -- ---- the k-th step: its call is that of the substep that leads to st
  module _ (tol : Float) (t : State) (i : Input) (unchanged : Unchanged o j i) (k : ℕ) (some : 0 < k) (most : k ≤ o.max_substeps) (passes : Pieces o j (length i.output) (length i.memory)) where
    abbrev s₁ : PausedRun
    s₁ = standing_as o j f tol (on t)

    abbrev limit : ℕ
    limit = o.max_substeps

    sound_with : (n : ℕ) → 0 < n → n ≤ limit → Sound ≡ first (job_checks (limited o n) j i.output i.memory)
    sound_with n l m =
        let bounded = few o j (length i.output) (length i.memory) (together o j (length i.output) (length i.memory) passes) in
        together (limited o n) j (length i.output) (length i.memory) (with_limit o j n (length i.output) (length i.memory) l (le_trans m bounded) passes)

    abbrev left_in : Turn State End → PausedCall StepAnswer
    left_in st = after_substep s₁ i st

    output_is : (st : Turn State End) → (left_in st).output ≡ window 0 (rows j) (scale f.up (field_after st))
    unfolding after_substep
    output_is st = ap (λ (x : Job). window 0 (rows x) (scale f.up (field_after st))) unchanged.job

    memory_is : (st : Turn State End) → (left_in st).memory ≡ cleared (need_of j o.m) i.memory
    unfolding after_substep
    memory_is st = ap (λ (x : Job). cleared (need_of x o.m) i.memory) unchanged.job

    -- the whole call with this limit, at which its run stands at x
    at_limit : (n : ℕ) (x : Turn State End) → 0 < n → n ≤ limit → runs (replicate n q₀) (on (started q₀ y₀)) ≡ x → undivided o j n i.output i.memory ≡ ended_whole i.memory x
    at_limit n x l m e = whole_call n i.output i.memory (sound_with n l m) ∙ ap (ended_whole i.memory) e

    -- where it goes on after the n-th
    goes_whole : (n : ℕ) (z : State) → 0 < n → n ≤ limit → runs (replicate n q₀) (on (started q₀ y₀)) ≡ on z
        → undivided o j n i.output i.memory ≡ ends (Refused SubstepLimit z.report.est_error) (left_in (on z)).output (left_in (on z)).memory
    unfolding spent back scaled_back after_run
    goes_whole n z l m e = at_limit n (on z) l m e ∙ (λ a. ends (Refused SubstepLimit z.report.est_error) (sym (output_is (on z)) a) (sym (memory_is (on z)) a))

    finishes_whole : (z : State) → runs (replicate k q₀) (on (started q₀ y₀)) ≡ out (finished z)
        → undivided o j limit i.output i.memory ≡ ends (Ok (relative_report z.report (euclidean y₀))) (left_in (out (finished z))).output (left_in (out (finished z))).memory
    unfolding spent back scaled_back after_run
    finishes_whole z e =
        at_limit limit (out (finished z)) (le_trans some most) (omega arith) (after_end k limit (finished z) most e)
        ∙ (λ a. ends (Ok (relative_report z.report (euclidean y₀))) (sym (output_is (out (finished z))) a) (sym (memory_is (out (finished z))) a))

    fails_whole : (r : Reason) (x : Float) (z : State) → runs (replicate k q₀) (on (started q₀ y₀)) ≡ out (refused r x z)
        → undivided o j limit i.output i.memory ≡ ends (Refused r x) (left_in (out (refused r x z))).output (left_in (out (refused r x z))).memory
    unfolding spent back scaled_back after_run
    fails_whole r x z e =
        at_limit limit (out (refused r x z)) (le_trans some most) (omega arith) (after_end k limit (refused r x z) most e)
        ∙ (λ a. ends (Refused r x) (sym (output_is (out (refused r x z))) a) (sym (memory_is (out (refused r x z))) a))

    as_by : (now : Float) (st : Turn State End) → runs (replicate k q₀) (on (started q₀ y₀)) ≡ st → ((reached st).report.substeps ≤ k) → AsWhole o j k i.output i.memory (left_in st) (verdict s₁ now st)
    unfolding verdict
    as_by now (on z) e c = go (ltb z.report.substeps limit) refl
      where
        go : (b : Bool) → ltb z.report.substeps limit ≡ b → AsWhole o j k i.output i.memory (left_in (on z)) (if b then Ok (moved s₁ now z z.report false) else StepRefused SubstepLimit z.report.est_error (moved s₁ now z z.report true))
        go true q = ((λ _. goes_whole k z some most e), (λ h. absurd (true≢false (sym h))))
        go false q =
            let n : k ≡ limit = let l = ltb-false z.report.substeps limit q in omega (arith, l, c, most) in
            goes_whole limit z (le_trans some most) (omega arith) (ap (λ (m : ℕ). runs (replicate m q₀) (on (started q₀ y₀))) (sym n) ∙ e)
    as_by now (out (finished z)) e c = ((λ h. absurd (true≢false h)), (λ _. finishes_whole z e))
    as_by now (out (refused r x z)) e c = fails_whole r x z e

-- ---- on a run as it was left, unchanged
module _ {o : KrylovPhiOptions} {j : Job} {p : Past} (l : LeftSame o j p) where
  -- the job's own checks are the step's
  same_checks : (i : Input) → Unchanged o j i → first (step_job_checks o p i) ≡ first (job_checks o j i.output i.memory)
  same_checks i h = λ k. first (job_checks (with_tol o ((ap (in_force i.tolerance) (one_setting l).0 ∙ h.tol) k)) (h.job k) i.output i.memory)

  as_own : (i : Input) → Unchanged o j i → p.run.ended ≡ false → checked p i ≡ first (job_checks o j i.output i.memory)
  as_own i h e = own (left_same l) i e (ap rows h.job, ap (λ (x : Job). x.count) h.job) (ap own_eta h.job) ∙ same_checks i h

  not_ended : (i : Input) → Steps p i → p.run.ended ≡ false
  not_ended i e = sym (over_left (left_same l)) ∙ (passed p.run (length p.field) i e).not_over

  as_whole : (i : Input) → Steps p i → Unchanged o j i → AsWhole o j (suc (length p.settings)) i.output i.memory (call_on p i) (call_on p i).answer
  unfolding over
  as_whole i e unchanged = elim (left_stands (left_same l)) [
    | inl h ↦ (let r : over p.run ≡ true = ap over h.run in absurd (true≢false (sym r ∙ (passed p.run (length p.field) i e).not_over)))
    | inr h ↦ go h
  ]
    where
      k : ℕ
      k = suc (length p.settings)

      ps : Pieces o j (length i.output) (length i.memory)
      ps = pieces o j (length i.output) (length i.memory) (e ∙ as_own i unchanged (not_ended i e))

      q : Setting
      q = made_with o j (in_force i.tolerance p.tol) i.job

      go : Moving o j p → AsWhole o j k i.output i.memory (call_on p i) (call_on p i).answer
      go h =
          let f = h.factors in
          let m = made o j f i h.stood e in
          let t = m.0 in
          let now = in_force i.tolerance p.tol in
          let one : q ≡ made_with o j o.tol j = made_same o j p.tol i (one_setting l).0 unchanged in
          let q₀ = first_is o j f h.by (length i.output) (length i.memory) (together o j (length i.output) (length i.memory) ps) in
          let all : p.settings ++ (q ∷ []) ≡ replicate k (whole o j).first =
          (λ a. (one_setting l).1 a ++ (one a ∷ [])) ∙ replicate_one (length p.settings) (made_with o j o.tol j) ∙ ap (replicate k) (sym q₀) in
          let u = run_with o j f (p.settings ++ (q ∷ [])) in
          let n : length (p.settings ++ (q ∷ [])) ≡ k = ap length all ∙ length-replicate k (whole o j).first in
          let c : (reached (substep q t)).report.substeps ≤ k =
          le_trans (le_of_eq (ap (λ (z : Turn State End). (reached z).report.substeps) (sym m.1.status) ∙ (run_recorded u).substeps)) (le_trans (trace_few u.settings _) (le_of_eq n)) in
          subst (λ (x : PausedCall StepAnswer). AsWhole o j k i.output i.memory x x.answer) (sym (sound_call p i e ∙ m.1.call))
          (subst (AsWhole o j k i.output i.memory (after_substep (standing_as o j f p.tol (on t)) i (substep q t))) (sym (answer_is o j f p.tol t i (substep q t)))
          (as_by o j f h.by p.tol t i unchanged k (omega arith) m.1.now.below ps now (substep q t) (ap (λ (x : List Setting). runs x (on (started (whole o j).first (whole o j).field))) (sym all) ∙ m.1.status) c))

  few_steps : length p.settings ≤ o.max_substeps
  few_steps = elim (left_stands (left_same l)) [
    | inl h ↦ le_trans (le_of_eq (ap length h.settings)) zero-le
    | inr h ↦ h.stood.few
  ]

  goes_on : p.run.ended ≡ false → (i : Input) → Served o j i → Steps p i
  unfolding dimension clamp_m
  goes_on e i h =
      let s = left_sound (left_same l) in
      let a = pieces o j (length s.0) (length s.1) s.2 in
      together o j (length i.output) (length i.memory) (with_slices o j (length s.0) (length s.1) (length i.output) (length i.memory) h.output h.memory a) ∙ sym (as_own i h.unchanged e)

  -- with as many settings as the limit it has ended
  at_most : o.max_substeps ≤ length p.settings → p.run.ended ≡ true
  at_most n = elim (left_stands (left_same l)) [
    | inl h ↦ ap (λ (r : PausedRun). r.ended) h.run
    | inr h ↦ ap (λ (r : PausedRun). r.ended) h.stood.run ∙ spent_all (status_of (run_with o j h.factors p.settings)) (run_kept (run_with o j h.factors p.settings))
  ]
    where
      spent_all : (st : Turn State End) → Kept Going Over (length p.settings) st → ended_by o.max_substeps st ≡ true
      spent_all (on z) k = ap not (le-ltb z.report.substeps o.max_substeps (let c = k.0 in omega (arith, c, n)))
      spent_all (out z) k = refl

all_ended : {o : KrylovPhiOptions} {j : Job} {p : Past} → Left o j p → (is : List Input) → p.run.ended ≡ true → (all_next o j p is).run.ended ≡ true
all_ended l [] h = h
all_ended {o = o} {j = j} {p = p} l (i ∷ is) h = all_ended {o = o} {j = j} {p = next o j p i} (history.stepped l i) is (stays_ended l i h)

one_longer : (o : KrylovPhiOptions) (j : Job) (p : Past) (i : Input) → Steps p i → length (next o j p i).settings ≡ suc (length p.settings)
one_longer o j p i e =
    let q = made_with o j (in_force i.tolerance p.tol) i.job in
    ap (λ (c : Checked). length (p.settings ++ one_more c q)) (sym e) ∙ length-append p.settings (q ∷ []) ∙ add-one (length p.settings)

ends_by : {o : KrylovPhiOptions} {j : Job} {p : Past} → LeftSame o j p → (is : List Input) → Each (Served o j) is → o.max_substeps ≤ length is + length p.settings → (all_next o j p is).run.ended ≡ true
ends_by l [] h n = at_most l (le_trans n (omega arith))
ends_by {o} {j} {p} l (i ∷ is) h n = go p.run.ended refl (λ k m. ends_by {p = next o j p i} k is h.1 m)
  where
    go : (b : Bool) → p.run.ended ≡ b → (LeftSame o j (next o j p i) → o.max_substeps ≤ length is + length (next o j p i).settings → (all_next o j (next o j p i) is).run.ended ≡ true)
        → (all_next o j (next o j p i) is).run.ended ≡ true
    go true e rest = all_ended (history.stepped (left_same l) i) is (stays_ended (left_same l) i e)
    go false e rest =
        let s = goes_on l e i h.0 in
        rest (same.stepped l i (λ _. h.0.unchanged)) (let k = one_longer o j p i s in omega (arith, k, n))

pub undivided_run : {o : KrylovPhiOptions} {j : Job} {p : Past} → LeftSame o j p → UndividedClaim o j p
undivided_run {o} {j} {p} l = record { as_whole = as_whole l; few = few_steps l; goes_on = goes_on l; ends_by = λ is h n. ends_by l is h (le_trans n (omega arith)) }

-- ---- an all-zero start
pub zero_whole : (o : KrylovPhiOptions) (j : Job) (output memory field : List Float) → ZeroWhole o j output memory field
unfolding phi_combination_krylov combination_run_krylov unless_refused expv expv_by idle after_run dimension clamp_m
zero_whole o j output memory field s e z =
    let a = the_start o j output memory field in
    let sound : Sound ≡ first (job_checks o j output memory) = (a.only_accepted e).0 in
    let h = a.idle e z in
    rw (← sound, zeros_none (values_of j) z) (λ k. ends (Ok (sym h.unstepped.report k)) (sym h.output k) (sym h.cleared_memory k))
