-- A paused run as it was left is where its substeps so far stand, each with its own setting. Assumes nothing.
use Rattle.std.specs.Prelude.{if◌then◌else◌, Option, Some, None}
use mathlib.Core.Path.{◌≡◌, refl, sym, ap, ◌∙◌, subst}
use mathlib.Core.Logic.{◌⊎◌, inl, inr}
use mathlib.Core.Bool.{Bool, true, false, not, true≢false}
use mathlib.Core.List.{List, [], ◌∷◌, ◌++◌, append-nil}
use Prim.Native.Nat.{ℕ, ◌+◌, ◌-◌, ◌*◌, ◌≤◌, ◌<◌, zero-le}
use native.Mathlib.Omega.{arith}
use borrow.Author.Tests.{eqb-true, ltb-true, lt-ltb, not-false}
use lib.Dec.{ltb, eqb}
use lib.ListN.{length, replicate, length-append}
use lib.Ieee.{Float}
use Rattle.lists.specs.Walk.{Turn, on, out}
use Rattle.lists.proofs.Walk.{Kept}
use Rattle.doubles.specs.F64.{◌⊗◌, +0}
use Rattle.vectors.specs.Vectors.{scale}
use Rattle.pow2.specs.Pow2.{pow2_scale}
use Rattle.pow2.specs.declared.Scale.{Scale}
use Rattle.checks.specs.First.{first, Checked, same}
use Rattle.checks.proofs.First.{ok_is, sound_cons, sound_append}
use Rattle.general_operator.proofs.Sound.{or_false}
use Rattle.general_operator.specs.Csr.{row_sum_norm}
use Rattle.combination.specs.Call.{cleared}
use Rattle.combination.specs.Combination.{further, combination_operator}
use Rattle.combination.specs.Checks.{time_checks, length_checks, count_checks, vector_checks_by}
use Rattle.gram_schmidt.specs.Basis.{Setting, len, Basis, norm2}
use Rattle.trial_steps.specs.Trials.{Trying, Tried, accepted, stuck}
use Rattle.krylov_advance.specs.Run.{State, End, finished, refused, applied_of, columns_of, advance, unfinished, standing, settle, substep, started, first_length, empty_report, relative_report, clamp_m, setting}
use Rattle.krylov_advance.specs.declared.KrylovPhiReport.{KrylovPhiReport}
use Rattle.krylov_job.specs.KrylovCall.{bound, dimension, krylov_checks_by, krylov_checks}
use Rattle.krylov_job.specs.declared.KrylovPhiOptions.{KrylovPhiOptions}
use Rattle.paused_run.specs.Paused.{Job, rows, degree, PausedCall, setting_of, need_of, idle_run, first_run, StartAnswer, begun, start, StepAnswer, StepRefused, Input, tol_in, over, other_checks, step_checks, resumed, moved, verdict, field_after, substep_of, after_substep, step_unless, step}
use Rattle.paused_run.specs.declared.PausedRun.{PausedRun}
use Rattle.demand_3.specs.Trace.{Run, runs, scaled, allowed, run_by, run_of, status_of}
use Rattle.demand_3.specs.Krylov.{Each, euclidean}
use Rattle.demand_3.specs.Demand3.{operator_of}
use Rattle.demand_3.proofs.Runs.{runs_next}
use Rattle.demand_3.proofs.Counts.{reached, basis_of, trials_of, each_append, run_recorded}
use Rattle.demand_3.proofs.Limit.{Going, Over, run_kept}
use Rattle.paused_claims.specs.History.{whole, values_in, dimension_in, own_eta, made_with, Past, call_on, checked, run_in, in_force, tol_kept, one_more, at_start, next, Left}
use Rattle.paused_claims.specs.History as history
use Rattle.paused_claims.specs.Start.{values_of, job_checks}
use Rattle.paused_claims.proofs.Known.{some_limit, long}
use Rattle.paused_claims.proofs.Start.{started_is, the_start}
use Rattle.checks.specs.Reasons.{Sound}
use Rattle.std.specs.Prelude.{Ok, Err}
use Rattle.checks.specs.declared.Reason.TheVariants.{SubstepLimit, LengthsRejected, NoInnerPlan}
use Rattle.checks.specs.declared.Reason.{Reason}

-- ---- by where a run stands
abbrev pub report_by : Float → Turn State End → KrylovPhiReport
report_by norm (on s) = s.report
report_by norm (out (finished s)) = relative_report s.report norm
report_by norm (out (refused k x s)) = s.report

abbrev pub ended_by : ℕ → Turn State End → Bool
ended_by limit (on s) = not (ltb s.report.substeps limit)
ended_by limit (out e) = true

-- a substep that is not accepted leaves the state, by 28 or 29
abbrev pub Refuses : State → Turn State End → Type 0
Refuses s (on t) = Unit {0}
Refuses s (out (finished t)) = Unit {0}
Refuses s (out (refused k x t)) = (t ≡ s) × ((k ≡ LengthsRejected) ⊎ (k ≡ NoInnerPlan))

standing_refuses : (s t : State) (b : Bool) → Refuses s (standing t b)
standing_refuses s t true = tt
standing_refuses s t false = tt

settle_refuses : (p : Setting) (s : State) (b : Basis) (o : Turn Trying Tried) → Refuses s (settle p s b o)
unfolding settle
settle_refuses p s b (on t) = (refl, inl refl)
settle_refuses p s b (out (stuck arg)) = (refl, inr refl)
settle_refuses p s b (out (accepted r t f err)) = let n = advance p s (applied_of b) (columns_of b) r t f err in standing_refuses s n (unfinished n)

pub substep_refuses : (p : Setting) (s : State) → Refuses s (substep p s)
unfolding substep
substep_refuses p s = settle_refuses p s (basis_of p s) (trials_of p s)

pub tol_is : (t : Option Float) (s : PausedRun) → tol_in t s ≡ in_force t s.tol
tol_is None s = refl
tol_is (Some x) s = refl

pub each_one : (P : Setting → Type 0) (ps : List Setting) (p : Setting) → Each P ps → P p → Each P (ps ++ (p ∷ []))
each_one P ps p h i = each_append P ps (p ∷ []) h (i, tt)

pub reached_field : (st : Turn State End) → field_after st ≡ (reached st).y
reached_field (on t) = refl
reached_field (out (finished t)) = refl
reached_field (out (refused k x t)) = refl

-- ---- what the checks of a step tell: the run has not ended, and the job has its n and count
pub record Passed (s : PausedRun) (i : Input) : Type 0 where
  pub not_over : over s ≡ false
  pub same_n : rows i.job ≡ s.n
  pub same_count : i.job.count ≡ s.count

pub passed : (s : PausedRun) (y : ℕ) (i : Input) → Sound ≡ first (step_checks s y i) → Passed s i
unfolding step_checks krylov_checks_by vector_checks_by other_checks
passed s y i e =
    let a = sound_cons _ _ _ _ e in
    let k = sound_append _ _ a.1 in
    let g = sound_append i.job.g.checks _ k.0 in
    let v = sound_append _ _ g.1 in
    let c = sound_append (count_checks i.job.count) _ v.0 in
    let t = sound_append (time_checks i.job.tau) _ c.1 in
    let l = sound_append _ _ t.1 in
    let b = sound_append (length_checks (length i.output) (rows i.job) (length i.job.w) (i.job.count * rows i.job)) _ l.0 in
    let o = or_false (not (eqb (rows i.job) s.n)) (not (eqb i.job.count s.count)) (sound_cons _ _ _ _ b.1).0 in
    record { not_over = a.0; same_n = eqb-true _ _ (not-false _ o.0); same_count = eqb-true _ _ (not-false _ o.1) }

-- ---- a run that is not idle
module _ (o : KrylovPhiOptions) (j : Job) (f : Scale) where
  abbrev pub first_norm : Float
  first_norm = euclidean (whole o j).field

  abbrev pub standing_with : Float → Turn State End → Bool → PausedRun
  standing_with tol st ended =
      record {
        time = (reached st).control.time;
        next = (reached st).control.next;
        report = report_by first_norm st;
        eta = own_eta j;
        factors = f;
        norm = first_norm;
        tol = tol;
        m = o.m;
        limit = o.max_substeps;
        n = rows j;
        count = j.count;
        ended = ended;
      }

  abbrev pub standing_as : Float → Turn State End → PausedRun
  standing_as tol st = standing_with tol st (ended_by o.max_substeps st)

  -- with these settings so far
  abbrev pub run_with : List Setting → Run
  run_with ps = record { first = (whole o j).first; settings = ps; field = (whole o j).field; prescale = (whole o j).prescale }

  pub record Stood (s : PausedRun) (y : List Float) (tol : Float) (ps : List Setting) : Type 0 where
    pub each_m : Each (λ p. p.m ≡ dimension_in o j) ps
    pub each_long : Each (λ p. len p ≡ values_in j) ps
    pub few : length ps ≤ o.max_substeps
    pub run : s ≡ standing_as tol (status_of (run_with ps))
    pub field : y ≡ (reached (status_of (run_with ps))).y

  -- where it goes on, all of its substeps are accepted and the state holds its field's norm
  pub record Goes (ps : List Setting) (s : State) : Type 0 where
    pub status : status_of (run_with ps) ≡ on s
    pub counted : s.report.substeps ≡ length ps
    pub norm : s.control.beta ≡ norm2 s.y
    pub below : length ps < o.max_substeps

  -- a step that is not refused early is of such a run
  pub goes : {s : PausedRun} {y : List Float} {tol : Float} {ps : List Setting} → Stood s y tol ps → over s ≡ false → (t : State) × Goes ps t
  unfolding over
  goes {s} {y} {tol} {ps} h e =
      go (status_of (run_with ps)) refl (run_kept (run_with ps)) ((run_recorded (run_with ps)).norm ∙ ap norm2 (sym (run_recorded (run_with ps)).field))
      (sym (ap (λ (r : PausedRun). r.ended) h.run) ∙ (or_false s.ended _ e).0)
    where
      go : (st : Turn State End) → status_of (run_with ps) ≡ st → Kept Going Over (length ps) st → (reached st).control.beta ≡ norm2 (reached st).y → ended_by o.max_substeps st ≡ false → (t : State) × Goes ps t
      go (on t) q k n b = (t, record { status = q; counted = k.0; norm = n; below = let l = ltb-true t.report.substeps o.max_substeps (not-false _ b) in omega (arith, l, k.0) })
      go (out x) q k n b = absurd (true≢false b)

  -- ---- one step
  setting_is : (i : Job) (tol : Float) → rows i ≡ rows j → i.count ≡ j.count → setting_of i (own_eta j) first_norm tol o.m ≡ made_with o j tol i
  unfolding setting_of dimension clamp_m
  setting_is i tol e g =
      ap (λ (M : ℕ). setting (combination_operator i.g.matrix (further (rows i) i.w) i.tau (degree i) (own_eta j)) i.tau (bound i.tau (row_sum_norm i.g.matrix)) (tol ⊗ first_norm) M)
      (λ k. dimension (e k) (g k - 1) o.m)

  resumed_is : (tol : Float) (t : State) → t.control.beta ≡ norm2 t.y → resumed (standing_as tol (on t)) t.y ≡ t
  unfolding resumed
  resumed_is tol t e = rw (← e) refl

  pub substep_is : (tol : Float) (t : State) (i : Input) → t.control.beta ≡ norm2 t.y → Passed (standing_as tol (on t)) i
      → substep_of (standing_as tol (on t)) t.y i ≡ substep (made_with o j (in_force i.tolerance tol) i.job) t
  substep_is tol t i n p =
      let s = standing_as tol (on t) in
      (λ k. substep (setting_is i.job (tol_in i.tolerance s) p.same_n p.same_count k) (resumed_is tol t n k)) ∙ ap (λ (x : Float). substep (made_with o j x i.job) t) (tol_is i.tolerance s)

  -- the run that it hands back
  pub verdict_is : (tol now : Float) (t : State) (st : Turn State End) → Refuses t st
      → run_in (verdict (standing_as tol (on t)) now st) ≡ standing_as (tol_kept Sound (verdict (standing_as tol (on t)) now st) tol now) st
  unfolding verdict
  verdict_is tol now t (on u) h = go (ltb u.report.substeps o.max_substeps)
    where
      pick : Bool → StepAnswer
      pick b = if b then Ok (moved (standing_as tol (on t)) now u u.report false) else StepRefused SubstepLimit u.report.est_error (moved (standing_as tol (on t)) now u u.report true)

      go : (b : Bool) → run_in (pick b) ≡ standing_with (tol_kept Sound (pick b) tol now) (on u) (not b)
      go true = refl
      go false = refl
  verdict_is tol now t (out (finished u)) h = refl
  verdict_is tol now t (out (refused k x u)) (e, n) =
      let z : same k SubstepLimit ≡ false = elim n [ inl a ↦ ap (λ (r : Reason). same r SubstepLimit) a | inr a ↦ ap (λ (r : Reason). same r SubstepLimit) a ] in
      ap (λ (b : Bool). standing_as (if b then now else tol) (out (refused k x t))) (sym z) ∙ ap (λ (w : State). standing_as (if same k SubstepLimit then now else tol) (out (refused k x w))) (sym e)

  -- what a step leaves stands again
  made_long : (i : Job) (tol : Float) → rows i ≡ rows j → i.count ≡ j.count → len (made_with o j tol i) ≡ values_in j
  unfolding combination_operator
  made_long i tol e g = λ k. e k + (g k - 1)

  -- the call of a step that is not refused early
  pub record Made (s : PausedRun) (y : List Float) (tol : Float) (ps : List Setting) (i : Input) (t : State) : Type 0 where
    pub now : Goes ps t
    pub same_n : rows i.job ≡ rows j
    pub same_count : i.job.count ≡ j.count
    pub run : s ≡ standing_as tol (on t)
    pub field : y ≡ t.y
    pub status : status_of (run_with (ps ++ (made_with o j (in_force i.tolerance tol) i.job ∷ []))) ≡ substep (made_with o j (in_force i.tolerance tol) i.job) t
    pub call : step_unless Sound s y i ≡ after_substep (standing_as tol (on t)) i (substep (made_with o j (in_force i.tolerance tol) i.job) t)

  pub made : {s : PausedRun} {y : List Float} {tol : Float} {ps : List Setting} (i : Input) → Stood s y tol ps → Sound ≡ first (step_checks s (length y) i) → (t : State) × Made s y tol ps i t
  unfolding step_unless
  made {s} {y} {tol} {ps} i h e =
      let a = passed s (length y) i e in
      let g = goes h a.not_over in
      let t = g.0 in
      let p = made_with o j (in_force i.tolerance tol) i.job in
      let r : s ≡ standing_as tol (on t) = h.run ∙ ap (standing_as tol) g.1.status in
      let q : y ≡ t.y = h.field ∙ ap (λ (st : Turn State End). (reached st).y) g.1.status in
      let b : Passed (standing_as tol (on t)) i = subst (λ (x : PausedRun). Passed x i) r a in (
        t,
        record {
          now = g.1;
          same_n = b.same_n;
          same_count = b.same_count;
          run = r;
          field = q;
          status = runs_next ps p _ t g.1.status;
          call = (λ k. after_substep (r k) i (substep_of (r k) (q k) i)) ∙ ap (after_substep (standing_as tol (on t)) i) (substep_is tol t i g.1.norm b);
        },
      )

  -- its answer
  pub answer_is : (tol : Float) (t : State) (i : Input) (st : Turn State End) → (after_substep (standing_as tol (on t)) i st).answer ≡ verdict (standing_as tol (on t)) (in_force i.tolerance tol) st
  unfolding after_substep
  answer_is tol t i st = ap (λ (x : Float). verdict (standing_as tol (on t)) x st) (tol_is i.tolerance (standing_as tol (on t)))

  pub stands_next : {s : PausedRun} {y : List Float} {tol : Float} {ps : List Setting} (i : Input) → Stood s y tol ps → (c : Checked) → c ≡ first (step_checks s (length y) i)
      → Stood (run_in (step_unless c s y i).answer) (step_unless c s y i).field (tol_kept c (step_unless c s y i).answer tol (in_force i.tolerance tol)) (ps ++ one_more c (made_with o j (in_force i.tolerance tol) i.job))
  stands_next {s} {y} {tol} {ps} i h (Err r) e = unfold step_unless in subst (λ (l : List Setting). Stood s y tol l) (sym (append-nil ps)) h
  stands_next {s} {y} {tol} {ps} i h (Ok _) e =
      let m = made i h e in
      let t = m.0 in
      let now = in_force i.tolerance tol in
      let p = made_with o j now i.job in
      let one = length-append ps (p ∷ []) in
      let below = m.1.now.below in
      subst (λ (c : PausedCall StepAnswer). Stood (run_in c.answer) c.field (tol_kept Sound c.answer tol now) (ps ++ (p ∷ []))) (sym m.1.call)
      (subst (λ (a : StepAnswer). Stood (run_in a) (after_substep (standing_as tol (on t)) i (substep p t)).field (tol_kept Sound a tol now) (ps ++ (p ∷ []))) (sym (answer_is tol t i (substep p t)))
      (record {
        each_m = each_one _ ps p h.each_m refl;
        each_long = each_one _ ps p h.each_long (made_long i.job now m.1.same_n m.1.same_count);
        few = omega (arith, one, below);
        run = verdict_is tol now t (substep p t) (substep_refuses p t) ∙ ap (standing_as (tol_kept Sound (verdict (standing_as tol (on t)) now (substep p t)) tol now)) (sym m.1.status);
        field = unfold after_substep in reached_field (substep p t) ∙ ap (λ (st : Turn State End). (reached st).y) (sym m.1.status);
      }))

  -- ---- the start
  pub whole_is : pow2_scale (values_of j) ≡ Some f
      → whole o j ≡ (let y = scale f.down (values_of j) in
      let p = setting (operator_of j.g j.tau j.count j.w) j.tau (bound j.tau (row_sum_norm j.g.matrix)) (o.tol ⊗ norm2 y) (clamp_m o.m (length (values_of j))) in
      record { first = p; settings = replicate o.max_substeps p; field = y; prescale = Some f })
  unfolding run_of run_by scaled allowed
  whole_is e = rw e refl

  -- as it is handed back by a start whose whole run is u
  abbrev first_of : Run → ℕ → Bool → PausedRun
  first_of u M ended =
      record {
        time = +0;
        next = first_length M u.first.anorm u.first.tol (norm2 u.field);
        report = empty_report;
        eta = own_eta j;
        factors = f;
        norm = norm2 u.field;
        tol = o.tol;
        m = o.m;
        limit = o.max_substeps;
        n = rows j;
        count = j.count;
        ended = ended;
      }

  start_is : standing_as o.tol (status_of (run_with [])) ≡ first_of (whole o j) (whole o j).first.m (not (ltb 0 o.max_substeps))
  unfolding runs started norm2
  start_is = refl

  pub start_stands : (output memory : ℕ) → Sound ≡ first (krylov_checks j.g j.tau j.count j.w o output memory) → pow2_scale (values_of j) ≡ Some f
      → Stood (first_run o j f (norm2 (scale f.down (values_of j)))) (scale f.down (values_of j)) o.tol []
  start_stands output memory sound e =
      let w = whole_is e in
      record {
        each_m = tt;
        each_long = tt;
        few = zero-le;
        run = sym (start_is ∙ (λ k. first_of (w k) (w k).first.m (not (lt-ltb 0 o.max_substeps (some_limit o j output memory sound) k))) ∙ ap (λ (M : ℕ). first_of (w 1) M false) (unfold dimension in ap (clamp_m o.m) (long o j output memory sound)));
        field = unfold runs started in ap (λ (u : Run). u.field) (sym w);
      }

-- ---- a run as it was left
-- an all-zero start
pub record Resting (o : KrylovPhiOptions) (j : Job) (p : Past) : Type 0 where
  pub none : pow2_scale (values_of j) ≡ None
  pub run : p.run ≡ idle_run o j
  pub field : p.field ≡ values_of j
  pub tol : p.tol ≡ o.tol
  pub settings : p.settings ≡ []

-- any other
pub record Moving (o : KrylovPhiOptions) (j : Job) (p : Past) : Type 0 where
  pub factors : Scale
  pub by : pow2_scale (values_of j) ≡ Some factors
  pub stood : Stood o j factors p.run p.field p.tol p.settings

-- its start passed every check
pub left_sound : {o : KrylovPhiOptions} {j : Job} {p : Past} → Left o j p → (output memory : List Float) × (Sound ≡ first (job_checks o j output memory))
left_sound {o} {j} (history.started output memory field e) = (output, memory, ((the_start o j output memory field).only_accepted e).0)
left_sound (history.stepped l i) = left_sound l

pub same_run : {s t : PausedRun} → ◌≡◌ {A = StartAnswer} (Ok s) (Ok t) → s ≡ t
same_run e = ok_is e

at_start_stands : (o : KrylovPhiOptions) (j : Job) (output memory field : List Float) {s : PausedRun} → (start o j output memory field).answer ≡ Ok s → (f : Option Scale) → pow2_scale (values_of j) ≡ f
    → Resting o j (at_start o s (start o j output memory field).field) ⊎ Moving o j (at_start o s (start o j output memory field).field)
unfolding begun
at_start_stands o j output memory field {s} e None h =
    let c = started_is o j output memory field e ∙ ap (begun o j (values_of j) (cleared (need_of j o.m) memory)) h in
    inl (record { none = h; run = same_run (sym e ∙ ap (λ (x : PausedCall StartAnswer). x.answer) c); field = ap (λ (x : PausedCall StartAnswer). x.field) c; tol = refl; settings = refl })
at_start_stands o j output memory field {s} e (Some f) h =
    let c = started_is o j output memory field e ∙ ap (begun o j (values_of j) (cleared (need_of j o.m) memory)) h in
    let r = same_run (sym e ∙ ap (λ (x : PausedCall StartAnswer). x.answer) c) in
    let y = ap (λ (x : PausedCall StartAnswer). x.field) c in
    let a = (the_start o j output memory field).only_accepted e in
    inr (record { factors = f; by = h; stood = subst (λ (x : PausedRun). Stood o j f x (start o j output memory field).field o.tol []) (sym r) (subst (λ (x : List Float). Stood o j f (first_run o j f (norm2 (scale f.down (values_of j)))) x o.tol []) (sym y) (start_stands o j f (length output) (length memory) a.0 h)) })

resting_next : (o : KrylovPhiOptions) (j : Job) (p : Past) (i : Input) → Resting o j p → Resting o j (next o j p i)
unfolding step step_unless over
resting_next o j p i h = go (checked p i) refl
  where
    go : (c : Checked) → c ≡ checked p i → Resting o j (record { began = p.began; run = run_in (step_unless c p.run p.field i).answer; field = (step_unless c p.run p.field i).field; inputs = p.inputs ++ (i ∷ []); answers = p.answers ++ ((call_on p i).answer ∷ []); tol = tol_kept c (step_unless c p.run p.field i).answer p.tol (in_force i.tolerance p.tol); settings = p.settings ++ one_more c (made_with o j (in_force i.tolerance p.tol) i.job) })
    go (Err r) e = record { none = h.none; run = h.run; field = h.field; tol = h.tol; settings = append-nil p.settings ∙ h.settings }
    go (Ok _) e =
        let r : over p.run ≡ true = ap over h.run in
        absurd (true≢false (sym r ∙ (passed p.run (length p.field) i e).not_over))

pub left_stands : {o : KrylovPhiOptions} {j : Job} {p : Past} → Left o j p → Resting o j p ⊎ Moving o j p
unfolding step
left_stands {o} {j} (history.started output memory field e) = at_start_stands o j output memory field e (pow2_scale (values_of j)) refl
left_stands {o} {j} (history.stepped {p} l i) = elim (left_stands l) [
  | inl h ↦ inl (resting_next o j p i h)
  | inr h ↦ inr (record { factors = h.factors; by = h.by; stood = stands_next o j h.factors i h.stood (checked p i) refl })
]
