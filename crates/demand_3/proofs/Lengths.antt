-- The lengths of a run and its time: no length tried is above the rounded 1 - time, none that is NaN is accepted, and the time, from +0, stays below 1 until it is 1. Assumes nothing.
use mathlib.Core.Path.{◌≡◌, refl, sym, ap, ◌∙◌, subst}
use mathlib.Core.Logic.{◌⊎◌, inl, inr}
use mathlib.Core.Bool.{Bool, true, false, not, ◌&&◌, cond, true≢false}
use mathlib.Core.List.{List, [], ◌∷◌, ◌++◌, map}
use Prim.Native.Nat.{ℕ, zero, suc, ◌+◌, ◌≤◌}
use lib.Dec.{T}
use lib.Ieee.{Float, nan, inf, fin, binary64, mul, le, lt, eq, fits, of_bits}
use lib.Ieee.Fits.{add-fits, sub-fits, and_r}
use lib.Ieee.Bits.{is_true}
use Rattle.lists.specs.Walk.{Turn, on, out, walk}
use Rattle.doubles.specs.F64.{◌⊕◌, ◌⊖◌, ◌⩽◌, ◌⋖◌, +0, 1f, min_num, replaced, nonneg}
use Rattle.doubles.proofs.Order.{nonneg_number, nonneg_sign}
use Rattle.doubles.proofs.Total.{lt_numbers, ⩽_refl, ⩽_trans, ⩽_or_⋖, ⩽_antisymm}
use Rattle.doubles.proofs.Extremes.{min_of_two}
use Rattle.doubles.proofs.Time.{one_fits, sum_step, rest_good, rest_above, above_zero, zero_good}
use Rattle.doubles.proofs.Signs.{Clear}
use Rattle.round2.proofs.Positive.{round2_above, round2_fits}
use Rattle.retry.specs.Retry.{accepts, retry}
use Rattle.retry.proofs.Length.{retry_above, retry_fits, retry_nan, retry_at_most}
use Rattle.trial_steps.proofs.Error.{error_clear}
use Rattle.hess_exp.specs.HessExp.{Small, unplanned, column, hess_exp_e1}
use Rattle.gram_schmidt.specs.Basis.{Setting, dim, Basis, breakdown, full, norm2, apply}
use Rattle.trial_steps.specs.declared.Estimate.{Estimate}
use Rattle.trial_steps.specs.Trials.{Trying, Tried, accepted, stuck, local_error, verdict, judge, try_step, exact_step, trials}
use Rattle.krylov_advance.specs.Run.{State, End, finished, refused, applied_of, columns_of, advance, unfinished, standing, settle, substep, first_length, started}
use Rattle.demand_3.specs.Trace.{Accepted, Attempt, accepted_in, made, runs, trace, lengths, tried_on, attempts, Run, status_of}
use Rattle.lists.proofs.Walk.{Kept, walk_keeps}
use Rattle.demand_3.specs.Krylov.{Each, Within, Step, Short, Landed, Begun, Based, Unended, Steps}
use Rattle.demand_3.proofs.Built.{own_first, own_based}
use Rattle.demand_3.proofs.Runs.{trace_over}
use Rattle.demand_3.proofs.Counts.{each_append, reached, Normed, basis_of, trials_of}
use Rattle.checks.specs.declared.Reason.TheVariants.{LengthsRejected, NoInnerPlan}

pub clear_of : (t : Float) → T (+0 ⋖ t) → T (nonneg t)
clear_of t h = above_zero t (is_true (+0 ⋖ t) h)

-- a length proposed: NaN, or above 0
abbrev pub Proposed : Float → Type 0
Proposed t = (t ≡ nan) ⊎ T (+0 ⋖ t)

-- a length to be tried: NaN, or above 0 and within what is left
abbrev pub Length : Float → Float → Type 0
Length x t = (t ≡ nan) ⊎ Step x t

-- ---- the lengths tried on one basis
-- the first: a NaN proposed is dropped
first_step : (next x : Float) → T (fits binary64 next) → Proposed next → Step x x → Step x (min_num next x)
unfolding min_num replaced
first_step next x f (inl e) w = subst (λ (z : Float). Step x (replaced z x (x ⋖ z))) (sym e) w
first_step next x f (inr h) w = elim (min_of_two next x (lt_numbers +0 next h).1 (lt_numbers +0 x w.above).1) [
  | inl m ↦ subst (Step x) (sym m.0) (record { fit = f; above = h; most = m.1 })
  | inr m ↦ subst (Step x) (sym m.0) w
]

-- no NaN passes the test
le_nan : (x : Float) → le x nan ≡ false
unfolding le lt eq
le_nan nan = refl
le_nan (inf s) = refl
le_nan (fin s m e) = refl

pub accepts_nan : (tol err : Float) → accepts tol nan err ≡ false
unfolding mul of_bits
accepts_nan tol err = le_nan err

accepted_step : (x tol t err : Float) → Length x t → accepts tol t err ≡ true → Step x t
accepted_step x tol t err (inl e) h = absurd (true≢false (sym h ∙ ap (λ (z : Float). accepts tol z err) e ∙ accepts_nan tol err))
accepted_step x tol t err (inr w) h = w

-- after a rejection
retry_length : (x : Float) → T (x ⩽ 1f) → (q : ℕ) (tol t err : Float) → Clear err → Length x t → accepts tol t err ≡ false → Length x (retry q tol t err)
retry_length x u q tol t err c (inl e) r = inl (ap (λ (z : Float). retry q tol z err) e ∙ retry_nan q tol err)
retry_length x u q tol t err c (inr w) r = elim (retry_at_most q tol t err w.fit (clear_of t w.above) (⩽_trans t x 1f w.most u) c r) [
  | inl e ↦ inl e
  | inr l ↦ elim (retry_above q tol t err) [
    | inl e ↦ inl e
    | inr h ↦ inr (record { fit = retry_fits q tol t err; above = h; most = ⩽_trans (retry q tol t err) t x l w.most })
  ]
]

module _ (x : Float) (own : Step x x) (u : T (x ⩽ 1f)) where
  abbrev pub Trial : ℕ → Trying → Type 0
  Trial i s = Length x s.t

  abbrev pub Chosen : ℕ → Tried → Type 0
  Chosen i (accepted r t f err) = Step x t
  Chosen i (stuck arg) = Unit {0}

  abbrev pub Trials : ℕ → Turn Trying Tried → Type 0
  Trials i o = Kept Trial Chosen i o

  verdict_trial : (p : Setting) (i : ℕ) (s : Trying) (f : List Float) (e : Estimate) (b : Bool) → Clear e.err → Length x s.t → accepts p.tol s.t e.err ≡ b → Trials i (verdict p s f e b)
  unfolding verdict
  verdict_trial p i s f e true c h q = accepted_step x p.tol s.t e.err h q
  verdict_trial p i s f e false c h q = retry_length x u e.order p.tol s.t e.err c h q

  judge_trial : (p : Setting) (beta avnorm : Float) (i : ℕ) (s : Trying) (f : Small) → Length x s.t → Trials i (judge p beta avnorm s f)
  unfolding judge
  judge_trial p beta avnorm i s (unplanned arg) h = tt
  judge_trial p beta avnorm i s (column f) h =
      let e = local_error p.m beta avnorm f in
      verdict_trial p i s f e (accepts p.tol s.t e.err) (error_clear p.m beta avnorm f) h refl

  pub try_trial : (p : Setting) (beta : Float) (h : List Float) (avnorm : Float) (i : ℕ) (s : Trying) → Trial i s → Trials (i + 1) (try_step p beta h avnorm i s)
  unfolding try_step
  try_trial p beta h avnorm i s l = judge_trial p beta avnorm (i + 1) s (hess_exp_e1 h (dim p) (dim p) s.t) l

  chosen_later : (i j : ℕ) (e : Tried) → i ≤ j → Chosen i e → Chosen j e
  chosen_later i j (accepted r t f err) l h = h
  chosen_later i j (stuck arg) l h = tt

  exact_trial : (beta hn : Float) (f : Small) → Trials 11 (exact_step beta hn x f)
  unfolding exact_step
  exact_trial beta hn (unplanned arg) = tt
  exact_trial beta hn (column f) = own

  pub trials_trial : (p : Setting) (beta next : Float) (b : Basis) → T (fits binary64 next) → Proposed next → Trials 11 (trials p beta next x b)
  unfolding trials
  trials_trial p beta next (breakdown b) f c = exact_trial beta b.hn (hess_exp_e1 b.columns.h (dim p) b.mb x)
  trials_trial p beta next (full b avnorm) f c = walk_keeps Trial Chosen (try_step p beta b.h avnorm) (try_trial p beta b.h avnorm) chosen_later 11 0 (on (record { rejections = 0; t = min_num next x })) (inr (first_step next x f c own))

-- ---- the time
-- the time is a double from +0 to 1, and below 1 the length proposed is NaN or above 0
pub record Timely (s : State) : Type 0 where
  pub time : Within 1f s.control.time
  pub next_fits : T (fits binary64 s.control.next)
  pub next_above : T (s.control.time ⋖ 1f) → Proposed s.control.next

-- what is left of a time below 1
rest_step : {t : Float} → Within 1f t → T (t ⋖ 1f) → Step (1f ⊖ t) (1f ⊖ t) × T (1f ⊖ t ⩽ 1f)
rest_step {t} w l =
    let r = rest_good t w.fit w.clear w.most in
    (record { fit = r.0; above = rest_above t w.fit l; most = ⩽_refl (1f ⊖ t) (nonneg_number (1f ⊖ t) r.2) }, r.3)

time_within : (t a : Float) → Within 1f t → Step (1f ⊖ t) a → Within 1f (t ⊕ a)
time_within t a w v =
    let r = sum_step t a w.fit w.clear w.most (clear_of a v.above) v.most in
    record { fit = add-fits binary64 t a; clear = r.0; most = r.1 }

advance_timely : (p : Setting) (s : State) (n : ℕ) (v : List (List Float)) (r : ℕ) (t : Float) (f : List Float) (err : Float) → Timely s → Step (1f ⊖ s.control.time) t → Timely (advance p s n v r t f err)
unfolding advance
advance_timely p s n v r t f err h w =
    let time = s.control.time ⊕ t in
    let k : Within 1f time = time_within s.control.time t h.time w in
    let d = +0 ⋖ err in
    record { time = k; next_fits = fit_by d (1f ⊖ time) (sub-fits binary64 1f time); next_above = λ l. above_by d (1f ⊖ time) (rest_above time k.fit l) }
  where
    fit_by : (b : Bool) (x : Float) → T (fits binary64 x) → T (fits binary64 (cond b (retry p.m p.tol t err) x))
    fit_by true x h = retry_fits p.m p.tol t err
    fit_by false x h = h

    above_by : (b : Bool) (x : Float) → T (+0 ⋖ x) → Proposed (cond b (retry p.m p.tol t err) x)
    above_by true x h = retry_above p.m p.tol t err
    above_by false x h = inr h

-- a state that a substep starts from has its time below 1
abbrev pub TimedEnd : End → Type 0
TimedEnd (finished s) = Timely s
TimedEnd (refused r x s) = Timely s × T (s.control.time ⋖ 1f)

abbrev pub Timed : Turn State End → Type 0
Timed (on s) = Timely s × T (s.control.time ⋖ 1f)
Timed (out e) = TimedEnd e

standing_timed : (s : State) (b : Bool) → Timely s → unfinished s ≡ b → Timed (standing s b)
unfolding unfinished
standing_timed s true h e = (h, and_r (not (eq s.control.beta +0)) (s.control.time ⋖ 1f) (subst (λ (c : Bool). T c) (sym e) tt))
standing_timed s false h e = h

settle_timed : (p : Setting) (s : State) (b : Basis) (i : ℕ) (own : Step (1f ⊖ s.control.time) (1f ⊖ s.control.time)) (u : T (1f ⊖ s.control.time ⩽ 1f)) (o : Turn Trying Tried)
    → Timely s → T (s.control.time ⋖ 1f) → Trials (1f ⊖ s.control.time) own u i o → Timed (settle p s b o)
unfolding settle
settle_timed p s b i own u (on t) h l k = (h, l)
settle_timed p s b i own u (out (stuck arg)) h l k = (h, l)
settle_timed p s b i own u (out (accepted r t f err)) h l k =
    let n = advance p s (applied_of b) (columns_of b) r t f err in
    standing_timed n (unfinished n) (advance_timely p s (applied_of b) (columns_of b) r t f err h k) refl

-- the trials of the substep from s
own_trials : (p : Setting) (s : State) (h : Timely s) (l : T (s.control.time ⋖ 1f)) → Trials (1f ⊖ s.control.time) (rest_step h.time l).0 (rest_step h.time l).1 11 (trials_of p s)
own_trials p s h l =
    trials_trial (1f ⊖ s.control.time) (rest_step h.time l).0 (rest_step h.time l).1 p s.control.beta s.control.next (basis_of p s) h.next_fits (h.next_above l)

pub substep_timed : (p : Setting) (s : State) → Timely s → T (s.control.time ⋖ 1f) → Timed (substep p s)
unfolding substep
substep_timed p s h l = settle_timed p s (basis_of p s) 11 (rest_step h.time l).0 (rest_step h.time l).1 (trials_of p s) h l (own_trials p s h l)

pub started_timed : (p : Setting) (y : List Float) → Timed (on (started p y))
unfolding started first_length
started_timed p y = (
  record { time = record { fit = zero_good.0; clear = zero_good.1; most = zero_good.2 }; next_fits = round2_fits _; next_above = λ _. round2_above _ },
  unfold lt of_bits in tt,
)

pub runs_timed : (ps : List Setting) (o : Turn State End) → Timed o → Timed (runs ps o)
unfolding runs
runs_timed [] o h = h
runs_timed (p ∷ ps) (on s) h = runs_timed ps (substep p s) (substep_timed p s h.0 h.1)
runs_timed (p ∷ ps) (out e) h = h

pub run_timed : (u : Run) → Timed (status_of u)
run_timed u = runs_timed u.settings (on (started u.first u.field)) (started_timed u.first u.field)

pub timed_last : (o : Turn State End) → Timed o → Timely (reached o)
timed_last (on s) h = h.0
timed_last (out (finished s)) h = h
timed_last (out (refused r x s)) h = h.0

-- a state that is not unfinished has norm 0 or its time is exactly 1
pub finished_time : (s : State) → Timely s → unfinished s ≡ false → (eq s.control.beta +0 ≡ true) ⊎ (s.control.time ≡ 1f)
unfolding unfinished
finished_time s h e = go (eq s.control.beta +0) (s.control.time ⋖ 1f) refl e
  where
    w : Within 1f s.control.time
    w = h.time

    exact : (s.control.time ⋖ 1f) ≡ false → s.control.time ≡ 1f
    exact q = elim (⩽_or_⋖ 1f s.control.time (nonneg_number 1f (unfold of_bits in tt)) (nonneg_number s.control.time w.clear)) [
      | inl l ↦ ⩽_antisymm s.control.time 1f w.fit one_fits (nonneg_sign s.control.time w.clear ∙ sym (nonneg_sign 1f (unfold of_bits in tt))) w.most l
      | inr g ↦ absurd (true≢false (sym (is_true (s.control.time ⋖ 1f) g) ∙ q))
    ]

    go : (a b : Bool) → (s.control.time ⋖ 1f) ≡ b → (not a && b) ≡ false → (a ≡ true) ⊎ (s.control.time ≡ 1f)
    go true b q e = inl refl
    go false b q e = inr (exact (q ∙ e))

-- ---- the trace
pub norm_left : (s : State) → unfinished s ≡ true → eq s.control.beta +0 ≡ false
unfolding unfinished
norm_left s e = go (eq s.control.beta +0) (s.control.time ⋖ 1f) e
  where
    go : (a b : Bool) → (not a && b) ≡ true → a ≡ false
    go true b e = absurd (true≢false (sym e))
    go false b e = refl

-- ---- every length tried
short : (time t : Float) → Length (1f ⊖ time) t → Short (record { time = time; t = t })
short time t (inl e) = inl e
short time t (inr w) = inr w.most

lengths_short : (time : Float) (own : Step (1f ⊖ time) (1f ⊖ time)) (u : T (1f ⊖ time ⩽ 1f)) (step : ℕ → Trying → Turn Trying Tried)
    → ((i : ℕ) (s : Trying) → Trial (1f ⊖ time) own u i s → Trials (1f ⊖ time) own u (i + 1) (step i s))
    → (k i : ℕ) (o : Turn Trying Tried) → Trials (1f ⊖ time) own u i o → Each Short (lengths step time k i o)
unfolding lengths
lengths_short time own u step one zero i o h = tt
lengths_short time own u step one (suc k) i (on s) h = (short time s.t h, lengths_short time own u step one k (i + 1) (step i s) (one i s h))
lengths_short time own u step one (suc k) i (out e) h = tt

tried_short : (p : Setting) (s : State) (b : Basis) → Timely s → T (s.control.time ⋖ 1f) → Each Short (tried_on p s b)
unfolding tried_on
tried_short p s (breakdown b) h l = (inr (rest_step h.time l).0.most, tt)
tried_short p s (full b avnorm) h l =
    let x = 1f ⊖ s.control.time in
    let own = (rest_step h.time l).0 in
    let u = (rest_step h.time l).1 in
    lengths_short s.control.time own u (try_step p s.control.beta b.h avnorm) (try_trial x own u p s.control.beta b.h avnorm) 11 0 _
    (inr (first_step s.control.next x h.next_fits (h.next_above l) own))

-- ---- the last length tried is the one accepted
abbrev Lands : Float → List Attempt → Turn Trying Tried → Type 0
Lands time l (on t) = Unit {0}
Lands time l (out (stuck arg)) = Unit {0}
Lands time l (out (accepted r t f err)) = Landed time t l

abbrev Says : Float → Turn Trying Tried → Type 0
Says x (on t) = Unit {0}
Says x (out (stuck arg)) = Unit {0}
Says x (out (accepted r t f err)) = x ≡ t

verdict_says : (p : Setting) (s : Trying) (f : List Float) (e : Estimate) (b : Bool) → Says s.t (verdict p s f e b)
unfolding verdict
verdict_says p s f e true = refl
verdict_says p s f e false = tt

judge_says : (p : Setting) (beta avnorm : Float) (s : Trying) (f : Small) → Says s.t (judge p beta avnorm s f)
unfolding judge
judge_says p beta avnorm s (unplanned arg) = tt
judge_says p beta avnorm s (column f) = verdict_says p s f _ _

lands_more : (time : Float) (x : Attempt) (l : List Attempt) (o : Turn Trying Tried) → x.time ≡ time → Lands time l o → Lands time (x ∷ l) o
lands_more time x l (on t) e h = tt
lands_more time x l (out (stuck arg)) e h = tt
lands_more time x [] (out (accepted r t f err)) e h = absurd h
lands_more time x (y ∷ l) (out (accepted r t f err)) e h = (e, h)

walk_lands : (step : ℕ → Trying → Turn Trying Tried) (time : Float) → ((i : ℕ) (s : Trying) → Says s.t (step i s))
    → (k i : ℕ) (o : Turn Trying Tried) (x : Attempt) → x.time ≡ time → Says x.t o → Lands time (x ∷ lengths step time k i o) (walk step k i o)
unfolding walk lengths
walk_lands step time one zero i (on s) x e h = tt
walk_lands step time one (suc k) i (on s) x e h = lands_more time x (record { time = time; t = s.t } ∷ lengths step time k (i + 1) (step i s)) (walk step k (i + 1) (step i s)) e (walk_lands step time one k (i + 1) (step i s) (record { time = time; t = s.t }) refl (one i s))
walk_lands step time one zero i (out (stuck arg)) x e h = tt
walk_lands step time one (suc k) i (out (stuck arg)) x e h = tt
walk_lands step time one zero i (out (accepted r t f err)) x e h = (e, h)
walk_lands step time one (suc k) i (out (accepted r t f err)) x e h = (e, h)

exact_lands : (time beta hn x : Float) (f : Small) → Lands time (record { time = time; t = x } ∷ []) (exact_step beta hn x f)
unfolding exact_step
exact_lands time beta hn x (unplanned arg) = tt
exact_lands time beta hn x (column f) = (refl, refl)

own_lands : (p : Setting) (s : State) (b : Basis) → Lands s.control.time (tried_on p s b) (trials p s.control.beta s.control.next (1f ⊖ s.control.time) b)
unfolding trials tried_on walk lengths
own_lands p s (breakdown b) = exact_lands s.control.time s.control.beta b.hn (1f ⊖ s.control.time) _
own_lands p s (full b avnorm) =
    let step = try_step p s.control.beta b.h avnorm in
    let one : (i : ℕ) (t : Trying) → Says t.t (step i t) = λ i t. unfold try_step in judge_says p s.control.beta avnorm t _ in
    let t₀ : Trying = record { rejections = 0; t = min_num s.control.next (1f ⊖ s.control.time) } in
    walk_lands step s.control.time one 10 1 (step 0 t₀) (record { time = s.control.time; t = t₀.t }) refl (one 0 t₀)

unended : (y : List Float) (l : List Accepted) → eq (norm2 y) +0 ≡ false → Unended y l
unfolding norm2
unended y [] h = tt
unended y (a ∷ l) h = h

settle_steps : (p : Setting) (s : State) (b : Basis) (later : Turn State End → List Accepted) → ((e : End) → later (out e) ≡ []) → ((o : Turn State End) → Timed o → Normed (reached o) → Steps (reached o).control.time (reached o).y (later o))
    → (h : Timely s) (l : T (s.control.time ⋖ 1f)) (o : Turn Trying Tried) → Trials (1f ⊖ s.control.time) (rest_step h.time l).0 (rest_step h.time l).1 11 o
    → Normed s → Each Short (tried_on p s b) → Lands s.control.time (tried_on p s b) o → Begun b s.control.beta s.y → Based p b (map (apply p) (columns_of b))
    → Steps s.control.time s.y (accepted_in p s b o ++ later (settle p s b o))
unfolding settle accepted_in norm2
settle_steps p s b later none rest h l (on t) k nm sh la bg me = rest (out (refused LengthsRejected p.tol s)) (h, l) nm
settle_steps p s b later none rest h l (out (stuck arg)) k nm sh la bg me = rest (out (refused NoInnerPlan arg s)) (h, l) nm
settle_steps p s b later none rest h l (out (accepted r t f err)) k nm sh la bg me =
    let n = advance p s (applied_of b) (columns_of b) r t f err in (
      refl,
      nm,
      h.time,
      l,
      k,
      sh,
      la,
      bg,
      me,
      unfold advance in follows n (unfinished n) refl refl,
      unfold advance in go n (unfinished n) (standing_timed n (unfinished n) (advance_timely p s (applied_of b) (columns_of b) r t f err h k) refl) refl,
    )
  where
    follows : (n : State) (b : Bool) → unfinished n ≡ b → n.control.beta ≡ norm2 n.y → Unended n.y (later (standing n b))
    follows n true e f = unended n.y (later (on n)) (subst (λ (z : Float). eq z +0 ≡ false) f (norm_left n e))
    follows n false e f = subst (Unended n.y) (sym (none (finished n))) tt

    go : (n : State) (b : Bool) → Timed (standing n b) → Normed n → Steps n.control.time n.y (later (standing n b))
    go n true t e = rest (on n) t e
    go n false t e = rest (out (finished n)) t e

pub trace_steps : (ps : List Setting) (o : Turn State End) → Timed o → Normed (reached o) → Steps (reached o).control.time (reached o).y (trace ps o)
unfolding trace made substep
trace_steps [] o h nm = tt
trace_steps (p ∷ ps) (on s) h nm = settle_steps p s (basis_of p s) (trace ps) (trace_over ps) (trace_steps ps) h.0 h.1 (trials_of p s) (own_trials p s h.0 h.1) nm (tried_short p s (basis_of p s) h.0 h.1) (own_lands p s (basis_of p s)) (own_first p s.y s.control.beta) (own_based p s.y s.control.beta)
trace_steps (p ∷ ps) (out e) h nm = tt

-- ---- all lengths of a run
pub attempts_short : (ps : List Setting) (o : Turn State End) → Timed o → Each Short (attempts ps o)
unfolding attempts
attempts_short [] o h = tt
attempts_short (p ∷ ps) (on s) h =
    each_append Short (tried_on p s (basis_of p s)) (attempts ps (substep p s)) (tried_short p s (basis_of p s) h.0 h.1)
    (attempts_short ps (substep p s) (substep_timed p s h.0 h.1))
attempts_short (p ∷ ps) (out e) h = tt
