-- Each length tried was accepted or rejected: the substeps and the rejections together are the lengths tried, and before 28 eleven more. Assumes nothing.
use mathlib.Core.Path.{◌≡◌, refl, sym, ap, ◌∙◌, subst}
use mathlib.Core.Bool.{Bool, true, false}
use mathlib.Core.List.{List, [], ◌∷◌}
use Prim.Native.Nat.{ℕ, zero, suc, ◌+◌, ◌≤◌}
use native.Mathlib.Nat.{add-zero, add_assoc, zero-add}
use native.Mathlib.Omega.{arith}
use lib.ListN.{length, length-append}
use lib.Ieee.{Float}
use Rattle.lists.specs.Walk.{Turn, on, out, walk}
use Rattle.doubles.specs.F64.{◌⊖◌, 1f, min_num}
use Rattle.hess_exp.specs.HessExp.{Small, unplanned, column, hess_exp_e1}
use Rattle.gram_schmidt.specs.Basis.{Setting, dim, Basis, breakdown, full}
use Rattle.trial_steps.specs.declared.Estimate.{Estimate}
use Rattle.trial_steps.specs.Trials.{Trying, Tried, accepted, stuck, verdict, judge, try_step, exact_step, trials}
use Rattle.krylov_advance.specs.Run.{State, End, finished, refused, applied_of, columns_of, counted, advance, unfinished, standing, settle, substep, started}
use Rattle.demand_3.specs.Trace.{accepted_in, made, runs, trace, total, lengths, tried_on, attempts, Run, status_of, accepted_by, tried_by}
use Rattle.trial_steps.proofs.Few.{Few, trials_few}
use Rattle.demand_3.proofs.Counts.{reached, basis_of, trials_of, total_append, standing_state}
use Rattle.checks.specs.declared.Reason.TheVariants.{LengthsRejected}
use Rattle.checks.specs.Reasons.{number as numbered}

-- the lengths judged: accepted or rejected
abbrev pub judged : State → ℕ
judged s = s.report.rejected + s.report.substeps

-- after n lengths tried: all are judged, but for the eleven of 28; 29 leaves its last length, and those rejected before it, uncounted
abbrev pub Judged : ℕ → Turn State End → Type 0
Judged n (on s) = judged s ≡ n
Judged n (out (finished s)) = judged s ≡ n
Judged n (out (refused r x s)) = (r ≡ LengthsRejected → judged s + 11 ≡ n) × (judged s ≤ n)

-- ---- one substep
-- n lengths tried: all rejected, or all but the last. A length with no inner plan is neither
abbrev pub Tally : ℕ → Turn Trying Tried → Type 0
Tally n (on s) = s.rejections ≡ n
Tally n (out (accepted r t f err)) = suc r ≡ n
Tally n (out (stuck arg)) = Unit {0}

verdict_tally : (p : Setting) (s : Trying) (f : List Float) (e : Estimate) (b : Bool) → Tally (suc s.rejections) (verdict p s f e b)
unfolding verdict
verdict_tally p s f e true = refl
verdict_tally p s f e false = refl

judge_tally : (p : Setting) (beta avnorm : Float) (s : Trying) (f : Small) → Tally (suc s.rejections) (judge p beta avnorm s f)
unfolding judge
judge_tally p beta avnorm s (unplanned arg) = tt
judge_tally p beta avnorm s (column f) = verdict_tally p s f _ _

walk_tally : (step : ℕ → Trying → Turn Trying Tried) (time : Float) → ((i : ℕ) (s : Trying) → Tally (suc s.rejections) (step i s))
    → (k i : ℕ) (o : Turn Trying Tried) (n : ℕ) → Tally n o → Tally (n + length (lengths step time k i o)) (walk step k i o)
unfolding walk lengths
walk_tally step time one zero i o n h = subst (λ (m : ℕ). Tally m o) (sym (add-zero n)) h
walk_tally step time one (suc k) i (on s) n h =
    let l = length (lengths step time k (i + 1) (step i s)) in
    subst (λ (m : ℕ). Tally m (walk step k (i + 1) (step i s))) (one_more s.rejections n l h) (walk_tally step time one k (i + 1) (step i s) (suc s.rejections) (one i s))
  where
    one_more : (r n l : ℕ) → r ≡ n → suc r + l ≡ n + suc l
    one_more r n l e = omega (arith, e)
walk_tally step time one (suc k) i (out e) n h = subst (λ (m : ℕ). Tally m (out e)) (sym (add-zero n)) h

exact_tally : (beta hn remaining : Float) (f : Small) → Tally 1 (exact_step beta hn remaining f)
unfolding exact_step
exact_tally beta hn remaining (unplanned arg) = tt
exact_tally beta hn remaining (column f) = refl

tried_tally : (p : Setting) (s : State) (b : Basis) → Tally (length (tried_on p s b)) (trials p s.control.beta s.control.next (1f ⊖ s.control.time) b)
unfolding trials tried_on
tried_tally p s (breakdown b) = exact_tally s.control.beta b.hn (1f ⊖ s.control.time) (hess_exp_e1 b.columns.h (dim p) b.mb (1f ⊖ s.control.time))
tried_tally p s (full b avnorm) =
    let step = try_step p s.control.beta b.h avnorm in
    let o : Turn Trying Tried = on (record { rejections = 0; t = min_num s.control.next (1f ⊖ s.control.time) }) in
    subst (λ (m : ℕ). Tally m (walk step 11 0 o)) (zero-add (length (lengths step s.control.time 11 0 o)))
    (walk_tally step s.control.time (λ i t. unfold try_step in judge_tally p s.control.beta avnorm t (hess_exp_e1 b.h (dim p) (dim p) t.t)) 11 0 o 0 refl)

-- ---- the run
standing_judged : (n : ℕ) (s : State) (b : Bool) → judged s ≡ n → Judged n (standing s b)
standing_judged n s true h = h
standing_judged n s false h = h

settle_judged : (p : Setting) (s : State) (b : Basis) (o : Turn Trying Tried) (n l : ℕ) → judged s ≡ n → Few 11 o → Tally l o → Judged (n + l) (settle p s b o)
unfolding settle
settle_judged p s b (on t) n l h f k = ((λ e. omega (arith, h, f, k)), omega (arith, h))
settle_judged p s b (out (stuck arg)) n l h f k = ((λ e. let d : 29 ≡ 28 = ap numbered e in absurd (omega (arith, d))), omega (arith, h))
settle_judged p s b (out (accepted r t g err)) n l h f k =
    let m = advance p s (applied_of b) (columns_of b) r t g err in
    standing_judged (n + l) m (unfinished m) (unfold counted advance in omega (arith, h, k))

pub runs_judged : (ps : List Setting) (o : Turn State End) (n : ℕ) → Judged n o → Judged (n + length (attempts ps o)) (runs ps o)
unfolding runs attempts substep
runs_judged [] o n h = subst (λ (m : ℕ). Judged m o) (sym (add-zero n)) h
runs_judged (p ∷ ps) (on s) n h =
    let here = tried_on p s (basis_of p s) in
    let later = attempts ps (substep p s) in
    subst (λ (m : ℕ). Judged m (runs ps (substep p s))) (add_assoc n (length here) (length later) ∙ ap (λ (m : ℕ). n + m) (sym (length-append here later)))
    (runs_judged ps (substep p s) (n + length here)
    (settle_judged p s (basis_of p s) (trials_of p s) n (length here) h (trials_few p s.control.beta s.control.next (1f ⊖ s.control.time) (basis_of p s)) (tried_tally p s (basis_of p s))))
runs_judged (p ∷ ps) (out e) n h = subst (λ (m : ℕ). Judged m (out e)) (sym (add-zero n)) h

pub run_judged : (u : Run) → Judged (length (tried_by u)) (status_of u)
run_judged u =
    subst (λ (m : ℕ). Judged m (status_of u)) (zero-add (length (tried_by u))) (runs_judged u.settings (on (started u.first u.field)) 0 (unfold started in refl))

-- ---- by the accepted substeps: the lengths judged are those tried in them
settle_told : (p : Setting) (s : State) (b : Basis) (o : Turn Trying Tried) → Tally (length (tried_on p s b)) o → judged (reached (settle p s b o)) ≡ judged s + total (λ a. length a.tried) (accepted_in p s b o)
unfolding settle accepted_in total
settle_told p s b (on t) h = sym (add-zero _)
settle_told p s b (out (stuck arg)) h = sym (add-zero _)
settle_told p s b (out (accepted r t f err)) h =
    let n = advance p s (applied_of b) (columns_of b) r t f err in
    ap judged (standing_state n (unfinished n)) ∙ (unfold counted advance in omega (arith, h))

pub runs_told : (ps : List Setting) (o : Turn State End) → judged (reached (runs ps o)) ≡ judged (reached o) + total (λ a. length a.tried) (trace ps o)
unfolding runs trace substep made total
runs_told [] o = sym (add-zero _)
runs_told (p ∷ ps) (on s) =
    let a = settle_told p s (basis_of p s) (trials_of p s) (tried_tally p s (basis_of p s)) in
    let b = runs_told ps (substep p s) in
    let c = total_append (λ a. length a.tried) (made p s) (trace ps (substep p s)) in
    omega (arith, a, b, c)
runs_told (p ∷ ps) (out e) = sym (add-zero _)

pub run_told : (u : Run) → judged (reached (status_of u)) ≡ total (λ a. length a.tried) (accepted_by u)
run_told u = runs_told u.settings (on (started u.first u.field)) ∙ (unfold started in zero-add _)
