-- The Taylor half of demand 3: what an accepted job costs, and when 25 refuses (document 01, 'What demand 3 counts'). Assumes nothing.
use Rattle.std.specs.Prelude.{Option, Some, None}
use mathlib.Core.Path.{◌≡◌, refl, sym, ap, ◌∙◌, subst}
use mathlib.Core.Bool.{Bool, true, false, not, ◌||◌, true≢false}
use mathlib.Core.List.{List, [], ◌∷◌, ◌++◌}
use mathlib.Core.Logic.{◌⊎◌, inl, inr, ⊎_elim}
use Prim.Native.Nat.{ℕ, zero, suc, ◌-◌, ◌*◌, ◌<◌}
use native.Mathlib.Omega.{arith}
use lib.Dec.{T, eqb, ltb}
use lib.ListN.{length}
use lib.Ieee.{Float, nan, le, of_bits}
use lib.Ieee.Bits.{is_true}
use borrow.Author.Tests.{not-false, eq-eqb, eqb-true, lt-ltb, ltb-true}
use Rattle.lists.specs.Find.{find, exists}
use Rattle.lists.proofs.Find.{found_at, find_before, find_holds}
use Rattle.doubles.specs.F64.{◌⊕◌, ◌⊗◌, ◌⋖◌, ◌⩽◌, +0, 2f, at, is_finite}
use Rattle.doubles.proofs.Finite.{holds}
use Rattle.doubles.proofs.Total.{le_number_left, ⋖_not, ⩽_or_⋖}
use Rattle.doubles.proofs.Monotone.{finite_number, mul_number, add_nonneg, mul_nonneg}
use Rattle.checks.specs.First.{Check, refuse, first, before}
use Rattle.checks.proofs.First.{err_is, ok_is, same_reason, unless, first_cons, sound_cons, sound_append, sound_on, stops, passes}
use Rattle.checks.proofs.Numbers.{before_append, not_by, refused_past, refused_here, only_by, if_by}
use Rattle.checks.specs.First.{Checked}
use Rattle.general_operator.specs.Csr.{Csr, row_sum_norm}
use Rattle.general_operator.proofs.Sound.{or_false}
use Rattle.generator_action.specs.Generator.{Generator}
use Rattle.expmv.specs.Select.{select_s_m, admissible, degree, quotient}
use Rattle.expmv.specs.declared.Row.{Row}
use Rattle.expmv.proofs.Least as Least
use Rattle.expmv.proofs.Least.{none_only, none_if}
use Rattle.pow2.specs.Pow2.{sup, eta_scaling}
use Rattle.phi_action_helpers.specs.Augmented.{Augmented}
use Rattle.phi_action_helpers.specs.declared.SweepPlan.{SweepPlan}
use Rattle.phi_shift.specs.Plan.{argument, sweep_plan, plan_of}
use Rattle.phi_shift.proofs.Chosen.{plan_chosen, plan_bounded, chosen_least}
use Rattle.combination.specs.Call.{Call, unless_refused}
use Rattle.combination.specs.Combination.{further, eta_of, combination_operator, action_operator}
use Rattle.combination.specs.Checks.{no_row, out_of_range, count_checks, index_checks, time_checks, degree_checks, plan_checks, length_checks, not_finite_at, finite_checks, magnitude_checks, schedule_checks, memory_checks, vector_checks_by, vector_checks, sweep_checks, job_checks, taylor_need}
use Rattle.taylor_job.specs.declared.TaylorReport.{TaylorReport}
use Rattle.taylor_job.specs.Calls.{TaylorAnswer}
use Rattle.taylor_job.specs.Calls.{Fields, after_plan, combination_checks, combination_run, phi_combination, action_checks, phi_action, phi_action_batched}
use Rattle.demand_3.specs.Taylor.{norm_of, row_fits, TaylorCost, NoRowFits, Exactly25, Exactly33, ValueRefused, Exactly17, TaylorClaim}
use Rattle.demand_3.specs.Demand3.{start_of, operator_of, action_start, action_of}
use Rattle.demand_3.proofs.Products.{Made, one_made, batch_made}
use Rattle.checks.specs.Reasons.{number, Sound, Refused}
use Rattle.std.specs.Prelude.{Ok, Err}
use Rattle.checks.specs.declared.Reason.{Reason}
use Rattle.checks.specs.declared.Reason.TheVariants.{VectorNotFinite, ArgumentNotFinite, NoAdmissibleRow, WorkLength, SubstepLimit, DegreeRange}

reported : {a b : TaylorReport} → ◌≡◌ {A = TaylorAnswer} (Ok a) (Ok b) → a ≡ b
reported e = ok_is e

-- an accepted answer, and its output, are those of a job whose checks all passed
accepted : (x : Checked) (output memory : List Float) (end : Call TaylorAnswer) {r : TaylorReport} → (unless_refused Refused x output memory end).answer ≡ Ok r
    → (end.answer ≡ Ok r) × (end.output ≡ (unless_refused Refused x output memory end).output)
unfolding unless_refused
accepted (Ok _) output memory end e = (e, refl)
accepted (Err r) output memory end e = let z : zero ≡ 1 = cc in absurd (omega (arith, z))

pub fits_is : (cap : ℕ) (arg : Float) (j : ℕ) → admissible cap arg j ≡ row_fits cap arg j
unfolding admissible quotient degree
fits_is cap arg j = refl

module _ (tau : Float) (cap : ℕ) (b : Augmented) (runs : ℕ) (start : ℕ → List Float) (run : SweepPlan → Fields) (made : (p : SweepPlan) → Made b tau runs start p (run p)) where
  of_plan : (need : ℕ) (output memory : List Float) (x : Option SweepPlan) {r : TaylorReport} → sweep_plan cap tau b.matrix (norm_of b) ≡ x → (after_plan need tau (norm_of b) output memory x run).answer ≡ Ok r
      → TaylorCost tau cap b runs start (after_plan need tau (norm_of b) output memory x run).output r
  unfolding after_plan argument
  of_plan need output memory None e f = let z : zero ≡ 1 = cc in absurd (omega (arith, z))
  of_plan need output memory (Some p) e f =
      let c = plan_chosen cap tau b.matrix (norm_of b) e in
      subst (TaylorCost tau cap b runs start (run p).fields) (reported f)
      (record { planned = e; capped = (plan_bounded cap tau b.matrix (norm_of b) e).m_allowed; chosen = c; least = λ j l e. chosen_least c j l (fits_is cap _ j ∙ e); applications = (made p).applications; counted = (made p).counted; fields = (made p).fields })

  pub of_call : (x : Checked) (need : ℕ) (output memory : List Float) {r : TaylorReport}
      → (unless_refused Refused x output memory (after_plan need tau (norm_of b) output memory (sweep_plan cap tau b.matrix (norm_of b)) run)).answer ≡ Ok r
      → TaylorCost tau cap b runs start (unless_refused Refused x output memory (after_plan need tau (norm_of b) output memory (sweep_plan cap tau b.matrix (norm_of b)) run)).output r
  of_call x need output memory {r} e =
      let h = accepted x output memory _ e in
      subst (λ (out : List Float). TaylorCost tau cap b runs start out r) h.1 (of_plan need output memory _ refl h.0)

-- ---- 25
-- tau and the argument are numbers from 0 on where 14 and 24 pass, and so is the norm where the generator's checks do
two_nonneg : T (+0 ⩽ 2f)
unfolding le of_bits
two_nonneg = tt

in_range : (x : Float) → out_of_range x ≡ false → T (is_finite x) × T (+0 ⩽ x)
unfolding out_of_range
in_range x e =
    let r = or_false (not (is_finite x)) (x ⋖ +0) e in
    let f = holds (not-false (is_finite x) r.0) in
    (f, ⊎_elim (λ h. h) (λ h. absurd (true≢false (sym (is_true (x ⋖ +0) h) ∙ r.1))) (⩽_or_⋖ +0 x (le_number_left +0 2f two_nonneg) (finite_number x f)))

argument_nonneg : (tau norm : Float) → out_of_range tau ≡ false → out_of_range norm ≡ false → T (is_finite (argument tau norm)) → T (+0 ⩽ argument tau norm)
unfolding argument
argument_nonneg tau norm e f g =
    let t = in_range tau e in
    let n = in_range norm f in
    mul_nonneg (tau ⊗ norm ⊕ 2f) 2f (add_nonneg (tau ⊗ norm) 2f (mul_nonneg tau norm t.1 n.1 (mul_number tau norm t.0 n.0)) two_nonneg) two_nonneg (finite_number _ g)

row_none : (s : Option Row) → no_row s ≡ true → s ≡ None
row_none None e = refl
row_none (Some r) e = absurd (true≢false (sym e))

none_fits : (cap : ℕ) (arg : Float) → T (is_finite arg) → T (+0 ⩽ arg) → Least.Refused cap arg → (j : ℕ) → j < 22 → admissible cap arg j ≡ false
none_fits cap arg f g (Least.not_finite e) = absurd (true≢false (sym (is_true (is_finite arg) f) ∙ e))
none_fits cap arg f g (Least.below_zero e) = absurd (⋖_not arg +0 (holds e) g)
none_fits cap arg f g (Least.no_row h) = h

has_plan : (tau : Float) (cap : ℕ) (q : Csr) (norm : Float) → no_row (select_s_m cap (argument tau norm)) ≡ false → sweep_plan cap tau q norm ≡ None → zero ≡ 1
unfolding sweep_plan plan_of
has_plan tau cap q norm h e = go (select_s_m cap (argument tau norm)) h e
  where
    go : (r : Option Row) → no_row r ≡ false → plan_of cap tau q norm r ≡ None → zero ≡ 1
    go None h e = cc
    go (Some r) h e = cc

-- the checks of a job: before tau's, between tau's and those of the schedule
module _ (gs xs ys : List Check) (tau : Float) (cap : ℕ) (norm : Float) (memory need : ℕ) where
  abbrev pub in_order : List Check
  in_order = gs ++ (xs ++ (time_checks tau ++ (ys ++ (schedule_checks cap norm tau ++ memory_checks memory need))))

  abbrev just_before : List Check
  just_before = refuse ArgumentNotFinite (not (is_finite (argument tau norm))) (argument tau norm) ∷ []

  module _ (rg : Sound ≡ first gs → out_of_range norm ≡ false) (lg : before NoAdmissibleRow gs ≡ gs) (lx : before NoAdmissibleRow xs ≡ xs) (ly : before NoAdmissibleRow ys ≡ ys) where
    lt : before NoAdmissibleRow (time_checks tau) ≡ time_checks tau
    unfolding before plan_checks time_checks
    lt = refl

    ls : before NoAdmissibleRow just_before ≡ just_before
    unfolding before
    ls = refl

    last : before NoAdmissibleRow (schedule_checks cap norm tau ++ memory_checks memory need) ≡ just_before
    unfolding before schedule_checks memory_checks
    last = refl

    before_is : before NoAdmissibleRow in_order ≡ gs ++ (xs ++ (time_checks tau ++ (ys ++ just_before)))
    before_is =
        before_append NoAdmissibleRow gs _ lg
        ∙ ap (λ (r : List Check). gs ++ r) (before_append NoAdmissibleRow xs _ lx ∙ ap (λ (r : List Check). xs ++ r) (before_append NoAdmissibleRow (time_checks tau) _ lt ∙ ap (λ (r : List Check). time_checks tau ++ r) (before_append NoAdmissibleRow ys _ ly ∙ ap (λ (r : List Check). ys ++ r) last)))

    not_26 : {x : Float} → Refused NoAdmissibleRow x ≡ first (memory_checks memory need) → ⊥
    unfolding memory_checks first
    not_26 {x} e = go (ltb memory need) (e ∙ first_cons WorkLength (ltb memory need) nan [])
      where
        go : (b : Bool) → Refused NoAdmissibleRow x ≡ unless b WorkLength nan Sound → ⊥
        go true e = let n = ap number (same_reason e) in absurd (omega (arith, n))
        go false e = let z : zero ≡ 1 = cc in absurd (omega (arith, z))

    -- what holds where 14 and 24 pass, and the generator's checks
    ranged : Sound ≡ first (before NoAdmissibleRow in_order) → T (is_finite (argument tau norm)) × T (+0 ⩽ argument tau norm)
    unfolding plan_checks time_checks
    ranged e =
        let g = sound_append gs _ (e ∙ ap first before_is) in
        let x = sound_append xs _ g.1 in
        let t = sound_append (time_checks tau) _ x.1 in
        let y = sound_append ys _ t.1 in
        let f = holds (not-false (is_finite (argument tau norm)) (sound_cons _ _ _ _ y.1).0) in
        (f, argument_nonneg tau norm (sound_cons _ _ _ _ t.0).0 (rg g.0) f)

    pub only_25 : {x : Float} → Refused NoAdmissibleRow x ≡ first in_order → NoRowFits in_order tau cap norm x
    unfolding schedule_checks argument
    only_25 {x} e =
        let g = refused_past NoAdmissibleRow gs _ lg e in
        let h = refused_past NoAdmissibleRow xs _ lx g.1 in
        let t = refused_past NoAdmissibleRow (time_checks tau) _ lt h.1 in
        let y = refused_past NoAdmissibleRow ys _ ly t.1 in
        let s = refused_past NoAdmissibleRow just_before (refuse NoAdmissibleRow (no_row (select_s_m cap (argument tau norm))) (argument tau norm) ∷ memory_checks memory need) ls y.1 in
        let r = refused_here NoAdmissibleRow _ _ (memory_checks memory need) not_26 s.1 in
        let b : Sound ≡ first (before NoAdmissibleRow in_order) = sound_on gs _ refl g.0 (sound_on xs _ refl h.0 (sound_on (time_checks tau) _ refl t.0 (sound_on ys _ refl y.0 s.0))) ∙ ap first (sym before_is) in
        let f = ranged b in
        record { earlier = b; none = λ j l. sym (fits_is cap _ j) ∙ none_fits cap _ f.0 f.1 (none_only cap _ (row_none _ r.0)) j l; told = r.1 }

    pub if_25 : {x : Float} → NoRowFits in_order tau cap norm x → Refused NoAdmissibleRow x ≡ first in_order
    unfolding schedule_checks argument
    if_25 {x} h =
        let g = sound_append gs _ (h.earlier ∙ ap first before_is) in
        let k = sound_append xs _ g.1 in
        let t = sound_append (time_checks tau) _ k.1 in
        let y = sound_append ys _ t.1 in
        let none : no_row (select_s_m cap (argument tau norm)) ≡ true = ap no_row (none_if cap (argument tau norm) (Least.no_row (λ j l. fits_is cap _ j ∙ h.none j l))) in
        sound_on gs _ refl g.0 (sound_on xs _ refl k.0 (sound_on (time_checks tau) _ refl t.0 (sound_on ys _ refl y.0 (passes ArgumentNotFinite _ _ (sound_cons _ _ _ _ y.1).0 (stops _ none h.told)))))

    planned : Sound ≡ first in_order → no_row (select_s_m cap (argument tau norm)) ≡ false
    unfolding schedule_checks
    planned e =
        let x = sound_append xs _ (sound_append gs _ e).1 in
        let y = sound_append ys _ (sound_append (time_checks tau) _ x.1).1 in
        let s = sound_append (schedule_checks cap norm tau) _ y.1 in
        (sound_cons _ _ _ _ (sound_cons _ _ _ _ s.0).1).0

    -- of a call
    module _ (q : Csr) (run : SweepPlan → Fields) (output lent : List Float) where
      abbrev call : Checked → Call TaylorAnswer
      call c = unless_refused Refused c output lent (after_plan need tau norm output lent (sweep_plan cap tau q norm) run)

      has_run : (x : Option SweepPlan) {k : Reason} {y : Float} → (x ≡ None → zero ≡ 1) → (after_plan need tau norm output lent x run).answer ≡ Refused k y → ⊥
      unfolding after_plan
      has_run None h e = absurd (omega (arith, h refl))
      has_run (Some p) h e = let z : zero ≡ 1 = cc in absurd (omega (arith, z))

      refusal_of : (c : Checked) {j : Reason} {x : Float} → c ≡ first in_order → (call c).answer ≡ Refused j x → Refused j x ≡ first in_order
      unfolding unless_refused
      refusal_of (Ok _) e f = absurd (has_run _ (has_plan tau cap q norm (planned e)) f)
      refusal_of (Err r) {j} {x} e f = same f ∙ e
        where
          same : {i j : Reason} {x y : Float} → Refused {A = TaylorReport} i x ≡ Refused j y → Refused {A = Unit} j y ≡ Refused i x
          same g = ap Err (sym (err_is g))

      refuses : {x : Float} → NoRowFits in_order tau cap norm x → (call (first in_order)).answer ≡ Refused NoAdmissibleRow x
      unfolding unless_refused
      refuses h = rw (← (if_25 h)) refl

      -- the refusals of the call are those of its list
      pub by_list : (cs : List Check) → cs ≡ in_order → (j : Reason) (x : Float) → ((call (first cs)).answer ≡ Refused j x → Refused j x ≡ first cs) × (Refused j x ≡ first cs → (call (first cs)).answer ≡ Refused j x)
      unfolding unless_refused
      by_list cs e j x = rw e (refusal_of (first in_order) refl, λ f. rw (← f) refl)

      pub exactly_25 : (cs : List Check) → cs ≡ in_order → Exactly25 (call (first cs)) cs tau cap norm
      exactly_25 cs e x = rw e ((λ f. only_25 (refusal_of (first in_order) refl f)), refuses)

      pub never_27 : (cs : List Check) → cs ≡ in_order → before SubstepLimit cs ≡ cs → (x : Float) → (call (first cs)).answer ≡ Refused SubstepLimit x → ⊥
      unfolding unless_refused
      never_27 cs e low x f = go (first cs) refl f
        where
          go : (c : Checked) → c ≡ first cs → (call c).answer ≡ Refused SubstepLimit x → ⊥
          go (Ok _) d f = absurd (has_run _ (has_plan tau cap q norm (planned (d ∙ ap first e))) f)
          go (Err r) d f = let n : r.reason ≡ SubstepLimit = same_reason f in not_by SubstepLimit cs low (subst (λ (i : Reason). Refused i r.value ≡ first cs) n d)

-- ---- 33 and 17
-- what a call answers is what its list does
abbrev ByList : Call TaylorAnswer → List Check → Type 0
ByList c cs = (j : Reason) (x : Float) → (c.answer ≡ Refused j x → Refused j x ≡ first cs) × (Refused j x ≡ first cs → c.answer ≡ Refused j x)

outside : (cap : ℕ) → (eqb cap 0 || ltb 30 cap) ≡ true → (cap ≡ 0) ⊎ (30 < cap)
outside cap e = go (eqb cap 0) (ltb 30 cap) refl refl e
  where
    go : (a b : Bool) → eqb cap 0 ≡ a → ltb 30 cap ≡ b → (a || b) ≡ true → (cap ≡ 0) ⊎ (30 < cap)
    go true b p q e = inl (eqb-true cap 0 p)
    go false true p q e = inr (ltb-true 30 cap q)
    go false false p q e = absurd (true≢false (sym e))

refused_outside : (cap : ℕ) → (cap ≡ 0) ⊎ (30 < cap) → (eqb cap 0 || ltb 30 cap) ≡ true
refused_outside cap (inl z) = rw (eq-eqb cap 0 z) refl
refused_outside cap (inr l) = rw (lt-ltb 30 cap l) (or_true (eqb cap 0))
  where
    or_true : (b : Bool) → (b || true) ≡ true
    or_true true = refl
    or_true false = refl

module _ (cs gs xs ys : List Check) (cap : ℕ) (c : Call TaylorAnswer) (listed : ByList c cs) where
  exactly_33 : cs ≡ gs ++ (xs ++ (refuse DegreeRange (eqb cap 0 || ltb 30 cap) nan ∷ ys)) → before DegreeRange gs ≡ gs → before DegreeRange xs ≡ xs → before DegreeRange ys ≡ ys → Exactly33 c cs cap
  exactly_33 e ng nx ny x = (
    (λ f. let h = only_by DegreeRange _ nan gs xs ys ng nx ny ((listed DegreeRange x).0 f ∙ ap first e) in record { earlier = h.0 ∙ ap (λ (r : List Check). first (before DegreeRange r)) (sym e); outside = outside cap h.1.0; told = h.1.1 }),
    (λ r. (listed DegreeRange x).1 (if_by DegreeRange _ nan gs xs ys ng nx ny (r.earlier ∙ ap (λ (l : List Check). first (before DegreeRange l)) e) (refused_outside cap r.outside) r.told ∙ ap first (sym e))),
  )

not_true : (b : Bool) → not b ≡ true → b ≡ false
not_true true e = absurd (true≢false (sym e))
not_true false e = refl

module _ (cs gs xs ys : List Check) (v : List Float) (c : Call TaylorAnswer) (listed : ByList c cs) where
  abbrev bad : ℕ → Bool
  bad i = not (is_finite (at v i))

  exactly_17 : cs ≡ gs ++ (xs ++ (refuse VectorNotFinite (exists bad (length v)) (at v (find bad (length v))) ∷ ys)) → before VectorNotFinite gs ≡ gs → before VectorNotFinite xs ≡ xs → before VectorNotFinite ys ≡ ys → Exactly17 c cs v
  unfolding exists
  exactly_17 e ng nx ny x = (only, only_if)
    where
      only : c.answer ≡ Refused VectorNotFinite x → ValueRefused cs v x
      only f =
          let h = only_by VectorNotFinite _ _ gs xs ys ng nx ny ((listed VectorNotFinite x).0 f ∙ ap first e) in
          let l = ltb-true (find bad (length v)) (length v) h.1.0 in
          record {
            earlier = h.0 ∙ ap (λ (r : List Check). first (before VectorNotFinite r)) (sym e);
            place = find bad (length v);
            below = l;
            not_finite = not_true _ (find_holds bad (length v) l);
            finite_before = λ j m. not-false _ (find_before bad (length v) j m);
            told = h.1.1;
          }

      only_if : ValueRefused cs v x → c.answer ≡ Refused VectorNotFinite x
      only_if r =
          let p = found_at {p = bad} (record { none = λ j m. ap not (r.finite_before j m) }) (length v) r.below (ap not r.not_finite) in
          (listed VectorNotFinite x).1 (if_by VectorNotFinite _ _ gs xs ys ng nx ny (r.earlier ∙ ap (λ (l : List Check). first (before VectorNotFinite l)) e) (rw (← p) (lt-ltb _ _ r.below)) (r.told ∙ ap (at v) p) ∙ ap first (sym e))

-- ---- the three calls
module _
    (g : Generator)
    (ranged_norm : Sound ≡ first g.checks → out_of_range (row_sum_norm g.matrix) ≡ false)
    (none_25 : before NoAdmissibleRow g.checks ≡ g.checks)
    (none_27 : before SubstepLimit g.checks ≡ g.checks)
    (none_17 : before VectorNotFinite g.checks ≡ g.checks)
    (none_33 : before DegreeRange g.checks ≡ g.checks)
    (tau : Float) where
  abbrev norm : Float
  norm = row_sum_norm g.matrix

  module _ (cap count : ℕ) (w output memory : List Float) where
    combination_cost : {r : TaylorReport} → (phi_combination g tau cap count w output memory).answer ≡ Ok r
        → TaylorCost tau cap (operator_of g tau count w) 1 (λ _. start_of g tau count w) (phi_combination g tau cap count w output memory).output r
    unfolding combination_run phi_combination combination_operator
    combination_cost e = of_call tau cap (operator_of g tau count w) 1 _ _ (λ p. one_made (operator_of g tau count w) tau p (start_of g tau count w)) _ _ output memory e

    low_count : before NoAdmissibleRow (count_checks count) ≡ count_checks count
    unfolding before count_checks
    low_count = refl

    abbrev of_magnitude : List Check
    of_magnitude =
        let f = further g.matrix.n w in
        magnitude_checks g.matrix.n f tau (count - 1) (eta_of g.matrix.n f tau (count - 1)).eta

    abbrev between : List Check
    between = degree_checks cap ++ (length_checks (length output) g.matrix.n (length w) (count * g.matrix.n) ++ (finite_checks w ++ of_magnitude))

    low_between : before NoAdmissibleRow between ≡ between
    unfolding before degree_checks length_checks finite_checks magnitude_checks
    low_between = refl

    combination_in_order : combination_checks g tau cap count w (length output) (length memory) ≡ in_order g.checks (count_checks count) between tau cap norm (length memory) (taylor_need g.matrix.n (count - 1) g.stored)
    unfolding combination_checks vector_checks vector_checks_by sweep_checks count_checks plan_checks time_checks degree_checks length_checks finite_checks magnitude_checks
    combination_in_order = refl

    combination_25 : Exactly25 (phi_combination g tau cap count w output memory) (combination_checks g tau cap count w (length output) (length memory)) tau cap norm
    unfolding combination_run phi_combination
    combination_25 = exactly_25 _ _ between tau cap norm _ _ ranged_norm none_25 low_count low_between _ _ output memory _ combination_in_order

    low_combination : before SubstepLimit (combination_checks g tau cap count w (length output) (length memory)) ≡ combination_checks g tau cap count w (length output) (length memory)
    unfolding before combination_checks vector_checks vector_checks_by count_checks plan_checks time_checks degree_checks length_checks finite_checks sweep_checks magnitude_checks schedule_checks memory_checks
    low_combination = before_append SubstepLimit g.checks _ none_27

    combination_no_27 : (x : Float) → (phi_combination g tau cap count w output memory).answer ≡ Refused SubstepLimit x → ⊥
    unfolding combination_run phi_combination
    combination_no_27 = never_27 _ _ between tau cap norm _ _ ranged_norm none_25 low_count low_between _ _ output memory _ combination_in_order low_combination

    combination_listed : ByList (phi_combination g tau cap count w output memory) (combination_checks g tau cap count w (length output) (length memory))
    unfolding combination_run phi_combination
    combination_listed = by_list _ _ between tau cap norm _ _ ranged_norm none_25 low_count low_between _ _ output memory _ combination_in_order

    -- behind 33, and behind 17
    abbrev of_lengths : List Check
    of_lengths = length_checks (length output) g.matrix.n (length w) (count * g.matrix.n)

    abbrev of_sweeps : List Check
    of_sweeps = sweep_checks g.matrix.n tau cap (count - 1) (further g.matrix.n w) norm (length memory) (taylor_need g.matrix.n (count - 1) g.stored)

    combination_33 : Exactly33 (phi_combination g tau cap count w output memory) (combination_checks g tau cap count w (length output) (length memory)) cap
    unfolding before combination_checks vector_checks vector_checks_by plan_checks count_checks time_checks degree_checks length_checks finite_checks sweep_checks magnitude_checks schedule_checks memory_checks
    combination_33 = exactly_33 _ g.checks (count_checks count ++ time_checks tau) (of_lengths ++ (finite_checks w ++ of_sweeps)) cap (phi_combination g tau cap count w output memory) combination_listed refl none_33 refl refl

    combination_17 : Exactly17 (phi_combination g tau cap count w output memory) (combination_checks g tau cap count w (length output) (length memory)) w
    unfolding before combination_checks vector_checks vector_checks_by plan_checks count_checks time_checks degree_checks length_checks finite_checks not_finite_at sweep_checks magnitude_checks schedule_checks memory_checks
    combination_17 = exactly_17 _ g.checks (count_checks count ++ (plan_checks tau cap ++ of_lengths)) of_sweeps w (phi_combination g tau cap count w output memory) combination_listed refl none_17 refl refl

    pub combination_claim : TaylorClaim (phi_combination g tau cap count w output memory) (combination_checks g tau cap count w (length output) (length memory)) tau cap w (operator_of g tau count w) 1 (λ _. start_of g tau count w)
    unfolding combination_operator
    combination_claim = record { accepted = combination_cost; no_degree = combination_33; no_value = combination_17; no_plan = combination_25; no_limit = combination_no_27 }

  module _ (cap k : ℕ) (v output memory : List Float) where
    low_index : before NoAdmissibleRow (index_checks k) ≡ index_checks k
    unfolding before index_checks
    low_index = refl

    -- 33 and 15 to 17
    abbrev of_field : ℕ → List Check
    of_field wanted = degree_checks cap ++ (length_checks (length output) wanted (length v) g.matrix.n ++ finite_checks v)

    low_field : (wanted : ℕ) → before NoAdmissibleRow (of_field wanted) ≡ of_field wanted
    unfolding before degree_checks length_checks finite_checks
    low_field wanted = refl

    action_in_order : (wanted : ℕ) → action_checks g tau cap k v (length output) wanted (length memory) ≡ in_order g.checks (index_checks k) (of_field wanted) tau cap norm (length memory) (taylor_need g.matrix.n 3 g.stored)
    unfolding action_checks job_checks plan_checks time_checks degree_checks length_checks finite_checks
    action_in_order wanted = refl

    action_cost : {r : TaylorReport} → (phi_action g tau cap k v output memory).answer ≡ Ok r
        → TaylorCost tau cap (action_of g v) 1 (λ _. action_start g v k) (phi_action g tau cap k v output memory).output r
    unfolding phi_action action_operator
    action_cost e = of_call tau cap (action_of g v) 1 _ _ (λ p. one_made (action_of g v) tau p (action_start g v k)) _ _ output memory e

    batch_cost : {r : TaylorReport} → (phi_action_batched g tau cap k v output memory).answer ≡ Ok r
        → TaylorCost tau cap (action_of g v) (suc k) (action_start g v) (phi_action_batched g tau cap k v output memory).output r
    unfolding phi_action_batched action_operator
    batch_cost e = of_call tau cap (action_of g v) (suc k) _ _ (λ p. batch_made (action_of g v) tau p v (eta_scaling (sup v)).inv (suc k)) _ _ output memory e

    -- of an output of `wanted` values, whatever is run
    action_exactly : (wanted : ℕ) (run : SweepPlan → Fields)
        → Exactly25 (unless_refused Refused (first (action_checks g tau cap k v (length output) wanted (length memory))) output memory (after_plan (taylor_need g.matrix.n 3 g.stored) tau norm output memory (sweep_plan cap tau g.matrix norm) run))
        (action_checks g tau cap k v (length output) wanted (length memory))
        tau
        cap
        norm
    action_exactly wanted run = exactly_25 g.checks (index_checks k) (of_field wanted) tau cap norm _ _ ranged_norm none_25 low_index (low_field wanted) _ run output memory _ (action_in_order wanted)

    low_action : (wanted : ℕ) → before SubstepLimit (action_checks g tau cap k v (length output) wanted (length memory)) ≡ action_checks g tau cap k v (length output) wanted (length memory)
    unfolding before action_checks job_checks index_checks plan_checks time_checks degree_checks length_checks finite_checks schedule_checks memory_checks
    low_action wanted = before_append SubstepLimit g.checks _ none_27

    action_no_27 : (wanted : ℕ) (run : SweepPlan → Fields) (x : Float)
        → (unless_refused Refused (first (action_checks g tau cap k v (length output) wanted (length memory))) output memory (after_plan (taylor_need g.matrix.n 3 g.stored) tau norm output memory (sweep_plan cap tau g.matrix norm) run)).answer ≡ Refused SubstepLimit x → ⊥
    action_no_27 wanted run = never_27 g.checks (index_checks k) (of_field wanted) tau cap norm _ _ ranged_norm none_25 low_index (low_field wanted) _ run output memory _ (action_in_order wanted) (low_action wanted)

    -- of an output of `wanted` values, whatever is run
    module _ (wanted : ℕ) (run : SweepPlan → Fields) where
      abbrev acted : Call TaylorAnswer
      acted = unless_refused Refused (first (action_checks g tau cap k v (length output) wanted (length memory))) output memory (after_plan (taylor_need g.matrix.n 3 g.stored) tau norm output memory (sweep_plan cap tau g.matrix norm) run)

      action_listed : ByList acted (action_checks g tau cap k v (length output) wanted (length memory))
      action_listed = by_list g.checks (index_checks k) (of_field wanted) tau cap norm _ _ ranged_norm none_25 low_index (low_field wanted) _ run output memory _ (action_in_order wanted)

      abbrev of_plan_and_host : List Check
      of_plan_and_host = schedule_checks cap norm tau ++ memory_checks (length memory) (taylor_need g.matrix.n 3 g.stored)

      abbrev of_v_lengths : List Check
      of_v_lengths = length_checks (length output) wanted (length v) g.matrix.n

      action_33 : Exactly33 acted (action_checks g tau cap k v (length output) wanted (length memory)) cap
      unfolding before action_checks job_checks plan_checks index_checks time_checks degree_checks length_checks finite_checks schedule_checks memory_checks
      action_33 = exactly_33 _ g.checks (index_checks k ++ time_checks tau) (of_v_lengths ++ (finite_checks v ++ of_plan_and_host)) cap acted action_listed refl none_33 refl refl

      action_17 : Exactly17 acted (action_checks g tau cap k v (length output) wanted (length memory)) v
      unfolding before action_checks job_checks plan_checks index_checks time_checks degree_checks length_checks finite_checks not_finite_at schedule_checks memory_checks
      action_17 = exactly_17 _ g.checks (index_checks k ++ (plan_checks tau cap ++ of_v_lengths)) of_plan_and_host v acted action_listed refl none_17 refl refl

    pub action_claim : TaylorClaim (phi_action g tau cap k v output memory) (action_checks g tau cap k v (length output) g.matrix.n (length memory)) tau cap v (action_of g v) 1 (λ _. action_start g v k)
    unfolding phi_action action_operator
    action_claim = record { accepted = action_cost; no_degree = action_33 g.matrix.n _; no_value = action_17 g.matrix.n _; no_plan = action_exactly g.matrix.n _; no_limit = action_no_27 g.matrix.n _ }

    pub batch_claim : TaylorClaim (phi_action_batched g tau cap k v output memory) (action_checks g tau cap k v (length output) (suc k * g.matrix.n) (length memory)) tau cap v (action_of g v) (suc k) (action_start g v)
    unfolding phi_action_batched action_operator
    batch_claim = record { accepted = batch_cost; no_degree = action_33 (suc k * g.matrix.n) _; no_value = action_17 (suc k * g.matrix.n) _; no_plan = action_exactly (suc k * g.matrix.n) _; no_limit = action_no_27 (suc k * g.matrix.n) _ }
