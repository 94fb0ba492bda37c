-- What a run's state says of itself is what the run did: its counts, estimate, time, field and norm are those of the trace; and each count is bounded. Assumes nothing.
use mathlib.Core.Path.{◌≡◌, refl, sym, ap, ◌∙◌, subst}
use mathlib.Core.Bool.{Bool, true, false}
use mathlib.Core.List.{List, [], ◌∷◌, ◌++◌}
use Prim.Native.Nat.{ℕ, suc, ◌+◌, ◌*◌, ◌≤◌, zero-le}
use native.Mathlib.Nat.{le_refl, le_trans, le_of_eq, add-zero, add_assoc, zero-add, mul-suc, add-le-add}
use native.Mathlib.Omega.{arith}
use lib.ListN.{length, length-append, length-map}
use lib.Ieee.{Float}
use Rattle.lists.specs.Walk.{Turn, on, out}
use Rattle.doubles.specs.F64.{◌⊕◌, ◌⊖◌, ◌⊗◌, +0, 1f, max_num}
use Rattle.gram_schmidt.specs.Basis.{Setting, Basis, norm2, apply, arnoldi}
use Rattle.trial_steps.specs.Trials.{Trying, Tried, accepted, stuck, trials}
use Rattle.trial_steps.proofs.Few.{Few, trials_few}
use Rattle.krylov_advance.specs.Run.{State, End, finished, refused, EPSILON, applied_of, columns_of, shorter, counted, advance, unfinished, standing, settle, substep, started}
use Rattle.krylov_advance.proofs.Turns.{applied_few, each_once}
use Rattle.demand_3.specs.Trace.{Accepted, accepted_in, made, runs, trace, total, time_after, last_after, field_after, estimate_after, Run, status_of, accepted_by}
use Rattle.demand_3.specs.Krylov.{Each}

-- the last accepted state
abbrev pub last : End → State
last (finished s) = s
last (refused r x s) = s

abbrev pub reached : Turn State End → State
reached (on s) = s
reached (out e) = last e

-- the basis of the substep from s, and its trials
abbrev pub basis_of : Setting → State → Basis
basis_of p s = arnoldi p s.y s.control.beta

abbrev pub trials_of : Setting → State → Turn Trying Tried
trials_of p s = trials p s.control.beta s.control.next (1f ⊖ s.control.time) (basis_of p s)

-- the norm that a state holds is its field's
abbrev pub Normed : State → Type 0
Normed s = s.control.beta ≡ norm2 s.y

-- ---- what the substeps l add to the state s
-- the shortest length after them, of a state that has counted k substeps
unfoldable pub shortest_after : ℕ → Float → List Accepted → Float
shortest_after k t [] = t
shortest_after k t (a ∷ l) = shortest_after (suc k) (shorter k t a.t) l

pub record Adds (s s' : State) (l : List Accepted) : Type 0 where
  pub substeps : s'.report.substeps ≡ s.report.substeps + length l
  pub matvecs : s'.report.matvecs ≡ s.report.matvecs + total (λ a. length a.products) l
  pub rejected : s'.report.rejected ≤ s.report.rejected + 10 * length l
  pub estimate : s'.report.est_error ≡ estimate_after s.report.est_error l
  pub shortest : s'.report.shortest ≡ shortest_after s.report.substeps s.report.shortest l
  pub last : s'.report.last ≡ last_after s.report.last l
  pub time : s'.control.time ≡ time_after s.control.time l
  pub field : s'.y ≡ field_after s.y l
  pub norm : Normed s'

adds_none : (s : State) → Normed s → Adds s s []
unfolding total time_after field_after estimate_after shortest_after last_after
adds_none s h =
    record { substeps = sym (add-zero _); matvecs = sym (add-zero _); rejected = omega arith; estimate = refl; shortest = refl; last = refl; time = refl; field = refl; norm = h }

pub total_append : (f : Accepted → ℕ) (l l' : List Accepted) → total f (l ++ l') ≡ total f l + total f l'
unfolding total
total_append f [] l' = sym (zero-add (total f l'))
total_append f (a ∷ l) l' = ap (λ (n : ℕ). f a + n) (total_append f l l') ∙ sym (add_assoc (f a) (total f l) (total f l'))

time_append : (time : Float) (l l' : List Accepted) → time_after time (l ++ l') ≡ time_after (time_after time l) l'
unfolding time_after
time_append time [] l' = refl
time_append time (a ∷ l) l' = time_append (time ⊕ a.t) l l'

field_append : (y : List Float) (l l' : List Accepted) → field_after y (l ++ l') ≡ field_after (field_after y l) l'
unfolding field_after
field_append y [] l' = refl
field_append y (a ∷ l) l' = field_append a.to l l'

estimate_append : (e : Float) (l l' : List Accepted) → estimate_after e (l ++ l') ≡ estimate_after (estimate_after e l) l'
unfolding estimate_after
estimate_append e [] l' = refl
estimate_append e (a ∷ l) l' = estimate_append (e ⊕ max_num a.err (a.setting.anorm ⊗ EPSILON ⊗ norm2 a.from)) l l'

last_append : (t : Float) (l l' : List Accepted) → last_after t (l ++ l') ≡ last_after (last_after t l) l'
unfolding last_after
last_append t [] l' = refl
last_append t (a ∷ l) l' = last_append a.t l l'

shortest_append : (k : ℕ) (t : Float) (l l' : List Accepted) → shortest_after k t (l ++ l') ≡ shortest_after (k + length l) (shortest_after k t l) l'
unfolding shortest_after
shortest_append k t [] l' = ap (λ (j : ℕ). shortest_after j t l') (sym (add-zero k))
shortest_append k t (a ∷ l) l' =
    let u = shorter k t a.t in
    shortest_append (suc k) u l l' ∙ ap (λ (j : ℕ). shortest_after j (shortest_after (suc k) u l) l') (one_on k (length l))
  where
    one_on : (k n : ℕ) → suc k + n ≡ k + suc n
    one_on k n = omega arith

adds_both : {s s' s'' : State} {l l' : List Accepted} → Adds s s' l → Adds s' s'' l' → Adds s s'' (l ++ l')
adds_both {s} {s'} {s''} {l} {l'} a b = record {
  substeps = more s.report.substeps (length l) (length l') a.substeps b.substeps (length-append l l');
  matvecs = more s.report.matvecs (total (λ a. length a.products) l) (total (λ a. length a.products) l') a.matvecs b.matvecs (total_append _ l l');
  rejected = omega (arith, a.rejected, b.rejected, length-append l l');
  estimate = b.estimate ∙ ap (λ (x : Float). estimate_after x l') a.estimate ∙ sym (estimate_append _ l l');
  shortest = b.shortest ∙ (λ i. shortest_after (a.substeps i) (a.shortest i) l') ∙ sym (shortest_append _ _ l l');
  last = b.last ∙ ap (λ (x : Float). last_after x l') a.last ∙ sym (last_append _ l l');
  time = b.time ∙ ap (λ (x : Float). time_after x l') a.time ∙ sym (time_append _ l l');
  field = b.field ∙ ap (λ (x : List Float). field_after x l') a.field ∙ sym (field_append _ l l');
  norm = b.norm;
}
  where
    more : (n c d : ℕ) {n' n'' e : ℕ} → n' ≡ n + c → n'' ≡ n' + d → e ≡ c + d → n'' ≡ n + e
    more n c d h i j = omega (arith, h, i, j)

pub standing_state : (s : State) (b : Bool) → reached (standing s b) ≡ s
standing_state s true = refl
standing_state s false = refl

settle_adds : (p : Setting) (s : State) (b : Basis) (o : Turn Trying Tried) → Normed s → applied_of b ≡ length (columns_of b) → Few 11 o → Adds s (reached (settle p s b o)) (accepted_in p s b o)
unfolding settle accepted_in counted advance total time_after field_after estimate_after shortest_after last_after
settle_adds p s b (on t) h once few = adds_none s h
settle_adds p s b (out (stuck arg)) h once few = adds_none s h
settle_adds p s b (out (accepted r t f err)) h once few =
    let n = advance p s (applied_of b) (columns_of b) r t f err in
    let e = s.report.est_error in
    subst (λ (z : State). Adds s z (accepted_in p s b (out (accepted r t f err)))) (sym (standing_state n (unfinished n)))
    (record {
      substeps = omega arith;
      matvecs = omega (arith, once, length-map (columns_of b) (apply p));
      rejected = omega (arith, few);
      estimate = ap (λ (beta : Float). e ⊕ max_num err (p.anorm ⊗ EPSILON ⊗ beta)) h;
      shortest = refl;
      last = refl;
      time = refl;
      field = refl;
      norm = refl;
    })

pub runs_adds : (ps : List Setting) (o : Turn State End) → Normed (reached o) → Adds (reached o) (reached (runs ps o)) (trace ps o)
unfolding runs trace substep made
runs_adds [] o h = adds_none (reached o) h
runs_adds (p ∷ ps) (on s) h =
    let a = settle_adds p s _ _ h (each_once p s.y s.control.beta) (trials_few p s.control.beta s.control.next (1f ⊖ s.control.time) (basis_of p s)) in
    adds_both a (runs_adds ps (substep p s) a.norm)
runs_adds (p ∷ ps) (out e) h = adds_none (last e) h

-- ---- from the start y: what the state s records is what the substeps l did
pub record Recorded (y : List Float) (l : List Accepted) (s : State) : Type 0 where
  pub substeps : s.report.substeps ≡ length l
  pub matvecs : s.report.matvecs ≡ total (λ a. length a.products) l
  pub rejected : s.report.rejected ≤ 10 * length l
  pub estimate : s.report.est_error ≡ estimate_after +0 l
  pub shortest : s.report.shortest ≡ shortest_after 0 +0 l
  pub last : s.report.last ≡ last_after +0 l
  pub time : s.control.time ≡ time_after +0 l
  pub field : s.y ≡ field_after y l
  pub norm : s.control.beta ≡ norm2 (field_after y l)

pub run_recorded : (u : Run) → Recorded u.field (accepted_by u) (reached (status_of u))
unfolding started
run_recorded u =
    let a = runs_adds u.settings (on (started u.first u.field)) refl in
    record {
      substeps = a.substeps ∙ zero-add _;
      matvecs = a.matvecs ∙ zero-add _;
      rejected = omega (arith, a.rejected);
      estimate = a.estimate;
      shortest = a.shortest;
      last = a.last;
      time = a.time;
      field = a.field;
      norm = a.norm ∙ ap norm2 a.field;
    }

-- ---- the bounds
pub each_append : {A : Type 0} (P : A → Type 0) (l l' : List A) → Each P l → Each P l' → Each P (l ++ l')
each_append P [] l' h i = i
each_append P (a ∷ l) l' h i = (h.0, each_append P l l' h.1 i)

-- at most M + 1 products
abbrev Modest : ℕ → Accepted → Type 0
Modest M a = length a.products ≤ suc M

accepted_modest : (p : Setting) (s : State) (b : Basis) (o : Turn Trying Tried) → length (columns_of b) ≤ suc p.m → Each (Modest p.m) (accepted_in p s b o)
unfolding accepted_in
accepted_modest p s b (on t) h = tt
accepted_modest p s b (out (stuck arg)) h = tt
accepted_modest p s b (out (accepted r t g err)) h = (le_trans (le_of_eq (length-map (columns_of b) (apply p))) h, tt)

made_modest : (p : Setting) (s : State) → Each (Modest p.m) (made p s)
unfolding made
made_modest p s =
    accepted_modest p s (basis_of p s) (trials_of p s) (le_trans (le_of_eq (sym (each_once p s.y s.control.beta))) (applied_few p s.y s.control.beta))

trace_modest : (M : ℕ) (ps : List Setting) (o : Turn State End) → Each (λ p. p.m ≡ M) ps → Each (Modest M) (trace ps o)
unfolding trace
trace_modest M [] o h = tt
trace_modest M (p ∷ ps) (on s) h =
    each_append (Modest M) (made p s) (trace ps (substep p s)) (subst (λ (m : ℕ). Each (Modest m) (made p s)) h.0 (made_modest p s)) (trace_modest M ps (substep p s) h.1)
trace_modest M (p ∷ ps) (out e) h = tt

total_under : (f : Accepted → ℕ) (c : ℕ) (l : List Accepted) → Each (λ a. f a ≤ c) l → total f l ≤ c * length l
unfolding total
total_under f c [] h = zero-le
total_under f c (a ∷ l) h = le_trans (add-le-add h.0 (total_under f c l h.1)) (le_of_eq (swap c (c * length l) ∙ sym (mul-suc c (length l))))
  where
    swap : (a b : ℕ) → a + b ≡ b + a
    swap a b = omega arith

-- at most (M + 1) × substeps products
pub trace_products : (M : ℕ) (ps : List Setting) (o : Turn State End) → Each (λ p. p.m ≡ M) ps → total (λ a. length a.products) (trace ps o) ≤ suc M * length (trace ps o)
trace_products M ps o h = total_under (λ a. length a.products) (suc M) (trace ps o) (trace_modest M ps o h)

accepted_once : (p : Setting) (s : State) (b : Basis) (o : Turn Trying Tried) → length (accepted_in p s b o) ≤ 1
unfolding accepted_in
accepted_once p s b (on t) = zero-le
accepted_once p s b (out (stuck arg)) = zero-le
accepted_once p s b (out (accepted r t f err)) = le_refl 1

pub trace_few : (ps : List Setting) (o : Turn State End) → length (trace ps o) ≤ length ps
unfolding trace made
trace_few [] o = zero-le
trace_few (p ∷ ps) (on s) = le_trans (le_of_eq (length-append (made p s) (trace ps (substep p s)))) (le_trans (add-le-add (accepted_once p s _ _) (trace_few ps (substep p s))) (one_more (length ps)))
  where
    one_more : (k : ℕ) → 1 + k ≤ suc k
    one_more k = omega arith
trace_few (p ∷ ps) (out e) = zero-le
