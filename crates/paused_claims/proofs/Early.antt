-- When a step on a run as it was left is refused early (document 02, N5). Assumes nothing.
use Rattle.std.specs.Prelude.{if◌then◌else◌, Option, Some, None}
use mathlib.Core.Path.{◌≡◌, refl, sym, ap, ◌∙◌, subst}
use mathlib.Core.Logic.{◌⊎◌, inl, inr}
use mathlib.Core.Bool.{Bool, true, false, not, ◌||◌, ◌&&◌, true≢false}
use mathlib.Core.List.{List, [], ◌∷◌, ◌++◌, map, append_assoc}
use Prim.Native.Nat.{ℕ, zero, suc, ◌+◌, ◌-◌, ◌*◌, ◌≤◌, ◌<◌}
use native.Mathlib.Nat.{le_trans, mul-le-mul}
use native.Mathlib.Omega.{arith}
use borrow.Author.Tests.{eqb-true, eq-eqb, ltb-true, le-ltb, lt-leb}
use lib.Dec.{ltb, eqb}
use lib.IntN.{ℤ, pos, negsuc, neg_ℤ}
use lib.ListN.{length}
use lib.Ieee.{Float, nan, eq, of_bits}
use Rattle.lists.specs.Walk.{Turn, on, out}
use Rattle.lists.specs.Find.{find, exists}
use Rattle.lists.proofs.Find.{find_holds, none_below, find_ext}
use Rattle.doubles.specs.F64.{◌⊗◌, ◌⋖◌, +0, 1f, nat, is_finite}
use Rattle.power.specs.Power.{power}
use Rattle.pow2.specs.Pow2.{sup, eta_scaling, pow2_scale}
use Rattle.pow2.specs.Pow2 as pow2
use Rattle.pow2.specs.declared.Scale.{Scale}
use Rattle.vectors.proofs.Laws.{length_scale}
use Rattle.checks.specs.First.{Check, refuse, first, Checked, unless_named, same as same_number, before}
use Rattle.checks.proofs.First.{and_then, unless, first_cons, first_append, never_holds, stops}
use Rattle.checks.proofs.Numbers.{before_append, not_by, only_by, if_by}
use Rattle.general_operator.specs.Csr.{row_sum_norm}
use Rattle.combination.specs.Combination.{further, vector, gain, magnitude, eta_of}
use Rattle.combination.specs.Checks.{count_checks, time_checks, length_checks, finite_checks, bad_gain, magnitude_checks, memory_checks, vector_checks_by}
use Rattle.gram_schmidt.specs.Basis.{Setting}
use Rattle.krylov_advance.specs.Run.{State, End}
use Rattle.krylov_job.specs.KrylovCall.{bound, dimension, option_checks, bound_checks, run_checks, krylov_need, krylov_checks_by, krylov_checks}
use Rattle.krylov_job.specs.declared.KrylovPhiOptions.{KrylovPhiOptions}
use Rattle.paused_run.specs.Paused.{Job, rows, degree, leaves, field_checks, StepRefused, Input, tol_in, options_in, over, other_checks, step_checks, step_unless, step}
use Rattle.paused_run.specs.declared.PausedRun.{PausedRun}
use Rattle.demand_3.specs.Trace.{scaled, run_by, run_of, status_of}
use Rattle.demand_3.proofs.Counts.{reached}
use Rattle.demand_3.proofs.Moments.{run_counted, run_long}
use Rattle.paused_claims.specs.History.{whole, values_in, dimension_in, own_eta, Past, call_on, checked, in_force, Left}
use Rattle.paused_claims.specs.Start.{values_of, job_checks}
use Rattle.paused_claims.specs.Early.{Plain, with_tol, step_job_checks, overflows, asking_22, Fits, Refused22, EarlyClaim}
use Rattle.paused_claims.proofs.Zero.{zero_times}
use Rattle.paused_claims.proofs.Known.{few, small, long}
use Rattle.paused_claims.proofs.Start.{field_passes}
use Rattle.paused_claims.proofs.Standing.{ended_by, tol_is, standing_as, run_with, Stood, left_sound, left_stands}
use Rattle.checks.specs.Reasons.{Sound, Refused}
use Rattle.std.specs.Prelude.{Ok, Err}
use Rattle.checks.specs.declared.Reason.TheVariants.{VectorLength, VectorNotFinite, MagnitudeNotFinite, GainNotFinite, SubstepLimit, LengthsRejected, NoInnerPlan, RunEnded}
use Rattle.checks.specs.declared.Reason.{Reason}

-- ---- of a run as it was left 31 asks whether it has ended, and its field is n + d long
module _ (o : KrylovPhiOptions) (j : Job) (output memory : ℕ) (sound : Sound ≡ first (krylov_checks j.g j.tau j.count j.w o output memory)) where
  over_standing : (f : Scale) {s : PausedRun} {y : List Float} {tol : Float} {ps : List Setting} → Stood o j f s y tol ps → over s ≡ s.ended
  unfolding over
  over_standing f {s} {y} {tol} {ps} h =
      let u = run_with o j f ps in
      let c = run_counted u (dimension_in o j) o.max_substeps h.each_m h.few in
      subst (λ (r : PausedRun). over r ≡ r.ended) (sym h.run) (go (status_of u) c.few_applications c.few_rejections)
    where
      go : (st : Turn State End) → (reached st).report.matvecs ≤ suc (dimension_in o j) * (reached st).report.substeps → (reached st).report.rejected ≤ 10 * (reached st).report.substeps
          → over (standing_as o j f tol st) ≡ ended_by o.max_substeps st
      go (on t) a b = by (ltb t.report.substeps o.max_substeps) refl
        where
          by : (r : Bool) → ltb t.report.substeps o.max_substeps ≡ r → over (standing_as o j f tol (on t)) ≡ not (ltb t.report.substeps o.max_substeps)
          by true e =
              let l = ltb-true t.report.substeps o.max_substeps e in
              let most = few o j output memory sound in
              let M = small o j output memory sound in
              let products : t.report.matvecs ≤ 129 * t.report.substeps = le_trans a (mul-le-mul (omega (arith, M)) (omega arith)) in
              rw (e, lt-leb o.max_substeps t.report.substeps l, le-ltb 129000000 t.report.matvecs (omega (arith, products, l, most)), le-ltb 10000000 t.report.rejected (omega (arith, b, l, most))) refl
          by false e = rw e refl
      go (out x) a b = refl

pub over_left : {o : KrylovPhiOptions} {j : Job} {p : Past} → Left o j p → over p.run ≡ p.run.ended
unfolding over
over_left {o} {j} {p} l = elim (left_stands l) [
  | inl h ↦ subst (λ (r : PausedRun). over r ≡ r.ended) (sym h.run) refl
  | inr h ↦ (let s = left_sound l in over_standing o j (length s.0) (length s.1) s.2 h.factors h.stood)
]

scaled_long : (y : List Float) (f : Option Scale) → length (scaled y f) ≡ length y
unfolding scaled
scaled_long y None = refl
scaled_long y (Some f) = length_scale f.down y

whole_long : (o : KrylovPhiOptions) (j : Job) → length (whole o j).field ≡ length (values_of j)
unfolding run_of run_by
whole_long o j = scaled_long (values_of j) (pow2_scale (values_of j))

pub field_left : {o : KrylovPhiOptions} {j : Job} {p : Past} → Left o j p → length p.field ≡ values_in j
field_left {o} {j} {p} l =
    let s = left_sound l in
    let k = long o j (length s.0) (length s.1) s.2 in
    elim (left_stands l) [
      | inl h ↦ ap length h.field ∙ k
      | inr h ↦ ap length h.stood.field ∙ run_long (run_with o j h.factors p.settings) (values_in j) h.stood.each_long (whole_long o j ∙ k)
    ]

-- ---- the list of a step, piece by piece
-- 22 by the start's eta
eta_keeps_zero : (x : Float) → is_finite (+0 ⊗ (eta_scaling x).eta) ≡ true
unfolding eta_scaling of_bits
eta_keeps_zero x = go (+0 ⋖ x && is_finite x) (pow2.clamp (pow2.ceil_log2 x) (negsuc 999) (pos 1000))
  where
    go : (b : Bool) (e : ℤ) → is_finite (+0 ⊗ (if b then pow2.eta_of e else record { eta = 1f; inv = 1f }).eta) ≡ true
    go true e = zero_times false 1 (neg_ℤ e)
    go false e = zero_times false 1 (pos 0)

bad_is : (i : Job) (eta : Float) → is_finite (+0 ⊗ eta) ≡ true → (k : ℕ) → bad_gain (rows i) (further (rows i) i.w) i.tau eta k ≡ overflows i eta k
unfolding bad_gain gain
bad_is i eta h k = go (eq (sup (vector (rows i) (further (rows i) i.w) k)) +0)
  where
    go : (b : Bool) → not (is_finite ((if b then +0 else power i.tau (k + 1)) ⊗ eta)) ≡ (not b && not (is_finite (power i.tau (k + 1) ⊗ eta)))
    go true = ap not h
    go false = refl

bad_exists : (j i : Job) (d : ℕ) → exists (bad_gain (rows i) (further (rows i) i.w) i.tau (own_eta j)) d ≡ exists (overflows i (own_eta j)) d
unfolding exists eta_of
bad_exists j i d = ap (λ (n : ℕ). ltb n d) (find_ext _ _ d (λ k l. bad_is i (own_eta j) (eta_keeps_zero _) k))

-- checks of other numbers do not ask
asked_alone : (b : Bool) (cs : List Check) → before GainNotFinite cs ≡ cs → map (asking_22 b) cs ≡ cs
unfolding before
asked_alone b [] h = refl
asked_alone b (c ∷ cs) h = go (same_number c.reason GainNotFinite) h (asked_alone b cs)
  where
    tail_of : {c d : Check} {cs ds : List Check} → c ∷ cs ≡ d ∷ ds → cs ≡ ds
    tail_of e = cc

    go : (t : Bool) → unless_named t c (before GainNotFinite cs) ≡ c ∷ cs → (before GainNotFinite cs ≡ cs → map (asking_22 b) cs ≡ cs) → (if t then refuse GainNotFinite b c.reported else c) ∷ map (asking_22 b) cs ≡ c ∷ cs
    go true h f = let z : zero ≡ 1 = cc in absurd (omega (arith, z))
    go false h f = ap (λ (l : List Check). c ∷ l) (f (tail_of h))

map_append : (f : Check → Check) (xs ys : List Check) → map f (xs ++ ys) ≡ map f xs ++ map f ys
map_append f [] ys = refl
map_append f (x ∷ xs) ys = ap (λ (l : List Check). f x ∷ l) (map_append f xs ys)

-- a check that holds hides those behind it
hides : (xs : List Check) (k : Reason) (x : Float) (cs : List Check) → first (xs ++ (refuse k true x ∷ cs)) ≡ first (xs ++ (refuse k true x ∷ []))
hides xs k x cs = first_append xs _ ∙ ap (and_then (first xs)) (first_cons k true x cs ∙ sym (first_cons k true x [])) ∙ sym (first_append xs _)

module _ (s : PausedRun) (long : ℕ) (i : Input) where
  abbrev g : Job
  g = i.job

  abbrev o₁ : KrylovPhiOptions
  o₁ = options_in s (tol_in i.tolerance s)

  abbrev of_lengths : List Check
  of_lengths = length_checks (length i.output) (rows g) (length g.w) (g.count * rows g)

  -- 12 to 16, and 17 on
  abbrev front : List Check
  front = count_checks g.count ++ (time_checks g.tau ++ of_lengths)

  abbrev rest : Float → List Check
  rest eta =
      finite_checks g.w ++ (option_checks o₁ (dimension (rows g) (degree g) s.m) ++ run_checks (rows g) g.tau (degree g) (further (rows g) g.w) eta (bound g.tau (row_sum_norm g.g.matrix)) (length i.memory) (krylov_need (rows g) (degree g) (dimension (rows g) (degree g) s.m) g.g.stored))

  -- not over: those of the job, with the second 16 between
  not_over : over s ≡ false → first (step_checks s long i) ≡ first ((g.g.checks ++ (front ++ (other_checks s g ++ rest s.eta))) ++ field_checks long (rows g + degree g))
  unfolding step_checks krylov_checks_by vector_checks_by count_checks time_checks length_checks other_checks finite_checks
  not_over e = first_cons RunEnded (over s) nan _ ∙ ap (λ (b : Bool). unless b RunEnded nan (first ((g.g.checks ++ (front ++ (other_checks s g ++ rest s.eta))) ++ field_checks long (rows g + degree g)))) e

  and_sound : (r : Checked) → and_then r Sound ≡ r
  unfolding and_then
  and_sound (Ok _) = refl
  and_sound (Err r) = refl

  -- same n and count
  same_list : over s ≡ false → rows g ≡ s.n → g.count ≡ s.count → long ≡ rows g + degree g → first (step_checks s long i) ≡ first (g.g.checks ++ (front ++ rest s.eta))
  unfolding other_checks
  same_list e a b l =
      not_over e
      ∙ first_append _ (field_checks long (rows g + degree g))
      ∙ ap (and_then (first (g.g.checks ++ (front ++ (other_checks s g ++ rest s.eta))))) (sym (field_passes long (rows g + degree g) l))
      ∙ and_sound _
      ∙ never_holds (refuse VectorLength (not (eqb (rows g) s.n) || not (eqb g.count s.count)) (nat (length g.w))) g.g.checks front (rest s.eta) (λ _. rw (eq-eqb (rows g) s.n a, eq-eqb g.count s.count b) refl)

  -- another n or count
  differs : ((rows g ≡ s.n) × (g.count ≡ s.count) → ⊥) → (not (eqb (rows g) s.n) || not (eqb g.count s.count)) ≡ true
  differs n = go (eqb (rows g) s.n) (eqb g.count s.count) refl refl
    where
      go : (a b : Bool) → eqb (rows g) s.n ≡ a → eqb g.count s.count ≡ b → (not a || not b) ≡ true
      go false b ea eb = refl
      go true false ea eb = refl
      go true true ea eb = absurd (n (eqb-true _ _ ea, eqb-true _ _ eb))

  other_list : over s ≡ false → ((rows g ≡ s.n) × (g.count ≡ s.count) → ⊥) → first (step_checks s long i) ≡ first ((g.g.checks ++ front) ++ (refuse VectorLength true (nat (length g.w)) ∷ []))
  unfolding other_checks
  other_list e n =
      not_over e
      ∙ ap first (append_assoc g.g.checks _ (field_checks long (rows g + degree g)) ∙ ap (λ (l : List Check). g.g.checks ++ l) (append_assoc front _ _) ∙ sym (append_assoc g.g.checks front _))
      ∙ ap (λ (b : Bool). first ((g.g.checks ++ front) ++ (refuse VectorLength b (nat (length g.w)) ∷ (rest s.eta ++ field_checks long (rows g + degree g))))) (differs n)
      ∙ hides (g.g.checks ++ front) VectorLength (nat (length g.w)) _

  -- as the landed list names them
  list_is : (eta : Float) → g.g.checks ++ (front ++ rest eta) ≡ krylov_checks_by g.g g.tau g.count g.w eta of_lengths o₁ (length i.memory)
  unfolding krylov_checks_by vector_checks_by count_checks time_checks length_checks finite_checks
  list_is eta = refl

  -- a number that none of them has
  abbrev behind : List Check
  behind = front ++ (other_checks s g ++ rest s.eta)

  none_numbered : (k : Reason) → before k g.g.checks ≡ g.g.checks → before k behind ≡ behind → before k (field_checks long (rows g + degree g)) ≡ field_checks long (rows g + degree g)
      → before k ((g.g.checks ++ behind) ++ field_checks long (rows g + degree g)) ≡ (g.g.checks ++ behind) ++ field_checks long (rows g + degree g)
  none_numbered k a b c =
      before_append k (g.g.checks ++ behind) (field_checks long (rows g + degree g)) (before_append k g.g.checks behind a ∙ ap (λ (l : List Check). g.g.checks ++ l) b)
      ∙ ap (λ (l : List Check). (g.g.checks ++ behind) ++ l) c

  -- no check of a step is numbered 27 to 29
  pub early_number : Plain g.g → (k : Reason) (x : Float) → Refused k x ≡ first (step_checks s long i) → (k ≡ SubstepLimit) ⊎ ((k ≡ LengthsRejected) ⊎ (k ≡ NoInnerPlan)) → ⊥
  unfolding before count_checks time_checks length_checks other_checks finite_checks option_checks run_checks magnitude_checks bound_checks memory_checks field_checks step_checks krylov_checks_by vector_checks_by
  early_number h k x e (inl n) = not_by SubstepLimit (step_checks s long i) (ap (λ (l : List Check). refuse RunEnded (over s) nan ∷ l) (none_numbered SubstepLimit h.no_27 refl refl)) (ap (λ (m : Reason). Refused m x) (sym n) ∙ e)
  early_number h k x e (inr (inl n)) = not_by LengthsRejected (step_checks s long i) (ap (λ (l : List Check). refuse RunEnded (over s) nan ∷ l) (none_numbered LengthsRejected h.no_28 refl refl)) (ap (λ (m : Reason). Refused m x) (sym n) ∙ e)
  early_number h k x e (inr (inr n)) = not_by NoInnerPlan (step_checks s long i) (ap (λ (l : List Check). refuse RunEnded (over s) nan ∷ l) (none_numbered NoInnerPlan h.no_29 refl refl)) (ap (λ (m : Reason). Refused m x) (sym n) ∙ e)

  -- none is numbered 31 but the first
  no_31_behind : Plain g.g → (x : Float) → over s ≡ false → Refused RunEnded x ≡ first (step_checks s long i) → ⊥
  unfolding before count_checks time_checks length_checks other_checks finite_checks option_checks run_checks magnitude_checks bound_checks memory_checks field_checks
  no_31_behind h x e r = not_by RunEnded ((g.g.checks ++ behind) ++ field_checks long (rows g + degree g)) (none_numbered RunEnded h.no_31 refl refl) (r ∙ not_over e)

-- ---- the landed list of a job
module _ (o : KrylovPhiOptions) (g : Job) (output memory : List Float) where
  abbrev in_front : List Check
  in_front = count_checks g.count ++ (time_checks g.tau ++ length_checks (length output) (rows g) (length g.w) (g.count * rows g))

  up_to_16 : Plain g.g → before VectorNotFinite (job_checks o g output memory) ≡ g.g.checks ++ in_front
  unfolding before krylov_checks krylov_checks_by vector_checks_by count_checks time_checks length_checks finite_checks
  up_to_16 h = before_append VectorNotFinite g.g.checks _ h.no_17

  -- with b asked by 22
  abbrev asking : Bool → List Check
  asking b =
      let n = rows g in
      let d = degree g in
      let M = dimension n d o.m in
      in_front
      ++ (finite_checks g.w
      ++ (option_checks o M
      ++ ((refuse MagnitudeNotFinite (not (is_finite (magnitude n (further n g.w) g.tau d))) (magnitude n (further n g.w) g.tau d) ∷ refuse GainNotFinite b nan ∷ [])
      ++ (bound_checks (bound g.tau (row_sum_norm g.g.matrix)) ++ memory_checks (length memory) (krylov_need n d M g.g.stored)))))

  asked_by : (eta : Float) → krylov_checks_by g.g g.tau g.count g.w eta (length_checks (length output) (rows g) (length g.w) (g.count * rows g)) o (length memory) ≡ g.g.checks ++ asking (exists (bad_gain (rows g) (further (rows g) g.w) g.tau eta) (degree g))
  unfolding krylov_checks_by vector_checks_by count_checks time_checks length_checks finite_checks option_checks run_checks magnitude_checks
  asked_by eta = refl

  asked_all : Plain g.g → (b : Bool) → map (asking_22 b) (job_checks o g output memory) ≡ g.g.checks ++ asking b
  unfolding krylov_checks krylov_checks_by vector_checks_by count_checks time_checks length_checks finite_checks option_checks run_checks magnitude_checks bound_checks memory_checks
  asked_all h b = map_append (asking_22 b) g.g.checks _ ∙ ap (λ (l : List Check). l ++ asking b) (asked_alone b g.g.checks h.no_22)

  -- 22 among them
  abbrev up_to_21 : List Check
  up_to_21 =
      in_front
      ++ (finite_checks g.w
      ++ (option_checks o (dimension (rows g) (degree g) o.m)
      ++ (refuse MagnitudeNotFinite (not (is_finite (magnitude (rows g) (further (rows g) g.w) g.tau (degree g)))) (magnitude (rows g) (further (rows g) g.w) g.tau (degree g)) ∷ [])))

  abbrev from_24 : List Check
  from_24 = bound_checks (bound g.tau (row_sum_norm g.g.matrix)) ++ memory_checks (length memory) (krylov_need (rows g) (degree g) (dimension (rows g) (degree g) o.m) g.g.stored)

  one_22 : (b : Bool) → asking b ≡ up_to_21 ++ (refuse GainNotFinite b nan ∷ from_24)
  unfolding count_checks time_checks length_checks finite_checks option_checks
  one_22 b = refl

  others_22 : (before GainNotFinite up_to_21 ≡ up_to_21) × (before GainNotFinite from_24 ≡ from_24)
  unfolding before count_checks time_checks length_checks finite_checks option_checks bound_checks memory_checks
  others_22 = (refl, refl)

  front_22 : Plain g.g → (b : Bool) → before GainNotFinite (g.g.checks ++ (up_to_21 ++ (refuse GainNotFinite b nan ∷ from_24))) ≡ before GainNotFinite (job_checks o g output memory)
  unfolding krylov_checks before
  front_22 h b =
      before_append GainNotFinite g.g.checks _ h.no_22
      ∙ ap (λ (l : List Check). g.g.checks ++ l) (before_append GainNotFinite up_to_21 _ others_22.0 ∙ sym (before_append GainNotFinite up_to_21 _ others_22.0))
      ∙ sym (ap (before GainNotFinite) (asked_by (own_eta g) ∙ ap (λ (l : List Check). g.g.checks ++ l) (one_22 _)) ∙ before_append GainNotFinite g.g.checks _ h.no_22)

-- ---- what the run has of the start
pub record Same (o : KrylovPhiOptions) (j : Job) (p : Past) : Type 0 where
  pub eta : p.run.eta ≡ own_eta j
  pub m : p.run.m ≡ o.m
  pub limit : p.run.limit ≡ o.max_substeps
  pub n : p.run.n ≡ rows j
  pub count : p.run.count ≡ j.count
  pub tol : p.run.tol ≡ p.tol

pub same_left : {o : KrylovPhiOptions} {j : Job} {p : Past} → Left o j p → Same o j p
same_left {o} {j} {p} l = elim (left_stands l) [
  | inl h ↦ record { eta = ap (λ (r : PausedRun). r.eta) h.run; m = ap (λ (r : PausedRun). r.m) h.run; limit = ap (λ (r : PausedRun). r.limit) h.run; n = ap (λ (r : PausedRun). r.n) h.run; count = ap (λ (r : PausedRun). r.count) h.run; tol = ap (λ (r : PausedRun). r.tol) h.run ∙ sym h.tol }
  | inr h ↦ record { eta = ap (λ (r : PausedRun). r.eta) h.stood.run; m = ap (λ (r : PausedRun). r.m) h.stood.run; limit = ap (λ (r : PausedRun). r.limit) h.stood.run; n = ap (λ (r : PausedRun). r.n) h.stood.run; count = ap (λ (r : PausedRun). r.count) h.stood.run; tol = ap (λ (r : PausedRun). r.tol) h.stood.run }
]

module _ {o : KrylovPhiOptions} {j : Job} {p : Past} (l : Left o j p) (i : Input) where
  abbrev as_left : Same o j p
  as_left = same_left l

  options_is : options_in p.run (tol_in i.tolerance p.run) ≡ with_tol o (in_force i.tolerance p.tol)
  options_is = let h = as_left in λ k. record { tol = (tol_is i.tolerance p.run ∙ ap (in_force i.tolerance) h.tol) k; m = h.m k; max_substeps = h.limit k }

  pub if_31 : p.run.ended ≡ true → checked p i ≡ Refused RunEnded nan
  unfolding step_checks
  if_31 e = sym (stops _ (over_left l ∙ e) refl)

  -- by the start's eta
  by_start : p.run.ended ≡ false → Fits j i.job
      → checked p i ≡ first (krylov_checks_by i.job.g i.job.tau i.job.count i.job.w (own_eta j) (length_checks (length i.output) (rows i.job) (length i.job.w) (i.job.count * rows i.job)) (with_tol o (in_force i.tolerance p.tol)) (length i.memory))
  by_start e fit =
      let h = as_left in
      let q = i.job in
      same_list p.run (length p.field) i (over_left l ∙ e) (fit.0 ∙ sym h.n) (fit.1 ∙ sym h.count) (field_left l ∙ (λ k. sym fit.0 k + (sym fit.1 k - 1)))
      ∙ ap first (list_is p.run (length p.field) i p.run.eta)
      ∙ (λ k. first (krylov_checks_by q.g q.tau q.count q.w (h.eta k) (length_checks (length i.output) (rows q) (length q.w) (q.count * rows q)) (options_is k) (length i.memory)))

  pub own : p.run.ended ≡ false → Fits j i.job → own_eta i.job ≡ own_eta j → checked p i ≡ first (step_job_checks o p i)
  unfolding krylov_checks
  own e fit h =
      let q = i.job in
      by_start e fit
      ∙ ap (λ (eta : Float). first (krylov_checks_by q.g q.tau q.count q.w eta (length_checks (length i.output) (rows q) (length q.w) (q.count * rows q)) (with_tol o (in_force i.tolerance p.tol)) (length i.memory))) (sym h)

  pub unchanged : (k : Reason) (x : Float) → checked p i ≡ Refused k x → call_on p i ≡ leaves (StepRefused k x p.run) i.output i.memory p.field
  unfolding step step_unless
  unchanged k x e = ap (λ (c : Checked). step_unless c p.run p.field i) e

  module _ (plain : Plain i.job.g) where
    pub only_31 : (x : Float) → checked p i ≡ Refused RunEnded x → p.run.ended ≡ true
    only_31 x r = go p.run.ended refl
      where
        go : (b : Bool) → p.run.ended ≡ b → b ≡ true
        go true e = refl
        go false e = absurd (no_31_behind p.run (length p.field) i plain x (over_left l ∙ e) (sym r))

    other : p.run.ended ≡ false → (Fits j i.job → ⊥) → checked p i ≡ first (before VectorNotFinite (step_job_checks o p i) ++ (refuse VectorLength true (nat (length i.job.w)) ∷ []))
    other e n =
        let h = as_left in
        other_list p.run (length p.field) i (over_left l ∙ e) (λ q. n (q.0 ∙ h.n, q.1 ∙ h.count))
        ∙ ap (λ (cs : List Check). first (cs ++ (refuse VectorLength true (nat (length i.job.w)) ∷ []))) (sym (up_to_16 (with_tol o (in_force i.tolerance p.tol)) i.job i.output i.memory plain))

    same : p.run.ended ≡ false → Fits j i.job → checked p i ≡ first (map (asking_22 (exists (overflows i.job (own_eta j)) (i.job.count - 1))) (step_job_checks o p i))
    same e fit =
        let o₂ = with_tol o (in_force i.tolerance p.tol) in
        by_start e fit
        ∙ ap first (asked_by o₂ i.job i.output i.memory (own_eta j) ∙ ap (λ (b : Bool). i.job.g.checks ++ asking o₂ i.job i.output i.memory b) (bad_exists j i.job (degree i.job)) ∙ sym (asked_all o₂ i.job i.output i.memory plain _))

    abbrev bad : Bool
    bad = exists (overflows i.job (own_eta j)) (i.job.count - 1)

    abbrev o₃ : KrylovPhiOptions
    o₃ = with_tol o (in_force i.tolerance p.tol)

    as_22 : p.run.ended ≡ false → Fits j i.job → checked p i ≡ first (i.job.g.checks ++ (up_to_21 o₃ i.job i.output i.memory ++ (refuse GainNotFinite bad nan ∷ from_24 o₃ i.job i.output i.memory)))
    as_22 e fit = same e fit ∙ ap first (asked_all o₃ i.job i.output i.memory plain bad ∙ ap (λ (l : List Check). i.job.g.checks ++ l) (one_22 o₃ i.job i.output i.memory bad))

    only_22 : p.run.ended ≡ false → Fits j i.job → {x : Float} → checked p i ≡ Refused GainNotFinite x → Refused22 o j p i × (x ≡ nan)
    unfolding exists
    only_22 e fit {x} r =
        let k = others_22 o₃ i.job i.output i.memory in
        let h = only_by GainNotFinite bad nan i.job.g.checks (up_to_21 o₃ i.job i.output i.memory) (from_24 o₃ i.job i.output i.memory) plain.no_22 k.0 k.1 (sym r ∙ as_22 e fit) in
        let d = i.job.count - 1 in
        let t = overflows i.job (own_eta j) in
        let l : find t d < d = ltb-true (find t d) d h.1.0 in
        (record { earlier = h.0 ∙ ap first (front_22 o₃ i.job i.output i.memory plain bad); place = find t d; below = l; overflow = find_holds t d l }, h.1.1)

    if_22 : p.run.ended ≡ false → Fits j i.job → Refused22 o j p i → checked p i ≡ Refused GainNotFinite nan
    if_22 e fit h =
        let k = others_22 o₃ i.job i.output i.memory in
        as_22 e fit
        ∙ sym (if_by GainNotFinite bad nan i.job.g.checks (up_to_21 o₃ i.job i.output i.memory) (from_24 o₃ i.job i.output i.memory) plain.no_22 k.0 k.1 (h.earlier ∙ sym (ap first (front_22 o₃ i.job i.output i.memory plain bad))) (there h) refl)
      where
        there : Refused22 o j p i → bad ≡ true
        there h = go bad refl
          where
            go : (b : Bool) → bad ≡ b → b ≡ true
            go true q = refl
            go false q = absurd (true≢false (sym h.overflow ∙ none_below (overflows i.job (own_eta j)) (i.job.count - 1) q h.place h.below))

    pub early : EarlyClaim o j p i
    early = record { if_31 = if_31; only_31 = only_31; other = other; same = same; only_22 = only_22; if_22 = if_22; own = own; unchanged = unchanged }
