-- A test that walks along a run and looks at each operation: where it finds none that is bad, `InJob` holds. So a concrete job is proved to meet N9's condition by computation. Assumes nothing.
use Rattle.std.specs.Prelude.{Option, Some, None}
use mathlib.Core.Path.{◌≡◌, refl, sym, ap, ◌∙◌, subst}
use mathlib.Core.Bool.{Bool, true, false, not, ◌&&◌, ◌||◌, true≢false}
use mathlib.Core.List.{List}
use mathlib.Core.Logic.{inl, inr}
use Prim.Native.Nat.{ℕ, zero, suc, ◌+◌, ◌-◌, ◌*◌, ◌^◌, ◌≤◌, ◌<◌}
use native.Mathlib.Omega.{arith}
use lib.Dec.{T, eqb, leb, eqb→eq, leb→le}
use lib.IntN.{ℤ, pos, nat_abs, ◌*ℤ◌}
use lib.ListN.{length, get_or}
use lib.Ieee.{Float, neg, up, down}
use borrow.Author.Tests.{eq-eqb, not-false}
use Rattle.lists.specs.Loop.{iter}
use Rattle.lists.specs.Find.{exists, open_find}
use Rattle.lists.specs.Window.{window}
use Rattle.lists.proofs.Bounds.{lt_or_le}
use Rattle.lists.proofs.Find.{none_below}
use Rattle.doubles.specs.F64.{◌⊕◌, ◌⊗◌, at, is_finite}
use Rattle.doubles.specs.Sum.{sum}
use Rattle.doubles.specs.Units.{units, NotTiny}
use Rattle.doubles.specs.Clean.{Clean⊗, Clean⊕}
use Rattle.general_operator.specs.Csr.{Csr, start, row_sum_norm, apply_generator}
use Rattle.general_operator.proofs.Sound.{or_false, and_false}
use Rattle.phi_action_helpers.specs.declared.Scales.{Scales}
use Rattle.phi_action_helpers.specs.declared.SweepPlan.{SweepPlan}
use Rattle.phi_action_helpers.specs.Augmented.{Augmented, scalars, coupled, generator_term, aug_matvec}
use Rattle.phi_action_helpers.specs.Sweeps.{shifted, scales, Horner, horner_step, aug_horner_outer, Swept, rescale, sweep}
use Rattle.phi_shift.specs.Plan.{sweep_plan}
use Rattle.pow2.specs.Pow2.{exact_pow2}
use Rattle.scaling.specs.Operations.{InRow, InShare, InParts, InTerm, InSweep, InSweeps, terms_from, sweeps_from}
use Rattle.scaling.specs.Doubled.{CleanDoubled, scaling_of, operator_of, start_of, gain_of, InJob, CleanJob}

-- a state along the run, and whether an operation before it was bad
pub record Terms : Type 0 where
  pub h : Horner
  pub bad : Bool

pub record Sweeps : Type 0 where
  pub r : Swept
  pub bad : Bool

-- ---- the tests: `m` of a product and `a` of a sum say that it is bad
module _ (m a : Float → Float → Bool) where
  unfoldable pub row_bad : List ℕ → List Float → List Float → ℕ → ℕ → Bool
  row_bad columns entries u from to =
      let f : ℕ → Float = λ k. at entries (from + k) ⊗ at u (get_or columns (from + k) 0) in
      exists (λ k. m (at entries (from + k)) (at u (get_or columns (from + k) 0))) (to - from) || exists (λ k. a (sum k f) (f k)) (to - from)

  unfoldable pub share_bad : Bool → Float → Float → Float → Float → Bool
  share_bad s p x q y = m p x || (s && (m q y || a (p ⊗ x) (neg (q ⊗ y))))

  unfoldable pub parts_bad : Augmented → Scales → List Float → List Float → List Float → List Float → Bool
  parts_bad b k u c av sc =
      let n = b.matrix.n in
      exists (λ i. row_bad b.matrix.columns b.matrix.entries u (start b.matrix i) (start b.matrix (i + 1))) n
      || (exists (λ i. share_bad k.shifted k.tau (at av i) k.mu (at u i)) n
      || (exists (λ i. exists (λ j. m (at sc j) (at b.vectors (get_or b.places j 0 + i)) || a (coupled b.vectors b.places j sc i (generator_term k (at av i) (at u i))) (at sc j ⊗ at b.vectors (get_or b.places j 0 + i))) b.count) n
      || (exists (λ i. share_bad k.shifted k.one (at c (i + 1)) k.mu (at c i)) (b.d - 1)
      || exists (λ i. eqb (i + 1) b.d && (k.shifted && m k.mu (at c i))) b.d)))

  unfoldable pub term_bad : Augmented → Float → SweepPlan → ℕ → Horner → Bool
  term_bad b tau p k h =
      let u = window 0 b.matrix.n h.w in
      let c = window b.matrix.n b.d h.w in
      let w = aug_matvec b (scales tau p (k + 1)) h.w in
      parts_bad b (scales tau p (k + 1)) u c (apply_generator b.matrix u) (scalars b.gains b.count (scales tau p (k + 1)).one c)
      || exists (λ i. a (at h.y i) (at w i)) (b.matrix.n + b.d)

  -- k terms of a sweep from y
  unfoldable pub terms_bad : Augmented → Float → SweepPlan → List Float → ℕ → Terms
  terms_bad b tau p y k = iter (λ k s. record { h = horner_step b tau p k s.h; bad = term_bad b tau p k s.h || s.bad }) k (record { h = record { y = y; w = y; applied = 0 }; bad = false })

  unfoldable pub sweep_bad : Augmented → Float → SweepPlan → List Float → Bool
  sweep_bad b tau p y =
      let z = (aug_horner_outer b tau p y).y in
      (terms_bad b tau p y p.m).bad || (shifted p && exists (λ i. m (at z i) (rescale p)) (b.matrix.n + b.d))

  -- i sweeps from y
  unfoldable pub sweeps_bad : Augmented → Float → SweepPlan → List Float → ℕ → Sweeps
  sweeps_bad b tau p y i = iter (λ _ s. record { r = sweep b tau p s.r; bad = sweep_bad b tau p s.r.y || s.bad }) i (record { r = record { y = y; applied = 0 }; bad = false })

  unfoldable pub plan_bad : Option SweepPlan → Csr → Float → ℕ → List Float → Bool
  plan_bad None q tau count w = false
  plan_bad (Some p) q tau count w = (sweeps_bad (operator_of q tau count w) tau p (start_of q tau count w) p.s).bad

  unfoldable pub job_bad : Csr → Float → ℕ → ℕ → List Float → Bool
  job_bad q tau cap count w =
      exists (λ k. m (gain_of q tau w (k + 1)) (scaling_of q tau count w).eta) (count - 1) || plan_bad (sweep_plan cap tau q (row_sum_norm q)) q tau count w

-- ---- the conditions of N9 as such tests
unfoldable pub tiny : ℕ → ℤ → Bool
tiny k z = not (eqb (nat_abs z) 0 || leb k (nat_abs z))

unfoldable pub bad⊗ : Float → Float → Bool
bad⊗ x y = not (is_finite (x ⊗ y)) || tiny (2 ^ 1126) (units x *ℤ units y)

unfoldable pub bad⊕ : Float → Float → Bool
bad⊕ x y = not (is_finite (x ⊕ y))

unfoldable pub doubling_bad : ℤ → List Float → Bool
doubling_bad j x = exists (λ i. not (is_finite (at x i ⊗ exact_pow2 j)) || tiny (2 ^ 52 * down j) (units (at x i) *ℤ pos (up j))) (length x)

-- to compute: a line `unfolding open_tested` opens every test of this file
unfoldable pub open_tested : Unit {0}
unfolding row_bad share_bad parts_bad term_bad terms_bad sweep_bad sweeps_bad plan_bad job_bad tiny bad⊗ bad⊕ doubling_bad open_find
open_tested = tt

-- ---- where no operation is bad, each meets M or A
module _ (M A : Float → Float → Type 0) (m a : Float → Float → Bool) (m_good : (x y : Float) → m x y ≡ false → M x y) (a_good : (x y : Float) → a x y ≡ false → A x y) where
  row_good : (columns : List ℕ) (entries u : List Float) (from to : ℕ) → row_bad m a columns entries u from to ≡ false → InRow M A columns entries u from to
  unfolding row_bad
  row_good columns entries u from to e =
      let r = or_false (exists (λ k. m (at entries (from + k)) (at u (get_or columns (from + k) 0))) (to - from)) _ e in
      record { products = λ k l. m_good _ _ (none_below _ (to - from) r.0 k l); sums = λ k l. a_good _ _ (none_below _ (to - from) r.1 k l) }

  share_good : (s : Bool) (p x q y : Float) → share_bad m a s p x q y ≡ false → InShare M A s p x q y
  unfolding share_bad
  share_good s p x q y e =
      let r = or_false (m p x) _ e in
      record {
        first = m_good p x r.0;
        second = λ t. m_good q y (or_false (m q y) _ (and_false s _ r.1 t)).0;
        difference = λ t. a_good _ _ (or_false (m q y) _ (and_false s _ r.1 t)).1;
      }

  parts_good : (b : Augmented) (k : Scales) (u c av sc : List Float) → parts_bad m a b k u c av sc ≡ false → InParts M A b k u c av sc
  unfolding parts_bad
  parts_good b k u c av sc e =
      let n = b.matrix.n in
      let r₁ = or_false (exists (λ i. row_bad m a b.matrix.columns b.matrix.entries u (start b.matrix i) (start b.matrix (i + 1))) n) _ e in
      let r₂ = or_false (exists (λ i. share_bad m a k.shifted k.tau (at av i) k.mu (at u i)) n) _ r₁.1 in
      let r₃ = or_false (exists (λ i. exists (λ j. m (at sc j) (at b.vectors (get_or b.places j 0 + i)) || a (coupled b.vectors b.places j sc i (generator_term k (at av i) (at u i))) (at sc j ⊗ at b.vectors (get_or b.places j 0 + i))) b.count) n) _ r₂.1 in
      let r₄ = or_false (exists (λ i. share_bad m a k.shifted k.one (at c (i + 1)) k.mu (at c i)) (b.d - 1)) _ r₃.1 in
      record {
        rows = λ i l. row_good _ _ u _ _ (none_below _ n r₁.0 i l);
        shares = λ i l. share_good _ _ _ _ _ (none_below _ n r₂.0 i l);
        columns = λ i l j t. let h = or_false (m (at sc j) (at b.vectors (get_or b.places j 0 + i))) _ (none_below _ b.count (none_below _ n r₃.0 i l) j t) in (m_good _ _ h.0, a_good _ _ h.1);
        chain = λ i l. share_good _ _ _ _ _ (none_below _ (b.d - 1) r₄.0 i (omega arith));
        end = λ i l t. let h : (eqb (i + 1) b.d && (k.shifted && m k.mu (at c i))) ≡ false = none_below (λ i. eqb (i + 1) b.d && (k.shifted && m k.mu (at c i))) b.d r₄.1 i (omega arith) in m_good _ _ (and_false k.shifted _ (and_false (eqb (i + 1) b.d) _ h (eq-eqb _ _ l)) t);
      }

  term_good : (b : Augmented) (tau : Float) (p : SweepPlan) (k : ℕ) (h : Horner) → term_bad m a b tau p k h ≡ false → InTerm M A b tau p k h
  unfolding term_bad
  term_good b tau p k h e =
      let r = or_false (parts_bad m a b (scales tau p (k + 1)) _ _ _ _) _ e in
      record { product = parts_good b (scales tau p (k + 1)) _ _ _ _ r.0; sums = λ i l. a_good _ _ (none_below _ (b.matrix.n + b.d) r.1 i l) }

  module _ (b : Augmented) (tau : Float) (p : SweepPlan) where
    -- ---- along the terms of a sweep
    terms_state : (y : List Float) (k : ℕ) → (terms_bad m a b tau p y k).h ≡ terms_from b tau p y k
    unfolding terms_bad iter
    terms_state y zero = refl
    terms_state y (suc k) = ap (horner_step b tau p k) (terms_state y k)

    terms_good : (y : List Float) (k : ℕ) → (terms_bad m a b tau p y k).bad ≡ false → (i : ℕ) → i < k → InTerm M A b tau p i (terms_from b tau p y i)
    unfolding terms_bad iter
    terms_good y zero e i l = absurd (omega arith)
    terms_good y (suc k) e i l =
        let r = or_false (term_bad m a b tau p k (terms_bad m a b tau p y k).h) (terms_bad m a b tau p y k).bad e in
        elim (lt_or_le i k) [
          | inl g ↦ terms_good y k r.1 i g
          | inr g ↦ let f : k ≡ i = omega arith in subst (λ (j : ℕ). InTerm M A b tau p j (terms_from b tau p y j)) f (term_good b tau p k (terms_from b tau p y k) (ap (term_bad m a b tau p k) (sym (terms_state y k)) ∙ r.0))
        ]

    sweep_good : (y : List Float) → sweep_bad m a b tau p y ≡ false → InSweep M A b tau p y
    unfolding sweep_bad
    sweep_good y e =
        let r = or_false (terms_bad m a b tau p y p.m).bad _ e in
        record { terms = terms_good y p.m r.0; rescaled = λ t i l. m_good _ _ (none_below _ (b.matrix.n + b.d) (and_false (shifted p) _ r.1 t) i l) }

    -- ---- along the sweeps
    sweeps_state : (y : List Float) (i : ℕ) → (sweeps_bad m a b tau p y i).r ≡ sweeps_from b tau p y i
    unfolding sweeps_bad iter
    sweeps_state y zero = refl
    sweeps_state y (suc i) = ap (sweep b tau p) (sweeps_state y i)

    sweeps_good : (y : List Float) (k : ℕ) → (sweeps_bad m a b tau p y k).bad ≡ false → (i : ℕ) → i < k → InSweep M A b tau p (sweeps_from b tau p y i).y
    unfolding sweeps_bad iter
    sweeps_good y zero e i l = absurd (omega arith)
    sweeps_good y (suc k) e i l =
        let r = or_false (sweep_bad m a b tau p (sweeps_bad m a b tau p y k).r.y) (sweeps_bad m a b tau p y k).bad e in
        elim (lt_or_le i k) [
          | inl g ↦ sweeps_good y k r.1 i g
          | inr g ↦ let f : k ≡ i = omega arith in subst (λ (j : ℕ). InSweep M A b tau p (sweeps_from b tau p y j).y) f (sweep_good (sweeps_from b tau p y k).y (ap (λ (s : Swept). sweep_bad m a b tau p s.y) (sym (sweeps_state y k)) ∙ r.0))
        ]

  plan_good : (q : Csr) (tau : Float) (count : ℕ) (w : List Float) (x : Option SweepPlan) → plan_bad m a x q tau count w ≡ false → (p : SweepPlan) → x ≡ Some p → InSweeps M A (operator_of q tau count w) tau p (start_of q tau count w)
  unfolding plan_bad
  plan_good q tau count w None e p f = let z : zero ≡ 1 = cc in absurd (omega (arith, z))
  plan_good q tau count w (Some r) e p f = subst (λ (s : SweepPlan). InSweeps M A (operator_of q tau count w) tau s (start_of q tau count w)) (same f) (sweeps_good (operator_of q tau count w) tau r (start_of q tau count w) r.s e)
    where
      same : {r p : SweepPlan} → Some r ≡ Some p → r ≡ p
      same f = cc

  pub in_job : (q : Csr) (tau : Float) (cap count : ℕ) (w : List Float) → job_bad m a q tau cap count w ≡ false → InJob M A q tau cap count w
  unfolding job_bad
  in_job q tau cap count w e =
      let r = or_false (exists (λ k. m (gain_of q tau w (k + 1)) (scaling_of q tau count w).eta) (count - 1)) _ e in
      record {
        gains = gains_good r.0;
        sweeps = plan_good q tau count w (sweep_plan cap tau q (row_sum_norm q)) r.1;
      }
    where
      gains_good : exists (λ k. m (gain_of q tau w (k + 1)) (scaling_of q tau count w).eta) (count - 1) ≡ false → (k : ℕ) → 0 < k → k < count → M (gain_of q tau w k) (scaling_of q tau count w).eta
      gains_good e zero a l = absurd (omega arith)
      gains_good e (suc k) a l =
          let f : k + 1 ≡ suc k = omega arith in
          subst (λ (i : ℕ). M (gain_of q tau w i) (scaling_of q tau count w).eta) f (m_good _ _ (none_below _ (count - 1) e k (omega arith)))

-- ---- N9's conditions
tiny_not : (k : ℕ) (z : ℤ) → tiny k z ≡ false → NotTiny k z
unfolding tiny
tiny_not k z e = go (eqb (nat_abs z) 0) (leb k (nat_abs z)) (eqb→eq (nat_abs z) 0) (leb→le k (nat_abs z)) (not-false _ e)
  where
    go : (x y : Bool) → (T x → nat_abs z ≡ 0) → (T y → k ≤ nat_abs z) → (x || y) ≡ true → NotTiny k z
    go true y f g h = inl (f tt)
    go false true f g h = inr (g tt)
    go false false f g h = absurd (true≢false (sym h))

good⊗ : (x y : Float) → bad⊗ x y ≡ false → Clean⊗ x y
unfolding bad⊗
good⊗ x y e = let r = or_false (not (is_finite (x ⊗ y))) _ e in record { finite = not-false _ r.0; not_tiny = tiny_not (2 ^ 1126) (units x *ℤ units y) r.1 }

good⊕ : (x y : Float) → bad⊕ x y ≡ false → Clean⊕ x y
unfolding bad⊕
good⊕ x y e = not-false _ e

pub clean_job : (q : Csr) (tau : Float) (cap count : ℕ) (w : List Float) → job_bad bad⊗ bad⊕ q tau cap count w ≡ false → CleanJob q tau cap count w
clean_job q tau cap count w e = in_job Clean⊗ Clean⊕ bad⊗ bad⊕ good⊗ good⊕ q tau cap count w e

pub clean_doubled : (j : ℤ) (x : List Float) → doubling_bad j x ≡ false → CleanDoubled j x
unfolding doubling_bad
clean_doubled j x e i l =
    let r = or_false (not (is_finite (at x i ⊗ exact_pow2 j))) _ (none_below _ (length x) e i l) in
    record { finite = not-false _ r.0; not_tiny = tiny_not (2 ^ 52 * down j) (units (at x i) *ℤ pos (up j)) r.1 }
