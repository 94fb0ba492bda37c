-- Sweeps on lists: what the steps of a term, of a sweep and of a run leave in the memory. Assumes nothing.
use Rattle.std.specs.Prelude.{if◌then◌else◌}
use mathlib.Core.Path.{◌≡◌, refl, sym, ap, ◌∙◌}
use mathlib.Core.Bool.{Bool, true, false}
use mathlib.Core.List.{List}
use Prim.Native.Nat.{ℕ, ◌+◌, ◌*◌, ◌≤◌, ◌<◌}
use native.Mathlib.Omega.{arith}
use native.Mathlib.Numerals.{add-one}
use native.Mathlib.Nat.{zero-add}
use lib.ListN.{length, get_or}
use lib.Ieee.{Float}
use Rattle.lists.specs.Loop.{iter, zip_with}
use Rattle.lists.specs.Window.{window, splice}
use Rattle.lists.specs.Frame.{Kept}
use Rattle.lists.proofs.Loop.{iter_none, iter_turn, length_zip_with}
use Rattle.lists.proofs.Window.{length_window}
use Rattle.lists.proofs.Frame.{wrote, written, untouched, wrote_long, kept_all, kept_by, kept_on, kept_window}
use Rattle.doubles.specs.F64.{◌⊕◌, +0}
use Rattle.vectors.specs.Vectors.{scale}
use Rattle.general_operator.specs.Csr.{Csr, Valid, apply_generator}
use Rattle.general_operator.proofs.Rows.{length_apply}
use Rattle.csr_matvec.specs.Values.{values, Stored}
use Rattle.phi_action_helpers.specs.declared.Layout.{Layout}
use Rattle.phi_action_helpers.specs.declared.Coupling.{Coupling}
use Rattle.phi_action_helpers.specs.declared.Scales.{Scales}
use Rattle.phi_action_helpers.specs.declared.SweepPlan.{SweepPlan}
use Rattle.phi_action_helpers.specs.Augmented.{Augmented, aug_matvec}
use Rattle.phi_action_helpers.specs.Sweeps.{shifted, Horner, scales, horner_step, aug_horner_outer, Swept, rescale, sweep}
use Rattle.phi_action_helpers.specs.Laid.{matrix_at, operator_at, Laid, ReadyAt, Lined, horner_at, swept_at}
use Rattle.phi_action_helpers.proofs.Augmented.{length_aug_matvec}
use Rattle.phi_action_helpers.proofs.Counts.{terms_counted, sweep_counted, sweeps_counted, rescaled_long}

-- a product and the sum: the field and the term, and nothing from the quotients on
module _
    (l : Layout)
    (b : Coupling)
    (starts cols : List ℕ)
    (vals vectors : List Float)
    (tau : Float)
    (p : SweepPlan)
    (k a : ℕ)
    (s : Scales)
    (w₀ w₁ w₂ : List Float)
    (o : Lined l)
    (fits : l.av + l.n ≤ length w₀)
    (es : s ≡ scales tau p (k + 1))
    (e₁ : w₁ ≡ splice l.w (aug_matvec (operator_at l b starts cols vals vectors w₀) s (window l.w (l.n + l.d) w₀)) (splice l.av (apply_generator (matrix_at l starts cols vals w₀) (window l.w l.n w₀)) w₀))
    (e₂ : w₂ ≡ splice 0 (zip_with ◌⊕◌ (window 0 (l.n + l.d) w₁) (window l.w (l.n + l.d) w₁)) w₁) where
  pub term_made : (horner_at l (a + 1) w₂ ≡ horner_step (operator_at l b starts cols vals vectors w₀) tau p k (horner_at l a w₀)) × Kept 0 l.q +0 w₀ w₂
  unfolding horner_step
  term_made =
      let n = l.n in
      let m = l.n + l.d in
      let q = matrix_at l starts cols vals w₀ in
      let B = operator_at l b starts cols vals vectors w₀ in
      let t₀ = wrote l.av n (apply_generator q (window l.w n w₀)) w₀ _ (length_apply q _) refl in
      let l₀ = wrote_long t₀ in
      let t₁ = wrote l.w m (aug_matvec B s (window l.w m w₀)) _ w₁ (length_aug_matvec B s _) e₁ in
      let l₁ = wrote_long t₁ in
      let ly : length (window 0 m w₁) ≡ m = length_window 0 m w₁ (omega arith) in
      let lw : length (window l.w m w₁) ≡ m = length_window l.w m w₁ (omega arith) in
      let t₂ = wrote 0 m _ w₁ w₂ (length_zip_with ◌⊕◌ _ _ (ly ∙ sym lw) ∙ ly) e₂ in
      let w_is : window l.w m w₁ ≡ aug_matvec B (scales tau p (k + 1)) (window l.w m w₀) = written t₁ (omega arith) ∙ rw es in
      let y_is : window 0 m w₁ ≡ window 0 m w₀ = untouched t₁ 0 m (omega arith) ∙ untouched t₀ 0 m (omega arith) in
      let y₂ : window 0 m w₂ ≡ zip_with ◌⊕◌ (window 0 m w₀) (aug_matvec B (scales tau p (k + 1)) (window l.w m w₀)) = written t₂ (omega arith) ∙ rw (y_is, w_is) in
      let w₂_is : window l.w m w₂ ≡ aug_matvec B (scales tau p (k + 1)) (window l.w m w₀) = untouched t₂ l.w m (omega arith) ∙ w_is in (
        (λ i. record { y = y₂ i; w = w₂_is i; applied = add-one a i }),
        kept_by (kept_by (kept_by (kept_all 0 l.q +0 w₀) t₀ (omega arith) (omega arith)) t₁ (omega arith) (omega arith)) t₂ (omega arith) (omega arith),
      )

-- ---- the quotients stay
pub values_kept : (m : Bool) (q : ℕ) (vals w₀ w : List Float) → Kept 0 q +0 w₀ w → values m q vals w ≡ values m q vals w₀
unfolding values
values_kept true q vals w₀ w k = kept_window k q (length vals) (omega arith)
values_kept false q vals w₀ w k = refl

pub ready_kept : {l : Layout} {b : Coupling} (starts cols : List ℕ) (vals vectors : List Float) {w₀ w : List Float} → Kept 0 l.q +0 w₀ w
    → ReadyAt l b starts cols vals vectors w₀ → ReadyAt l b starts cols vals vectors w
ready_kept {l} starts cols vals vectors {w₀} {w} k h = rw (values_kept l.mass l.q vals w₀ w k, k.long) h

-- ---- what a run needs, by its parts
stored_past : (m : Bool) (q count dst n long : ℕ) → dst + n ≤ q → (m ≡ true → q + count ≤ long) → Stored m q count dst n long
stored_past true q count dst n long h k = (k refl, omega arith)
stored_past false q count dst n long h k = tt

pub laid : {l : Layout} {b : Coupling} {q : Csr} {vals vectors work : ℕ} → Lined l → Valid q → b.count ≤ 3 → b.count ≤ l.d
    → ((j : ℕ) → j < b.count → get_or b.places j 0 + l.n ≤ vectors)
    → l.av + l.n ≤ work
    → (l.mass ≡ true → l.q + vals ≤ work)
    → Laid l b q vals vectors work
laid {l} o v few chained columns fits m =
    record {
      valid = v;
      few = few;
      chained = chained;
      columns = columns;
      w_in = omega arith;
      av_in = fits;
      apart = omega arith;
      stored = stored_past l.mass _ _ _ _ _ o.then_product m;
    }

-- ---- the terms of a sweep
module _ (l : Layout) (b : Coupling) (starts cols : List ℕ) (vals vectors : List Float) (tau : Float) (p : SweepPlan) where
  -- after k terms from w₀ on, a of them counted
  pub record State (k a : ℕ) (w₀ w : List Float) : Type 0 where
    pub view : horner_at l a w ≡ iter (horner_step (operator_at l b starts cols vals vectors w₀) tau p) k (horner_at l 0 w₀)
    pub kept : Kept 0 l.q +0 w₀ w

module _ {l : Layout} {b : Coupling} {starts cols : List ℕ} {vals vectors : List Float} {tau : Float} {p : SweepPlan} where
  pub began : (w : List Float) → State l b starts cols vals vectors tau p 0 0 w w
  began w = record { view = sym (iter_none _ _); kept = kept_all 0 l.q +0 w }

  pub turn : {k a a' : ℕ} {w₀ w w' : List Float} → State l b starts cols vals vectors tau p k a w₀ w
      → horner_at l a' w' ≡ horner_step (operator_at l b starts cols vals vectors w) tau p k (horner_at l a w)
      → Kept 0 l.q +0 w w'
      → State l b starts cols vals vectors tau p (k + 1) a' w₀ w'
  turn {w₀ = w₀} {w = w} s e h = record { view = iter_turn _ _ _ _ _ s.view (rw (values_kept l.mass l.q vals w₀ w s.kept) at e); kept = kept_on s.kept h }

  pub state_counted : {k a : ℕ} {w₀ w : List Float} → State l b starts cols vals vectors tau p k a w₀ w → a ≡ k
  state_counted {k} s = ap (λ (h : Horner). h.applied) s.view ∙ terms_counted _ tau p k _ ∙ zero-add k

-- ---- one sweep
-- the field is the first term
pub copied : (l : Layout) (w₀ w₁ : List Float) → Lined l → l.av + l.n ≤ length w₀ → w₁ ≡ splice l.w (window 0 (l.n + l.d) w₀) w₀
    → (horner_at l 0 w₁ ≡ record { y = window 0 (l.n + l.d) w₀; w = window 0 (l.n + l.d) w₀; applied = 0 }) × Kept 0 l.q +0 w₀ w₁
copied l w₀ w₁ o fits e =
    let m = l.n + l.d in
    let t = wrote l.w m (window 0 m w₀) w₀ w₁ (length_window 0 m w₀ (omega arith)) e in
    let y_is = untouched t 0 m (omega arith) in
    let w_is = written t (omega arith) in
    ((λ i. record { y = y_is i; w = w_is i; applied = 0 }), kept_by (kept_all 0 l.q +0 w₀) t (omega arith) (omega arith))

module _ (l : Layout) (b : Coupling) (starts cols : List ℕ) (vals vectors : List Float) (tau : Float) (p : SweepPlan) where
  -- all terms, from the copy on
  pub swept_once : (a : ℕ) (w₀ w₁ w₂ : List Float) → Lined l → l.av + l.n ≤ length w₀ → w₁ ≡ splice l.w (window 0 (l.n + l.d) w₀) w₀
      → horner_at l a w₂ ≡ iter (horner_step (operator_at l b starts cols vals vectors w₁) tau p) p.m (horner_at l 0 w₁)
      → Kept 0 l.q +0 w₁ w₂
      → (horner_at l a w₂ ≡ aug_horner_outer (operator_at l b starts cols vals vectors w₀) tau p (window 0 (l.n + l.d) w₀)) × Kept 0 l.q +0 w₀ w₂
  unfolding aug_horner_outer
  swept_once a w₀ w₁ w₂ o fits e₁ e₂ k =
      let c = copied l w₀ w₁ o fits e₁ in
      (e₂ ∙ rw (values_kept l.mass l.q vals w₀ w₁ c.1, c.0), kept_on c.1 k)

module _ (l : Layout) (b : Augmented) (tau : Float) (p : SweepPlan) where
  pub made_is : (a : ℕ) (w y : List Float) → horner_at l a w ≡ aug_horner_outer b tau p y → a ≡ p.m
  made_is a w y e = ap (λ (h : Horner). h.applied) e ∙ sweep_counted b tau p y

  -- the rescale
  pub rescaled : (a made : ℕ) (f : Float) (w₀ w₁ w₂ : List Float) → Lined l → l.av + l.n ≤ length w₀ → f ≡ rescale p
      → horner_at l made w₁ ≡ aug_horner_outer b tau p (window 0 (l.n + l.d) w₀)
      → Kept 0 l.q +0 w₀ w₁
      → w₂ ≡ splice 0 (if shifted p then scale f (window 0 (l.n + l.d) w₁) else window 0 (l.n + l.d) w₁) w₁
      → (swept_at l (a + made) w₂ ≡ sweep b tau p (swept_at l a w₀)) × Kept 0 l.q +0 w₀ w₂
  unfolding sweep
  rescaled a made f w₀ w₁ w₂ o fits ef e₁ k e₂ =
      let m = l.n + l.d in
      let long = k.long in
      let t = wrote 0 m _ w₁ w₂ (rescaled_long (shifted p) f (window 0 m w₁) ∙ length_window 0 m w₁ (omega arith)) e₂ in
      let y_is : window 0 m w₁ ≡ (aug_horner_outer b tau p (window 0 m w₀)).y = ap (λ (h : Horner). h.y) e₁ in
      let a_is : a + made ≡ a + (aug_horner_outer b tau p (window 0 m w₀)).applied = ap (λ (h : Horner). a + h.applied) e₁ in
      let y₂ : window 0 m w₂ ≡ (if shifted p then scale (rescale p) (aug_horner_outer b tau p (window 0 m w₀)).y else (aug_horner_outer b tau p (window 0 m w₀)).y) = written t (omega arith) ∙ rw (ef, y_is) in
      ((λ i. record { y = y₂ i; applied = a_is i }), kept_by k t (omega arith) (omega arith))

-- ---- the sweeps of a run
module _ (l : Layout) (b : Coupling) (starts cols : List ℕ) (vals vectors : List Float) (tau : Float) (p : SweepPlan) where
  -- after i sweeps from w₀ on, with a products
  pub record Running (i a : ℕ) (w₀ w : List Float) : Type 0 where
    pub view : swept_at l a w ≡ iter (λ _ r. sweep (operator_at l b starts cols vals vectors w₀) tau p r) i (swept_at l 0 w₀)
    pub kept : Kept 0 l.q +0 w₀ w

module _ {l : Layout} {b : Coupling} {starts cols : List ℕ} {vals vectors : List Float} {tau : Float} {p : SweepPlan} where
  pub run_began : (w : List Float) → Running l b starts cols vals vectors tau p 0 0 w w
  run_began w = record { view = sym (iter_none _ _); kept = kept_all 0 l.q +0 w }

  pub run_turn : {i a a' : ℕ} {w₀ w w' : List Float} → Running l b starts cols vals vectors tau p i a w₀ w
      → swept_at l a' w' ≡ sweep (operator_at l b starts cols vals vectors w) tau p (swept_at l a w)
      → Kept 0 l.q +0 w w'
      → Running l b starts cols vals vectors tau p (i + 1) a' w₀ w'
  run_turn {w₀ = w₀} {w = w} s e h = record { view = iter_turn _ _ _ _ _ s.view (rw (values_kept l.mass l.q vals w₀ w s.kept) at e); kept = kept_on s.kept h }

  pub running_counted : {i a : ℕ} {w₀ w : List Float} → Running l b starts cols vals vectors tau p i a w₀ w → a ≡ i * p.m
  running_counted {i} s = ap (λ (r : Swept). r.applied) s.view ∙ sweeps_counted _ tau p i _ ∙ zero-add (i * p.m)
