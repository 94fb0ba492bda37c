-- A batch: its products, its fields' lengths, and the loop over its functions. Assumes nothing.
use mathlib.Core.Path.{◌≡◌, refl, sym, ap, ◌∙◌}
use mathlib.Core.List.{List}
use Prim.Native.Nat.{ℕ, zero, suc, ◌+◌, ◌*◌, ◌≤◌}
use native.Mathlib.Omega.{arith}
use native.Mathlib.Nat.{zero-add, zero-mul, suc-mul}
use native.Mathlib.Numerals.{add-one}
use lib.ListN.{length, length-append}
use lib.Ieee.{Float}
use Rattle.lists.specs.Loop.{iter}
use Rattle.lists.specs.Window.{window, splice}
use Rattle.lists.specs.Frame.{Kept}
use Rattle.lists.proofs.Bounds.{product_within}
use Rattle.lists.proofs.Window.{window_splice_same, splice_nil, splice_more, splice_whole}
use Rattle.lists.proofs.Frame.{wrote, kept_all, kept_by, kept_on}
use Rattle.doubles.specs.F64.{+0}
use Rattle.general_operator.specs.Csr.{Csr}
use Rattle.phi_action_helpers.specs.declared.Layout.{Layout}
use Rattle.phi_action_helpers.specs.declared.Coupling.{Coupling}
use Rattle.phi_action_helpers.specs.declared.SweepPlan.{SweepPlan}
use Rattle.phi_action_helpers.specs.Augmented.{Augmented}
use Rattle.phi_action_helpers.specs.Laid.{operator_at, Laid, Lined}
use Rattle.phi_action_helpers.proofs.Sweeps.{values_kept}
use Rattle.phi_action_helpers.proofs.Counts.{run_counted}
use Rattle.combination.specs.Combination.{init_aug_vector}
use Rattle.taylor_job.specs.Calls.{swept_fields, batch_step, batched}
use Rattle.taylor_job.proofs.Jobs.{soak_long}
use Rattle.taylor_schedule.proofs.Admitted.{length_init}

-- ---- one run
pub soak_counted : (b : Augmented) (tau : Float) (y : List Float) (p : SweepPlan) → (swept_fields b tau y p).applied ≡ p.s * p.m
unfolding swept_fields
soak_counted b tau y p = run_counted b tau p y

-- ---- k runs
module _ (b : Augmented) (tau : Float) (v : List Float) (inv : Float) (p : SweepPlan) where
  pub batch_counted : (k : ℕ) → (batched b tau v inv k p).applied ≡ k * (p.s * p.m)
  unfolding batched batch_step iter
  batch_counted zero = sym (zero-mul (p.s * p.m))
  batch_counted (suc k) = omega (arith, batch_counted k, soak_counted b tau (init_aug_vector b.matrix.n v inv k) p, suc-mul k (p.s * p.m))

  pub batch_long : (k : ℕ) → length v ≡ b.matrix.n → b.d ≡ 3 → length (batched b tau v inv k p).fields ≡ k * b.matrix.n
  unfolding batched batch_step iter
  batch_long zero lv d = sym (zero-mul b.matrix.n)
  batch_long (suc k) lv d =
      let f = soak_long b tau (init_aug_vector b.matrix.n v inv k) p (length_init b.matrix.n v inv k lv ∙ rw d refl) in
      length-append (batched b tau v inv k p).fields _ ∙ omega (arith, batch_long k lv d, f, suc-mul k b.matrix.n)

-- k at most 4: far from 2 ^ 64
pub batch_fits : (p : SweepPlan) (k : ℕ) → k ≤ 4 → p.s ≤ 4294967295 → p.m ≤ 30 → k * (p.s * p.m) ≤ 515396075400
batch_fits p k few s m = product_within 4 128849018850 few (product_within 4294967295 30 s m)

-- ---- the first field lies within the memory, and is written before the quotients
pub field_within : {l : Layout} {b : Coupling} {q : Csr} {vals vectors work : ℕ} → Laid l b q vals vectors work → Lined l → l.n + l.d ≤ work
field_within h o = omega (arith, h.av_in, o.field_first, o.then_term)

pub init_kept : {l : Layout} (v : List Float) (inv : Float) (k : ℕ) {w w₁ : List Float} → Lined l → l.d ≡ 3 → length v ≡ l.n → w₁ ≡ splice 0 (init_aug_vector l.n v inv k) w → Kept 0 l.q +0 w w₁
init_kept {l} v inv k {w} {w₁} o d lv e =
    kept_by (kept_all 0 l.q +0 w) (wrote 0 (l.n + 3) _ w w₁ (length_init l.n v inv k lv) e) (omega arith) (omega (arith, o.field_first, o.then_term, o.then_product))

-- ---- the loop: after k functions from w₀ and out₀ on, a products
module _ (l : Layout) (b : Coupling) (starts cols : List ℕ) (vals v : List Float) (tau inv : Float) (p : SweepPlan) where
  pub record Batch (k a : ℕ) (w₀ w out₀ out : List Float) : Type 0 where
    pub counted : a ≡ (batched (operator_at l b starts cols vals v w₀) tau v inv k p).applied
    pub made : out ≡ splice 0 (batched (operator_at l b starts cols vals v w₀) tau v inv k p).fields out₀
    pub kept : Kept 0 l.q +0 w₀ w

module _ {l : Layout} {b : Coupling} {starts cols : List ℕ} {vals v : List Float} {tau inv : Float} {p : SweepPlan} where
  pub batch_began : (w out : List Float) → Batch l b starts cols vals v tau inv p 0 0 w w out out
  unfolding batched iter
  batch_began w out = record { counted = refl; made = sym (splice_nil 0 out); kept = kept_all 0 l.q +0 w }

  pub batch_turn : {k a a' : ℕ} {w₀ w w₁ w₂ out₀ out out' : List Float} → Batch l b starts cols vals v tau inv p k a w₀ w out₀ out → Lined l → l.d ≡ 3 → length v ≡ l.n → l.n + 3 ≤ length w
      → w₁ ≡ splice 0 (init_aug_vector l.n v inv k) w
      → a' ≡ (swept_fields (operator_at l b starts cols vals v w₁) tau (window 0 (l.n + l.d) w₁) p).applied
      → out' ≡ splice (k * l.n) (swept_fields (operator_at l b starts cols vals v w₁) tau (window 0 (l.n + l.d) w₁) p).fields out
      → Kept 0 l.q +0 w₁ w₂
      → Batch l b starts cols vals v tau inv p (k + 1) (a + a') w₀ w₂ out₀ out'
  unfolding batched batch_step iter
  batch_turn {k} {a} {a'} {w₀} {w} {w₁} {w₂} {out₀} {out} {out'} s o d lv fits e₁ ea eo h =
      let y = init_aug_vector l.n v inv k in
      let B = operator_at l b starts cols vals v w₀ in
      let k₁ = kept_on s.kept (init_kept v inv k o d lv e₁) in
      let field : window 0 (l.n + l.d) w₁ ≡ y = rw d (ap (window 0 (l.n + 3)) e₁ ∙ window_splice_same 0 (l.n + 3) y w (length_init l.n v inv k lv) (omega arith)) in
      let same = values_kept l.mass l.q vals w₀ w₁ k₁ in
      let ea' : a' ≡ (swept_fields B tau y p).applied = rw (same, field) at ea in
      let eo' : out' ≡ splice (k * l.n) (swept_fields B tau y p).fields out = rw (same, field) at eo in
      let long = batch_long B tau v inv p k lv d in
      record {
        counted = rw (add-one k, s.counted, ea') refl;
        made = rw (add-one k) (eo' ∙ ap (splice (k * l.n) (swept_fields B tau y p).fields) s.made ∙ rw (zero-add (k * l.n)) at (splice_more 0 (k * l.n) (batched B tau v inv k p).fields (swept_fields B tau y p).fields out₀ long));
        kept = kept_on k₁ h;
      }

  -- at the end the output is all fields
  pub batch_made : {k a : ℕ} {w₀ w out₀ out : List Float} → Batch l b starts cols vals v tau inv p k a w₀ w out₀ out → l.d ≡ 3 → length v ≡ l.n → length out₀ ≡ k * l.n
      → out ≡ (batched (operator_at l b starts cols vals v w₀) tau v inv k p).fields
  batch_made {k} {w₀ = w₀} {out₀ = out₀} s d lv lo = s.made ∙ splice_whole _ out₀ (batch_long (operator_at l b starts cols vals v w₀) tau v inv p k lv d ∙ sym lo)
