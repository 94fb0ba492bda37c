-- The sweeps of a plan make the products that are named, s × m from each start, and give the fields that these make. Assumes nothing.
use Rattle.std.specs.Prelude.{if◌then◌else◌}
use mathlib.Core.Path.{◌≡◌, refl, sym, ap, ◌∙◌}
use mathlib.Core.List.{List, ◌++◌}
use Prim.Native.Nat.{ℕ, zero, suc, ◌*◌}
use native.Mathlib.Omega.{arith}
use native.Mathlib.Nat.{zero-mul, suc-mul, one-mul}
use lib.ListN.{length, length-append}
use lib.Ieee.{Float}
use Rattle.lists.specs.Loop.{iter, zip_with, stack}
use Rattle.lists.specs.Window.{window}
use Rattle.lists.proofs.Loop.{length_tabulate}
use Rattle.doubles.specs.F64.{◌⊕◌}
use Rattle.vectors.specs.Vectors.{scale}
use Rattle.phi_action_helpers.specs.Augmented.{Augmented}
use Rattle.phi_action_helpers.specs.Sweeps.{shifted, rescale, Horner, horner_step, aug_horner_outer, Swept, sweep, run_sweeps}
use Rattle.phi_action_helpers.specs.declared.SweepPlan.{SweepPlan}
use Rattle.combination.specs.Combination.{init_aug_vector}
use Rattle.taylor_job.specs.Calls.{Fields, swept_fields, batch_step, batched}
use Rattle.phi_batch.proofs.Batch.{soak_counted, batch_counted}
use Rattle.demand_3.specs.Products.{term, swept, field_at, products}

length_stack : {A : Type 0} (n c : ℕ) (r : ℕ → List A) → ((i : ℕ) → length (r i) ≡ c) → length (stack n r) ≡ n * c
unfolding stack
length_stack zero c r h = sym (zero-mul c)
length_stack (suc n) c r h = length-append (stack n r) (r n) ∙ omega (arith, length_stack n c r h, h n, suc-mul n c)

module _ (b : Augmented) (tau : Float) (p : SweepPlan) where
  terms_made : (y : List Float) (k : ℕ)
      → iter (horner_step b tau p) k (record { y = y; w = y; applied = 0 }) ≡ record { y = iter (λ j x. zip_with ◌⊕◌ x (term b tau p y (suc j))) k y; w = term b tau p y k; applied = k }
  unfolding iter horner_step term
  terms_made y zero = refl
  terms_made y (suc k) = ap (horner_step b tau p k) (terms_made y k)

  sweep_made : (r : Swept) → (sweep b tau p r).y ≡ swept b tau p r.y
  unfolding sweep aug_horner_outer swept
  sweep_made r = ap (λ (h : Horner). if shifted p then scale (rescale p) h.y else h.y) (terms_made r.y p.m)

  sweeps_made : (y : List Float) (i : ℕ) → (iter (λ _ r. sweep b tau p r) i (record { y = y; applied = 0 })).y ≡ field_at b tau p y i
  unfolding iter field_at
  sweeps_made y zero = refl
  sweeps_made y (suc i) = sweep_made (iter (λ _ r. sweep b tau p r) i (record { y = y; applied = 0 })) ∙ ap (swept b tau p) (sweeps_made y i)

  run_made : (y : List Float) → (run_sweeps b tau p y).y ≡ field_at b tau p y p.s
  unfolding run_sweeps
  run_made y = sweeps_made y p.s

  products_counted : (y : List Float) → length (products b tau p y) ≡ p.s * p.m
  unfolding products
  products_counted y = length_stack p.s p.m _ (λ i. length_tabulate p.m _)

-- what a job of `runs` functions makes under the plan p
pub record Made (b : Augmented) (tau : Float) (runs : ℕ) (start : ℕ → List Float) (p : SweepPlan) (f : Fields) : Type 0 where
  pub applications : f.applied ≡ length (stack runs (λ i. products b tau p (start i)))
  pub counted : f.applied ≡ runs * (p.s * p.m)
  pub fields : f.fields ≡ stack runs (λ i. window 0 b.matrix.n (field_at b tau p (start i) p.s))

module _ (b : Augmented) (tau : Float) (p : SweepPlan) where
  all_counted : (runs : ℕ) (start : ℕ → List Float) → length (stack runs (λ i. products b tau p (start i))) ≡ runs * (p.s * p.m)
  all_counted runs start = length_stack runs (p.s * p.m) _ (λ i. products_counted b tau p (start i))

  pub one_made : (y : List Float) → Made b tau 1 (λ _. y) p (swept_fields b tau y p)
  unfolding swept_fields stack
  one_made y =
      let c : (swept_fields b tau y p).applied ≡ 1 * (p.s * p.m) = soak_counted b tau y p ∙ sym (one-mul _) in
      record { applications = c ∙ sym (all_counted 1 (λ _. y)); counted = c; fields = ap (window 0 b.matrix.n) (run_made b tau p y) }

  module _ (v : List Float) (inv : Float) where
    abbrev start : ℕ → List Float
    start k = init_aug_vector b.matrix.n v inv k

    batch_fields : (k : ℕ) → (batched b tau v inv k p).fields ≡ stack k (λ i. window 0 b.matrix.n (field_at b tau p (start i) p.s))
    unfolding batched batch_step swept_fields iter stack
    batch_fields zero = refl
    batch_fields (suc k) =
        ap (λ (l : List Float). l ++ window 0 b.matrix.n (run_sweeps b tau p (start k)).y) (batch_fields k)
        ∙ ap (λ (x : List Float). stack k (λ i. window 0 b.matrix.n (field_at b tau p (start i) p.s)) ++ window 0 b.matrix.n x) (run_made b tau p (start k))

    pub batch_made : (k : ℕ) → Made b tau k start p (batched b tau v inv k p)
    batch_made k = record { applications = batch_counted b tau v inv p k ∙ sym (all_counted k start); counted = batch_counted b tau v inv p k; fields = batch_fields k }
