-- What Taylor sweeps make, product by product (phi_action_helpers.rs, `run_sweeps`; Al-Mohy and Higham 2011, Algorithm 3.2 without its early stop). Definitions only.
use Rattle.std.specs.Prelude.{List, ℕ, zero, suc, ◌+◌, Float, if◌then◌else◌}
use Rattle.lists.specs.Loop.{iter, tabulate, zip_with, stack}
use Rattle.doubles.specs.F64.{◌⊕◌}
use Rattle.vectors.specs.Vectors.{scale}
use Rattle.phi_action_helpers.specs.Augmented.{Augmented, aug_matvec}
use Rattle.phi_action_helpers.specs.Sweeps.{shifted, scales, rescale}
use Rattle.phi_action_helpers.specs.declared.SweepPlan.{SweepPlan}

module _ (b : Augmented) (tau : Float) (p : SweepPlan) where
  -- the terms of a sweep from y: y, and each further one the product with the one before it
  unfoldable pub term : List Float → ℕ → List Float
  term y zero = y
  term y (suc k) = aug_matvec b (scales tau p (k + 1)) (term y k)

  -- the field after a sweep: y and its m products added up, times e ^ (mu / s) where the plan is shifted
  unfoldable pub swept : List Float → List Float
  swept y = let z = iter (λ k x. zip_with ◌⊕◌ x (term y (suc k))) p.m y in if shifted p then scale (rescale p) z else z

  -- after i sweeps
  unfoldable pub field_at : List Float → ℕ → List Float
  field_at y i = iter (λ _ x. swept x) i y

  -- every product of the s sweeps from y
  unfoldable pub products : List Float → List (List Float)
  products y = stack p.s (λ i. tabulate p.m (λ k. term (field_at y i) (suc k)))
