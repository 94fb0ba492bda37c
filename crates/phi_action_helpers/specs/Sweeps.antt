-- Taylor sweeps (phi_action_helpers.rs, `aug_horner_outer`, `run_sweeps`; Al-Mohy and Higham 2011, Algorithm 3.2 without its early stop). Definitions only.
use Rattle.std.specs.Prelude.{Bool, not, List, ℕ, suc, ◌+◌, Float, if◌then◌else◌}
use Rattle.std.specs.Float.Ieee.{eq}
use Rattle.lists.specs.Loop.{iter, zip_with}
use Rattle.doubles.specs.F64.{◌⊕◌, ◌⊗◌, ◌⊘◌, nat, +0, 1f}
use Rattle.vectors.specs.Vectors.{scale, open_vectors}
use Rattle.dense_la.specs.DenseExp.{dense_exp, open_dense_exp}
use Rattle.phi_action_helpers.specs.declared.Scales.{Scales}
use Rattle.phi_action_helpers.specs.declared.SweepPlan.{SweepPlan}
use Rattle.phi_action_helpers.specs.Augmented.{Augmented, aug_matvec, open_augmented}

abbrev pub shifted : SweepPlan → Bool
shifted p = not (eq p.mu +0)

-- the scalars of term j
unfoldable pub scales : Float → SweepPlan → ℕ → Scales
scales tau p j =
    let js = nat j ⊗ nat p.s in
    record { shifted = shifted p; tau = tau ⊘ js; one = 1f ⊘ js; mu = p.mu ⊘ js }

-- the sum so far, the last term, and the products with the generator made
pub record Horner : Type 0 where
  pub y : List Float
  pub w : List Float
  pub applied : ℕ

-- term k + 1
unfoldable pub horner_step : Augmented → Float → SweepPlan → ℕ → Horner → Horner
horner_step b tau p k h =
    let w = aug_matvec b (scales tau p (k + 1)) h.w in
    record { y = zip_with ◌⊕◌ h.y w; w = w; applied = suc h.applied }

-- one sweep: all m terms
unfoldable pub aug_horner_outer : Augmented → Float → SweepPlan → List Float → Horner
aug_horner_outer b tau p y = iter (horner_step b tau p) p.m (record { y = y; w = y; applied = 0 })

-- the field, and the products with the generator made
pub record Swept : Type 0 where
  pub y : List Float
  pub applied : ℕ

-- e ^ (mu / s)
unfoldable pub rescale : SweepPlan → Float
rescale p = dense_exp (p.mu ⊘ nat p.s)

unfoldable pub sweep : Augmented → Float → SweepPlan → Swept → Swept
sweep b tau p r =
    let h = aug_horner_outer b tau p r.y in
    record { y = if shifted p then scale (rescale p) h.y else h.y; applied = r.applied + h.applied }

-- s sweeps
unfoldable pub run_sweeps : Augmented → Float → SweepPlan → List Float → Swept
run_sweeps b tau p y = iter (λ _ r. sweep b tau p r) p.s (record { y = y; applied = 0 })

-- to compute: a line `unfolding open_sweeps` opens every definition of this file and of those below it
unfoldable pub open_sweeps : Unit {0}
unfolding scales horner_step aug_horner_outer rescale sweep run_sweeps open_augmented open_vectors open_dense_exp
open_sweeps = tt
