-- The generator is applied exactly s * m times, and the field keeps its length. Assumes nothing.
use Rattle.std.specs.Prelude.{if◌then◌else◌}
use mathlib.Core.Path.{◌≡◌, refl, sym, ap, ◌∙◌}
use mathlib.Core.Bool.{Bool, true, false}
use mathlib.Core.List.{List}
use Prim.Native.Nat.{ℕ, zero, suc, ◌+◌, ◌*◌}
use native.Mathlib.Omega.{arith}
use native.Mathlib.Nat.{add-suc, add-zero, zero-add, suc-mul}
use lib.ListN.{length}
use lib.Ieee.{Float}
use Rattle.lists.specs.Loop.{iter}
use Rattle.lists.proofs.Loop.{length_zip_with}
use Rattle.doubles.specs.F64.{◌⊕◌}
use Rattle.vectors.specs.Vectors.{scale}
use Rattle.vectors.proofs.Laws.{length_scale}
use Rattle.phi_action_helpers.specs.declared.SweepPlan.{SweepPlan}
use Rattle.phi_action_helpers.specs.Augmented.{Augmented}
use Rattle.phi_action_helpers.specs.Sweeps.{shifted, Horner, horner_step, aug_horner_outer, Swept, rescale, sweep, run_sweeps}
use Rattle.phi_action_helpers.proofs.Augmented.{length_aug_matvec}

pub rescaled_long : (t : Bool) (f : Float) (y : List Float) → length (if t then scale f y else y) ≡ length y
rescaled_long true f y = length_scale f y
rescaled_long false f y = refl

module _ (b : Augmented) (tau : Float) (p : SweepPlan) where
  -- ---- counts
  pub terms_counted : (k : ℕ) (h : Horner) → (iter (horner_step b tau p) k h).applied ≡ h.applied + k
  unfolding iter horner_step
  terms_counted zero h = sym (add-zero h.applied)
  terms_counted (suc k) h = ap suc (terms_counted k h) ∙ sym (add-suc h.applied k)

  pub sweep_counted : (y : List Float) → (aug_horner_outer b tau p y).applied ≡ p.m
  unfolding aug_horner_outer
  sweep_counted y = terms_counted p.m _ ∙ zero-add p.m

  pub sweeps_counted : (i : ℕ) (r : Swept) → (iter (λ _ r. sweep b tau p r) i r).applied ≡ r.applied + i * p.m
  unfolding iter sweep
  sweeps_counted zero r = omega arith
  sweeps_counted (suc i) r = omega (arith, sweeps_counted i r, sweep_counted (iter (λ _ r. sweep b tau p r) i r).y, suc-mul i p.m)

  -- the generator is applied exactly s * m times
  pub run_counted : (y : List Float) → (run_sweeps b tau p y).applied ≡ p.s * p.m
  unfolding run_sweeps
  run_counted y = sweeps_counted p.s _ ∙ zero-add (p.s * p.m)

  -- ---- lengths
  pub terms_long : (k : ℕ) (h : Horner) → length h.y ≡ b.matrix.n + b.d → length (iter (horner_step b tau p) k h).y ≡ b.matrix.n + b.d
  unfolding iter horner_step
  terms_long zero h e = e
  terms_long (suc k) h e = let l = terms_long k h e in length_zip_with ◌⊕◌ _ _ (l ∙ sym (length_aug_matvec b _ _)) ∙ l

  pub sweep_long : (y : List Float) → length y ≡ b.matrix.n + b.d → length (aug_horner_outer b tau p y).y ≡ b.matrix.n + b.d
  unfolding aug_horner_outer
  sweep_long y e = terms_long p.m _ e

  pub sweeps_long : (i : ℕ) (r : Swept) → length r.y ≡ b.matrix.n + b.d → length (iter (λ _ r. sweep b tau p r) i r).y ≡ b.matrix.n + b.d
  unfolding iter sweep
  sweeps_long zero r e = e
  sweeps_long (suc i) r e = rescaled_long (shifted p) (rescale p) _ ∙ sweep_long _ (sweeps_long i r e)

  pub run_long : (y : List Float) → length y ≡ b.matrix.n + b.d → length (run_sweeps b tau p y).y ≡ b.matrix.n + b.d
  unfolding run_sweeps
  run_long y e = sweeps_long p.s _ e
