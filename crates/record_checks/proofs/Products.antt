-- The load times a level: its first value that is not finite, and its weight. Assumes nothing.
use mathlib.Core.Path.{◌≡◌, refl, sym, ap, ◌∙◌}
use mathlib.Core.Bool.{Bool, true, false, not}
use mathlib.Core.List.{List, [], ◌∷◌, ◌++◌}
use Prim.Native.Nat.{ℕ, ◌<◌}
use native.Mathlib.Omega.{arith}
use native.Mathlib.Nat.{zero-mul}
use lib.ListN.{length}
use lib.Ieee.{Float, nan, eq}
use Rattle.std.specs.List.{fold}
use Rattle.lists.specs.Positions.{NoneBelow}
use Rattle.lists.proofs.Positions.{fold_whole}
use Rattle.lists.specs.Loop.{iter, tabulate}
use Rattle.lists.specs.Window.{window}
use Rattle.lists.proofs.Window.{window_whole}
use Rattle.doubles.specs.F64.{◌⊕◌, ◌⊗◌, +0, at, abs, max_num, is_finite}
use Rattle.power.specs.Power.{times}
use Rattle.vectors.specs.Vectors.{scale}
use Rattle.vectors.proofs.Laws.{length_scale, scale_at}
use Rattle.pow2.specs.Pow2.{sup}
use Rattle.checks.specs.First.{first}
use Rattle.checks.proofs.First.{passes_none, stops_position, ends_sound}
use Rattle.combination.specs.Combination.{vector, gain, weighed, magnitude}
use Rattle.combination.specs.Checks.{not_finite_at, finite_checks}
use Rattle.weighted_columns.specs.Inner.{powers_of}
use Rattle.combination.proofs.Further.{finite_behind}
use Rattle.checks.specs.Reasons.{Sound, Refused}
use Rattle.checks.specs.declared.Reason.TheVariants.{VectorNotFinite}

-- ---- 17
module _ (load : List Float) (level : Float) where
  abbrev bad : ℕ → Bool
  bad k = not (is_finite (at load k ⊗ level))

  same : (k : ℕ) → k < length load → not_finite_at (scale level load) k ≡ bad k
  unfolding not_finite_at
  same k l = ap (λ (x : Float). not (is_finite x)) (scale_at level load k l)

  pub product_bad : {i : ℕ} → (i < length load) × (bad i ≡ true) × NoneBelow bad i → Refused VectorNotFinite (at load i ⊗ level) ≡ first (finite_checks (scale level load))
  unfolding finite_checks
  product_bad {i} h =
      ap (Refused VectorNotFinite) (sym (scale_at level load i h.0))
      ∙ stops_position VectorNotFinite (scale level load) [] (not_finite_at (scale level load)) (length (scale level load)) (omega (arith, length_scale level load), same i h.0 ∙ h.1, λ k l. same k (omega arith) ∙ h.2 k l)

  pub products_finite : NoneBelow bad (length load) → Sound ≡ first (finite_checks (scale level load))
  unfolding finite_checks
  products_finite h = passes_none VectorNotFinite _ [] (not_finite_at (scale level load)) (length (scale level load)) (λ k l. let j : k < length load = omega (arith, length_scale level load) in same k j ∙ h k j) ends_sound

  pub products_sup : fold (λ m x. max_num m (abs (x ⊗ level))) +0 load ≡ sup (scale level load)
  unfolding sup
  products_sup =
      fold_whole (λ (m x : Float). max_num m (abs (x ⊗ level))) +0 load nan (λ k m. max_num m (abs (at (scale level load) k))) (λ k m l. ap (λ (x : Float). max_num m (abs x)) (sym (scale_at level load k l)))
      ∙ ap (λ (n : ℕ). iter (λ k m. max_num m (abs (at (scale level load) k))) n +0) (sym (length_scale level load))

-- of one list, then of another
pub both_finite : (xs ys : List Float) → first (finite_checks xs ++ finite_checks ys) ≡ first (finite_checks (xs ++ ys))
unfolding finite_checks
both_finite xs ys = sym (finite_behind xs ys [])

-- ---- the weight and the share of one vector
module _ (n : ℕ) (f : List Float) (tau : Float) (l : length f ≡ n) where
  only : vector n f 0 ≡ f
  unfolding vector
  only = ap (λ (k : ℕ). window k n f) (zero-mul n) ∙ window_whole n f l

  pub no_weight : {s : Float} → s ≡ sup f → eq s +0 ≡ true → record { gains = +0 ∷ +0 ∷ +0 ∷ []; sum = +0 } ≡ powers_of n f tau 1
  unfolding tabulate magnitude iter weighed gain
  no_weight es e = rw (only, ← es, e) refl

  pub one_weight : {s : Float} → s ≡ sup f → eq s +0 ≡ false → record { gains = tau ∷ +0 ∷ +0 ∷ []; sum = +0 ⊕ tau ⊗ s } ≡ powers_of n f tau 1
  unfolding tabulate magnitude iter weighed gain times
  one_weight es e = rw (only, ← es, e) refl
