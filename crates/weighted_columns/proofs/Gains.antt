-- The weights of a combination from its powers. Assumes nothing.
use Rattle.std.specs.Prelude.{if◌then◌else◌}
use mathlib.Core.Bool.{Bool, true, false}
use mathlib.Core.List.{List}
use mathlib.Core.Path.{◌≡◌, refl, sym, ap, ◌∙◌}
use Prim.Native.Nat.{ℕ, ◌-◌, ◌≤◌, ◌<◌}
use native.Mathlib.Omega.{arith}
use lib.Ieee.{Float, nan}
use lib.Dec.{ltb}
use borrow.Author.Tests.{lt-ltb, ltb-true}
use Rattle.lists.specs.Find.{exists}
use Rattle.lists.proofs.Find.{find_ext}
use Rattle.lists.proofs.Loop.{get_d_tabulate, tabulate_ext}
use Rattle.doubles.specs.F64.{◌⊗◌, 1f, at}
use Rattle.checks.specs.First.{first, or_first}
use Rattle.checks.specs.First.{Checked}
use Rattle.checks.specs.Reasons.{Sound}
use Rattle.checks.specs.declared.Refusal.{Refusal}
use Rattle.checks.proofs.First.{first_err, first_ok}
use Rattle.std.specs.Prelude.{Result, Ok, Err}
use Rattle.pow2.specs.Pow2.{eta_scaling}
use Rattle.pow2.specs.declared.Scaling.{Scaling}
use Rattle.combination.specs.Combination.{gain, magnitude, eta_of, column_places, scaled_gains}
use Rattle.combination.specs.Checks.{bad_gain, magnitude_checks}
use Rattle.weighted_columns.specs.Inner.{powers_of, not_finite_by, power_checks, reversed_by, weights_by, weights}
use Rattle.weighted_columns.specs.declared.Powers.{Powers}
use Rattle.weighted_columns.specs.declared.Weights.{Weights}

-- ---- 21 and 22
module _ (n : ℕ) (f : List Float) (tau : Float) (d : ℕ) (few : d ≤ 3) where
  power_at : (j : ℕ) → j < d → at (powers_of n f tau d).gains j ≡ gain n f tau j
  power_at j l = get_d_tabulate 3 _ j nan (omega arith) ∙ rw (lt-ltb j d l) refl

  pub magnitude_told : (eta : Float) → first (power_checks (magnitude n f tau d) (powers_of n f tau d).gains d eta) ≡ first (magnitude_checks n f tau d eta)
  unfolding magnitude_checks exists bad_gain
  magnitude_told eta =
      rw (find_ext (not_finite_by (powers_of n f tau d).gains eta) (bad_gain n f tau eta) d (λ j l. rw (power_at j l) refl)) refl

  pub gains_told : (eta : Float) → reversed_by (powers_of n f tau d).gains d eta ≡ scaled_gains n f tau d eta
  unfolding scaled_gains
  gains_told eta = tabulate_ext 3 _ _ (λ j l. go j (ltb j d) refl)
    where
      go : (j : ℕ) (t : Bool) → ltb j d ≡ t → (if t then at (powers_of n f tau d).gains (d - j - 1) ⊗ eta else 1f) ≡ (if t then gain n f tau (d - j - 1) ⊗ eta else 1f)
      go j true e = ap (λ (x : Float). x ⊗ eta) (power_at (d - j - 1) (omega (arith, ltb-true j d e)))
      go j false e = refl

  -- 21 and 22 with an eta: refused, or the columns
  module _ {p : Powers} (eta : Scaling) {r : Checked} (e : p ≡ powers_of n f tau d) (g : r ≡ first (power_checks p.sum p.gains d eta.eta)) where
    told : r ≡ first (magnitude_checks n f tau d eta.eta)
    told = (rw e at g) ∙ magnitude_told eta.eta

    pub weighed_err : {x : Refusal} → r ≡ Err x → Err x ≡ or_first (magnitude_checks n f tau d eta.eta) (weights_by n f tau d eta)
    weighed_err h = sym (first_err _ _ (sym told ∙ h))

    pub weighed_is : {places : List ℕ} {gains : List Float} → r ≡ Sound → places ≡ column_places n d → gains ≡ reversed_by p.gains d eta.eta
        → Ok (record { inv = eta.inv; b = record { places = places; gains = gains; count = d } }) ≡ or_first (magnitude_checks n f tau d eta.eta) (weights_by n f tau d eta)
    weighed_is {places} {gains} s h k =
        let gains_are : gains ≡ scaled_gains n f tau d eta.eta = (rw e at k) ∙ gains_told eta.eta in
        (λ i. Ok (record { inv = eta.inv; b = record { places = h i; gains = gains_are i; count = d } })) ∙ sym (first_ok _ _ (sym told ∙ s))

-- by the job's own eta
pub own_weights : (n : ℕ) (f : List Float) (tau : Float) (d : ℕ) {p : Powers} {eta : Scaling} {r : Result Weights Refusal} → p ≡ powers_of n f tau d → eta ≡ eta_scaling p.sum
    → r ≡ or_first (magnitude_checks n f tau d eta.eta) (weights_by n f tau d eta)
    → r ≡ or_first (magnitude_checks n f tau d (eta_of n f tau d).eta) (weights n f tau d)
unfolding eta_of
own_weights n f tau d e h w =
    w ∙ ap (λ (x : Scaling). or_first (magnitude_checks n f tau d x.eta) (weights_by n f tau d x)) (h ∙ ap (λ (x : Powers). eta_scaling x.sum) e)
