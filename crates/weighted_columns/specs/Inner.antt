-- What 21 and 22 guard: cited by contracts of inner functions, and by no definition of a call. Definitions only.
use Rattle.std.specs.Prelude.{Bool, not, List, [], ◌∷◌, ℕ, ◌-◌, ltb, Float, if◌then◌else◌}
use Rattle.std.specs.Float.{nan}
use Rattle.lists.specs.Loop.{tabulate}
use Rattle.lists.specs.Find.{exists}
use Rattle.doubles.specs.F64.{◌⊗◌, +0, 1f, at, is_finite}
use Rattle.checks.specs.First.{Check, refuse}
use Rattle.pow2.specs.declared.Scaling.{Scaling}
use Rattle.phi_action_helpers.specs.declared.Coupling.{Coupling}
use Rattle.weighted_columns.specs.declared.Share.{Share}
use Rattle.weighted_columns.specs.declared.Powers.{Powers}
use Rattle.weighted_columns.specs.declared.Weights.{Weights}
use Rattle.combination.specs.Combination.{gain, weighed, magnitude, eta_of, column_places, scaled_gains}
use Rattle.checks.specs.declared.Reason.TheVariants.{MagnitudeNotFinite, GainNotFinite}

-- ---- 21 and 22
abbrev pub share_of : ℕ → List Float → Float → ℕ → Float → Share
share_of n f tau j s = record { gain = gain n f tau j; sum = weighed n f tau j s }

abbrev pub powers_of : ℕ → List Float → Float → ℕ → Powers
powers_of n f tau d = record { gains = tabulate 3 (λ j. if ltb j d then gain n f tau j else +0); sum = magnitude n f tau d }

abbrev pub not_finite_by : List Float → Float → ℕ → Bool
not_finite_by gains eta j = not (is_finite (at gains j ⊗ eta))

abbrev pub power_checks : Float → List Float → ℕ → Float → List Check
power_checks sum gains d eta = refuse MagnitudeNotFinite (not (is_finite sum)) sum ∷ refuse GainNotFinite (exists (not_finite_by gains eta) d) nan ∷ []

abbrev pub reversed_by : List Float → ℕ → Float → List Float
reversed_by gains d eta = tabulate 3 (λ j. if ltb j d then at gains (d - j - 1) ⊗ eta else 1f)

-- the columns of a combination, and its gains scaled by eta
abbrev pub coupling_by : ℕ → List Float → Float → ℕ → Float → Coupling
coupling_by n f tau d eta = record { places = column_places n d; gains = scaled_gains n f tau d eta; count = d }

abbrev pub weights_by : ℕ → List Float → Float → ℕ → Scaling → Weights
weights_by n f tau d eta = record { inv = eta.inv; b = coupling_by n f tau d eta.eta }

-- by the job's own eta
abbrev pub coupling_of : ℕ → List Float → Float → ℕ → Coupling
coupling_of n f tau d = coupling_by n f tau d (eta_of n f tau d).eta

abbrev pub weights : ℕ → List Float → Float → ℕ → Weights
weights n f tau d = weights_by n f tau d (eta_of n f tau d)
