-- What the answers of the functions that try lengths stand for. Definitions only.
use Rattle.std.specs.Prelude.{Result, Ok, Err, ◌≡◌, List, ℕ, ◌+◌, ◌≤◌, length, Float}
use Rattle.lists.specs.Walk.{Turn, on, out}
use Rattle.lists.specs.Window.{window}
use Rattle.gram_schmidt.specs.declared.Krylov.{Krylov}
use Rattle.gram_schmidt.specs.declared.Broken.{Broken}
use Rattle.gram_schmidt.specs.declared.Full.{Full}
use Rattle.trial_steps.specs.Trials.{MAX_REJECT, Trying, Tried, accepted, stuck}
use Rattle.trial_steps.specs.declared.Trial.{Trial}
use Rattle.trial_steps.specs.declared.Outcome.{Outcome}
use Rattle.trial_steps.specs.declared.Outcome.TheVariants.{Next, Accepted, NoPlan}

-- an outcome, of which f holds the coefficients
unfoldable pub outcome_at : List Float → Outcome → Turn Trying Tried
outcome_at f (Next rejections t) = on (record { rejections = rejections; t = t })
outcome_at f (Accepted s) = out (accepted s.rejections s.t (window 0 s.count f) s.err)
outcome_at f (NoPlan arg) = out (stuck arg)

abbrev pub trial_at : Trial → Turn Trying Tried
trial_at o = outcome_at o.f o.outcome

-- a length to be tried has at most i rejections before it, an accepted one at most MAX_REJECT, and one coefficient for each column
abbrev pub Within : ℕ → ℕ → Outcome → Type 0
Within i columns (Next rejections t) = rejections ≤ i
Within i columns (Accepted s) = (s.rejections ≤ MAX_REJECT) × (s.count ≡ columns)
Within i columns (NoPlan arg) = Unit {0}

pub record Modest (i columns : ℕ) (o : Trial) : Type 0 where
  pub long : length o.f ≡ 130
  pub within : Within i columns o.outcome

-- how many columns a basis has
abbrev pub columns_in : Krylov → Result Full Broken → ℕ
columns_in k (Ok b) = k.m + 1
columns_in k (Err e) = e.mb
