-- Refusals as a list in the order in which they are met: the answer is the first whose condition holds (document 01, 'Refusals'). Definitions only.
use Rattle.std.specs.Prelude.{Bool, true, false, List, [], ◌∷◌, eqb, Result, Ok, Err, Float}
use Rattle.checks.specs.Reasons.{number, Sound, Refused}
use Rattle.checks.specs.declared.Reason.{Reason}
use Rattle.checks.specs.declared.Refusal.{Refusal}

-- why it refuses, whether its condition holds, and the double that is reported with it
pub record Check : Type 0 where
  pub reason : Reason
  pub holds : Bool
  pub reported : Float

abbrev pub refuse : Reason → Bool → Float → Check
refuse k b x = record { reason = k; holds = b; reported = x }

-- no check holds, or the first that does
abbrev pub Checked : Type 0
Checked = Result Unit Refusal

-- the first whose condition holds
unfoldable pub first : List Check → Checked
first [] = Sound
first (c ∷ cs) = elim c.holds [ true ↦ Refused c.reason c.reported | false ↦ first cs ]

-- what is answered of a value that checks guard: it, or the refusal
abbrev pub passing : {A : Type 0} → Checked → A → Result A Refusal
passing (Ok _) x = Ok x
passing (Err r) x = Err r

-- x where no check holds, else the first that does
unfoldable pub or_first : {A : Type 0} → List Check → A → Result A Refusal
or_first cs x = passing (first cs) x

abbrev pub unless_named : Bool → Check → List Check → List Check
unless_named true c cs = []
unless_named false c cs = c ∷ cs

-- two reasons are one where their numbers are
abbrev pub same : Reason → Reason → Bool
same j k = eqb (number j) (number k)

-- those in front of the first that refuses for the reason k
unfoldable pub before : Reason → List Check → List Check
before k [] = []
before k (c ∷ cs) = unless_named (same c.reason k) c (before k cs)
