-- What the parts of `check_generator` know and answer. Definitions only.
use Rattle.std.specs.Prelude.{Bool, true, List, ◌≡◌, ℕ, ◌≤◌, ◌<◌, T, length, Float}
use Rattle.std.proofs.Math.Option.{none, some}
use Rattle.doubles.specs.F64.{◌⋖◌, +0, at, is_finite}
use Rattle.checks.specs.First.{Check, first}
use Rattle.general_operator.specs.Csr.{Csr, Valid, start, row_sum_norm}
use Rattle.generator_action.specs.Answer.{MatrixAnswer}
use Rattle.generator_action.specs.Mass.{Mass, given, quotients, quotient_need, generator_checks}
use Rattle.generator_action.specs.declared.Shape.{Shape}
use Rattle.generator_action.specs.Answer.{unless_refused}
use Rattle.checks.specs.Reasons.{Sound}

-- what 6 leaves
abbrev pub Finite : Csr → Type 0
Finite a = (k : ℕ) → k < length a.entries → is_finite (at a.entries k) ≡ true

-- what 7 to 9 leave
pub record Dividing (a : Csr) (mass : List Float) : Type 0 where
  pub long : length mass ≡ a.n
  pub above : (i : ℕ) → i < a.n → T (+0 ⋖ at mass i)
  pub from_0 : start a 0 ≡ 0

-- r answers the matrix q that some checks are left of: the first refusal of these, or the norm and the first row that has it
pub record Answered (q : Csr) (checks : List Check) (r : MatrixAnswer) : Type 0 where
  pub is : r ≡ unless_refused (first checks) q

-- with a mass that is given
abbrev pub Divided : Csr → Mass → Type 0
Divided a none = Unit
Divided a (some mass) = Dividing a mass

-- what is known where a norm x is answered
pub record Accepted (a : Csr) (mass : Mass) (x : Float) : Type 0 where
  pub sound : Sound ≡ first (generator_checks a mass)
  pub norm : x ≡ row_sum_norm (quotients a mass)
  pub finite : is_finite x ≡ true
  pub valid : Valid a
  pub quotients_are : Valid (quotients a mass)
  pub divided : Divided a mass

-- what is known of a generator's numbers where its norm is answered
abbrev pub shape_of : Csr → Bool → List Float → Float → Shape
shape_of a b mass norm = record { n = a.n; with_mass = b; stored = quotient_need a (given b mass); norm = norm }

-- what a job takes from the checks of its generator, whichever they were
pub record Passed (a : Csr) (mass : Mass) (g : Shape) : Type 0 where
  pub norm : g.norm ≡ row_sum_norm (quotients a mass)
  pub finite : is_finite g.norm ≡ true
  pub valid : Valid a
  pub quotients_are : Valid (quotients a mass)
  pub divided : Divided a mass
  pub room : quotient_need a mass ≤ g.stored
  pub light : g.stored ≤ 16777216
