-- A mass divides the matrix row by row: the quotients, and the checks 7 to 11 in number order (document 01, 'Whoever builds the matrix';
-- generator_action.rs, `check_mass`, `normalise_rows`). Definitions only.
use Rattle.std.specs.Prelude.{Bool, true, false, not, ◌||◌, List, [], ◌∷◌, ◌++◌, ℕ, ◌+◌, ltb, eqb, length, Float}
use Rattle.std.proofs.Math.Option.{Option, none, some}
use Rattle.std.specs.Float.{nan}
use Rattle.lists.specs.Loop.{tabulate}
use Rattle.lists.specs.Find.{find, exists}
use Rattle.doubles.specs.F64.{◌⊘◌, ◌⩽◌, +0, nat, at, is_finite}
use Rattle.checks.specs.First.{Check, refuse}
use Rattle.general_operator.specs.Csr.{Csr, csr, start, row_sum, row_sum_norm}
use Rattle.general_operator.specs.Checks.{matrix_checks, open_checks}
use Rattle.checks.specs.declared.Reason.TheVariants.{MassLength, MassRange, FirstRowStart, RowSumNotFinite, NormNotFinite}

-- one mass to a row, if there is one
abbrev pub Mass : Type 0
Mass = Option (List Float)

abbrev pub given : Bool → List Float → Mass
given true mass = some mass
given false mass = none

-- the row in which entry k stands: the first that ends after it
unfoldable pub row_of : Csr → ℕ → ℕ
row_of a k = find (λ i. ltb k (start a (i + 1))) a.n

-- `normalise_rows`: each entry divided by its row's mass
unfoldable pub normalise : Csr → List Float → Csr
normalise a mass = csr a.n a.starts a.columns (tabulate (length a.entries) (λ k. at a.entries k ⊘ at mass (row_of a k)))

-- Q, the matrix or its quotients: the generator is G = -Q
unfoldable pub quotients : Csr → Mass → Csr
quotients a none = a
quotients a (some mass) = normalise a mass

-- what the lent memory holds of them: without a mass nothing
unfoldable pub stored : Csr → Mass → List Float
stored a none = []
stored a (some mass) = (normalise a mass).entries

-- how many places they take there
unfoldable pub quotient_need : Csr → Mass → ℕ
quotient_need a none = 0
quotient_need a (some mass) = length a.entries

-- not finite, or not above 0
unfoldable pub bad_mass : Float → Bool
bad_mass x = not (is_finite x) || x ⩽ +0

unfoldable pub mass_checks : Csr → List Float → List Check
mass_checks a mass =
    let bad : ℕ → Bool = λ i. bad_mass (at mass i) in
    refuse MassLength (not (eqb (length mass) a.n)) (nat (length mass))
    ∷ refuse MassRange (exists bad (length mass)) (at mass (find bad (length mass)))
    ∷ refuse FirstRowStart (not (eqb (start a 0) 0)) nan
    ∷ []

unfoldable pub bad_sum : Csr → ℕ → Bool
bad_sum q i = not (is_finite (row_sum q i))

-- with a mass: of the quotients
unfoldable pub sum_checks : Csr → List Check
sum_checks q = refuse RowSumNotFinite (exists (bad_sum q) q.n) (row_sum q (find (bad_sum q) q.n)) ∷ []

-- without one
unfoldable pub norm_checks : Csr → List Check
norm_checks a = refuse NormNotFinite (not (is_finite (row_sum_norm a))) (row_sum_norm a) ∷ []

unfoldable pub bound_checks : Csr → Mass → List Check
bound_checks a none = norm_checks a
bound_checks a (some mass) = mass_checks a mass ++ sum_checks (normalise a mass)

-- 1 to 11
unfoldable pub generator_checks : Csr → Mass → List Check
generator_checks a mass = matrix_checks a ++ bound_checks a mass

-- to compute: a line `unfolding open_mass` opens every definition of this file and of those below it
unfoldable pub open_mass : Unit {0}
unfolding row_of normalise quotients stored quotient_need bad_mass mass_checks bad_sum sum_checks norm_checks bound_checks generator_checks open_checks
open_mass = tt
