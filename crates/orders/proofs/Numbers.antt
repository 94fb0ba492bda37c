-- The reasons in the order of their numbers, which are 1 to 40 (document 01, 'Refusals'; document 02); no two reasons have one number, so that a refusal
-- passed up with its number and its double is that refusal. Assumes nothing.
use mathlib.Core.List.{List, [], ◌∷◌, map}
use mathlib.Core.Path.{◌≡◌, refl, sym, ap, ◌∙◌}
use Prim.Native.Nat.{ℕ, zero, suc}
use lib.Ieee.{Float}
use Rattle.checks.specs.First.{Checked}
use Rattle.checks.specs.Reasons.{number, Refused}
use Rattle.checks.specs.declared.Reason.{Reason}
use Rattle.checks.specs.declared.Reason.TheVariants.{RowStartsLength, EntryCount, MatrixTooLarge, RowStartsFall, ColumnRange, EntryNotFinite, MassLength, MassRange, FirstRowStart, RowSumNotFinite, NormNotFinite, VectorCount, IndexRange, TauRange, OutputLength, VectorLength, VectorNotFinite, TolRange, NoSubsteps, OptionTooLarge, MagnitudeNotFinite, GainNotFinite, NormRange, ArgumentNotFinite, NoAdmissibleRow, WorkLength, SubstepLimit, LengthsRejected, NoInnerPlan, TransposedLength, RunEnded, UnitFull, DegreeRange, JoinRows, JoinColumnOrder, JoinLength, StageCount, WindowOrNode, RecordCount, ResultsLength}

pub reasons_numbered :
    map number
    (RowStartsLength ∷ EntryCount ∷ MatrixTooLarge ∷ RowStartsFall ∷ ColumnRange ∷ EntryNotFinite ∷ MassLength ∷ MassRange ∷ FirstRowStart ∷ RowSumNotFinite ∷ NormNotFinite ∷ VectorCount ∷ IndexRange ∷ TauRange ∷ OutputLength ∷ VectorLength ∷ VectorNotFinite ∷ TolRange ∷ NoSubsteps ∷ OptionTooLarge ∷ MagnitudeNotFinite ∷ GainNotFinite ∷ NormRange ∷ ArgumentNotFinite ∷ NoAdmissibleRow ∷ WorkLength ∷ SubstepLimit ∷ LengthsRejected ∷ NoInnerPlan ∷ TransposedLength ∷ RunEnded ∷ UnitFull ∷ DegreeRange ∷ JoinRows ∷ JoinColumnOrder ∷ JoinLength ∷ StageCount ∷ WindowOrNode ∷ RecordCount ∷ ResultsLength ∷ [])
    ≡ 1 ∷ 2 ∷ 3 ∷ 4 ∷ 5 ∷ 6 ∷ 7 ∷ 8 ∷ 9 ∷ 10 ∷ 11 ∷ 12 ∷ 13 ∷ 14 ∷ 15 ∷ 16 ∷ 17 ∷ 18 ∷ 19 ∷ 20 ∷ 21 ∷ 22 ∷ 23 ∷ 24 ∷ 25 ∷ 26 ∷ 27 ∷ 28 ∷ 29 ∷ 30 ∷ 31 ∷ 32 ∷ 33 ∷ 34 ∷ 35 ∷ 36 ∷ 37 ∷ 38 ∷ 39 ∷ 40 ∷ []
reasons_numbered = refl

reasons : List Reason
reasons = RowStartsLength ∷ EntryCount ∷ MatrixTooLarge ∷ RowStartsFall ∷ ColumnRange ∷ EntryNotFinite ∷ MassLength ∷ MassRange ∷ FirstRowStart ∷ RowSumNotFinite ∷ NormNotFinite ∷ VectorCount ∷ IndexRange ∷ TauRange ∷ OutputLength ∷ VectorLength ∷ VectorNotFinite ∷ TolRange ∷ NoSubsteps ∷ OptionTooLarge ∷ MagnitudeNotFinite ∷ GainNotFinite ∷ NormRange ∷ ArgumentNotFinite ∷ NoAdmissibleRow ∷ WorkLength ∷ SubstepLimit ∷ LengthsRejected ∷ NoInnerPlan ∷ TransposedLength ∷ RunEnded ∷ UnitFull ∷ DegreeRange ∷ JoinRows ∷ JoinColumnOrder ∷ JoinLength ∷ StageCount ∷ WindowOrNode ∷ RecordCount ∷ ResultsLength ∷ []

nth : List Reason → ℕ → Reason
nth [] n = ResultsLength
nth (k ∷ ks) zero = k
nth (k ∷ ks) (suc n) = nth ks n

-- the reason of a number
reason_of : ℕ → Reason
reason_of zero = ResultsLength
reason_of (suc n) = nth reasons n

own_reason : (k : Reason) → reason_of (number k) ≡ k
unfolding reason_of nth reasons
own_reason RowStartsLength = refl
own_reason EntryCount = refl
own_reason MatrixTooLarge = refl
own_reason RowStartsFall = refl
own_reason ColumnRange = refl
own_reason EntryNotFinite = refl
own_reason MassLength = refl
own_reason MassRange = refl
own_reason FirstRowStart = refl
own_reason RowSumNotFinite = refl
own_reason NormNotFinite = refl
own_reason VectorCount = refl
own_reason IndexRange = refl
own_reason TauRange = refl
own_reason OutputLength = refl
own_reason VectorLength = refl
own_reason VectorNotFinite = refl
own_reason TolRange = refl
own_reason NoSubsteps = refl
own_reason OptionTooLarge = refl
own_reason MagnitudeNotFinite = refl
own_reason GainNotFinite = refl
own_reason NormRange = refl
own_reason ArgumentNotFinite = refl
own_reason NoAdmissibleRow = refl
own_reason WorkLength = refl
own_reason SubstepLimit = refl
own_reason LengthsRejected = refl
own_reason NoInnerPlan = refl
own_reason TransposedLength = refl
own_reason RunEnded = refl
own_reason UnitFull = refl
own_reason DegreeRange = refl
own_reason JoinRows = refl
own_reason JoinColumnOrder = refl
own_reason JoinLength = refl
own_reason StageCount = refl
own_reason WindowOrNode = refl
own_reason RecordCount = refl
own_reason ResultsLength = refl

-- two reasons of one number are one
pub same_number : {j k : Reason} → number j ≡ number k → j ≡ k
same_number {j} {k} e = sym (own_reason j) ∙ ap reason_of e ∙ own_reason k

-- a refusal passed up with its number and its double is that refusal
pub passed_up : {r : Checked} {j k : Reason} {x y : Float} → r ≡ Refused j x → number k ≡ number j → y ≡ x → r ≡ Refused k y
passed_up {r} {j} {k} {x} {y} e n d = e ∙ (λ i. Refused (same_number (sym n) i) (sym d i))
