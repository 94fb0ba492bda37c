-- Why a job is refused: each reason's number (document 01, 'Refusals'; document 02). Definitions only.
use Rattle.std.specs.Prelude.{ℕ, Result, Ok, Err, Float}
use Rattle.checks.specs.declared.Reason.{Reason}
use Rattle.checks.specs.declared.Reason.TheVariants.{RowStartsLength, EntryCount, MatrixTooLarge, RowStartsFall, ColumnRange, EntryNotFinite, MassLength, MassRange, FirstRowStart, RowSumNotFinite, NormNotFinite, VectorCount, IndexRange, TauRange, OutputLength, VectorLength, VectorNotFinite, TolRange, NoSubsteps, OptionTooLarge, MagnitudeNotFinite, GainNotFinite, NormRange, ArgumentNotFinite, NoAdmissibleRow, WorkLength, SubstepLimit, LengthsRejected, NoInnerPlan, TransposedLength, RunEnded, UnitFull, DegreeRange, JoinRows, JoinColumnOrder, JoinLength, StageCount, WindowOrNode, RecordCount, ResultsLength}
use Rattle.checks.specs.declared.Refusal.{Refusal}

abbrev pub number : Reason → ℕ
number RowStartsLength = 1
number EntryCount = 2
number MatrixTooLarge = 3
number RowStartsFall = 4
number ColumnRange = 5
number EntryNotFinite = 6
number MassLength = 7
number MassRange = 8
number FirstRowStart = 9
number RowSumNotFinite = 10
number NormNotFinite = 11
number VectorCount = 12
number IndexRange = 13
number TauRange = 14
number OutputLength = 15
number VectorLength = 16
number VectorNotFinite = 17
number TolRange = 18
number NoSubsteps = 19
number OptionTooLarge = 20
number MagnitudeNotFinite = 21
number GainNotFinite = 22
number NormRange = 23
number ArgumentNotFinite = 24
number NoAdmissibleRow = 25
number WorkLength = 26
number SubstepLimit = 27
number LengthsRejected = 28
number NoInnerPlan = 29
number TransposedLength = 30
number RunEnded = 31
number UnitFull = 32
number DegreeRange = 33
number JoinRows = 34
number JoinColumnOrder = 35
number JoinLength = 36
number StageCount = 37
number WindowOrNode = 38
number RecordCount = 39
number ResultsLength = 40

-- a refusal: why, and the double that is reported with it
abbrev pub refusal : Reason → Float → Refusal
refusal k x = record { reason = k; value = x }

-- no check holds
abbrev pub Sound : Result Unit Refusal
Sound = Ok tt

-- refused for the reason k with the double x
abbrev pub Refused : {A : Type 0} → Reason → Float → Result A Refusal
Refused k x = Err (refusal k x)
