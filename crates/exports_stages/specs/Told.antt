-- A soak in stages as the numbers that the exported function hands back (document 01, 'Oracle'; document 02, N11). Definitions only.
use Rattle.std.specs.Prelude.{ℕ, Float}
use Rattle.doubles.specs.F64.{+0}
use Rattle.checks.specs.Reasons.{number}
use Rattle.schedule_checks.specs.Schedule.{StagedAnswer}
use Rattle.std.specs.Prelude.{Ok, Err}

-- 0 or the refusal's number, the double reported, the stage that was refused, and the counts of all stages
pub record StagedNumbers : Type 0 where
  pub number : ℕ
  pub value : Float
  pub stage : ℕ
  pub applications : ℕ
  pub substeps : ℕ
  pub rejected : ℕ

abbrev pub staged_numbers : ℕ → Float → ℕ → ℕ → ℕ → ℕ → StagedNumbers
staged_numbers k x i a b c = record { number = k; value = x; stage = i; applications = a; substeps = b; rejected = c }

-- a refused soak has no counts, an accepted one no stage and no double
unfoldable pub staged_told : StagedAnswer → StagedNumbers
staged_told (Err e) = staged_numbers (number e.refusal.reason) e.refusal.value e.stage 0 0 0
staged_told (Ok r) = staged_numbers 0 +0 0 r.applications r.substeps r.rejected
