-- What the checks of a call and of a record know and answer: cited by contracts, and by no definition of the call. Definitions only.
use Rattle.std.specs.Prelude.{List, ◌++◌, ℕ, ◌-◌, Float}
use Rattle.vectors.specs.Vectors.{scale}
use Rattle.checks.specs.First.{Check}
use Rattle.generator_action.specs.declared.Shape.{Shape}
use Rattle.expmv.specs.Select.{M_MAX}
use Rattle.combination.specs.Checks.{plan_checks, finite_checks}
use Rattle.taylor_schedule.specs.Inner.{combination_job, combination_refusals}
use Rattle.taylor_schedule.specs.declared.Job.{Job}
use Rattle.ambient_checks.specs.Log.{Log, Places}

abbrev pub log_of : List Float → List Float → Log
log_of durations levels = record { durations = durations; levels = levels }

abbrev pub places : ℕ → ℕ → ℕ → Places
places temperatures largest smallest = record { temperatures = temperatures; largest = largest; smallest = smallest }

-- 14, 33 behind it, and 17 of a record: of its field, then of the load times its level
abbrev pub early_checks : Float → Float → List Float → List Float → List Check
early_checks duration level field load = plan_checks duration M_MAX ++ finite_checks (field ++ scale level load)

-- what a record takes, and 21, 22 and 24 to 26 of it: n doubles of the memory are not its combination's
abbrev pub record_job : Shape → Float → Float → List Float → Job
record_job g duration level load = combination_job g duration M_MAX 1 (scale level load)

abbrev pub record_refusals : Shape → Float → Float → List Float → ℕ → List Check
record_refusals g duration level load memory = combination_refusals g duration M_MAX 1 (scale level load) (memory - g.n)
