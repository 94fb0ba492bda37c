-- What the functions behind the exported ones answer: cited by their contracts, and by no contract of an exported one. Definitions only.
use Rattle.std.specs.Prelude.{List, ℕ, Float}
use Rattle.general_operator.specs.Csr.{Csr}
use Rattle.generator_action.specs.Mass.{Mass}
use Rattle.generator_action.specs.Generator.{forward}
use Rattle.paused_run.specs.Paused.{Job}
use Rattle.answers.specs.Told.{options}
use Rattle.exports_paused.specs.Told.{Told, tolerance, start_told, step_told}
use Rattle.paused_byte_calls.specs.declared.RunCall.{RunCall}
use Rattle.paused_byte_calls.specs.declared.RunCall.TheVariants.{Start, Step}

-- the job over a matrix and a mass
abbrev pub job : Csr → Mass → Float → ℕ → List Float → Job
job a mass tau count w = record { g = forward a mass; tau = tau; count = count; w = w }

-- the start or the step, over output, working memory, field and state
unfoldable pub called_run : RunCall → Job → List Float → List Float → List Float → List Float → List ℕ → Told
called_run (Start tol m limit) j output memory field numbers counts = start_told (options tol m limit) j output memory field numbers counts
called_run (Step with_tol tol) j output memory field numbers counts =
    step_told (record { tolerance = tolerance with_tol tol; job = j; output = output; memory = memory }) field numbers counts
