-- What the parts of `taylor_plan` check and lay out: cited by their contracts alone. Definitions only.
use Rattle.std.specs.Prelude.{Bool, List, ◌++◌, ℕ, Float}
use Rattle.checks.specs.First.{Check}
use Rattle.generator_action.specs.declared.Shape.{Shape}
use Rattle.phi_action_helpers.specs.declared.Layout.{Layout}
use Rattle.combination.specs.Checks.{plan_checks, schedule_checks, memory_checks}

-- 14, 33 and 24 to 26
abbrev pub plan_refusals : Shape → Float → ℕ → ℕ → List Check
plan_refusals g tau cap memory = plan_checks tau cap ++ (schedule_checks cap g.norm tau ++ memory_checks memory g.stored)

-- the lent memory holds the quotients, from its first place on
abbrev pub quotients_alone : ℕ → Bool → Layout
quotients_alone n mass = record { n = n; d = 0; w = 0; av = 0; q = 0; mass = mass }
