-- The plan of a Taylor job alone: the answer that its run would give, before it is run (phi_action.rs, `phi_schedule`; phi_shift.rs, `sweep_plan`). Definitions only.
use Rattle.std.specs.Prelude.{List, [], ◌++◌, ℕ, ◌*◌, length, Float}
use Rattle.checks.specs.First.{Check, first}
use Rattle.general_operator.specs.Csr.{row_sum_norm}
use Rattle.generator_action.specs.Generator.{Generator}
use Rattle.phi_action_helpers.specs.declared.SweepPlan.{SweepPlan}
use Rattle.phi_shift.specs.Plan.{sweep_plan}
use Rattle.combination.specs.Call.{Call, unless_refused}
use Rattle.combination.specs.Checks.{plan_checks, schedule_checks, memory_checks}
use Rattle.taylor_job.specs.Calls.{TaylorAnswer}
use Rattle.taylor_job.specs.Calls.{Fields, after_plan, open_calls}
use Rattle.checks.specs.Reasons.{Refused}

-- those of a Taylor job that its matrix, mass, time and highest degree decide, in the order of its run (1 to 11, 14, 33, 24, 25); then 26 for memory that is too
-- short for the quotients, which is all that a plan needs
unfoldable pub taylor_plan_checks : Generator → Float → ℕ → ℕ → List Check
taylor_plan_checks g tau cap memory =
    g.checks ++ (plan_checks tau cap ++ (schedule_checks cap (row_sum_norm g.matrix) tau ++ memory_checks memory g.stored))

-- no field, and the products that the sweeps of a plan make: s × m (document 01, 'What demand 3 counts')
unfoldable pub cost_alone : SweepPlan → Fields
cost_alone p = record { fields = []; applied = p.s * p.m }

-- a plan leaves the quotients' places cleared; it has no output
unfoldable pub taylor_plan : Generator → Float → ℕ → List Float → Call TaylorAnswer
taylor_plan g tau cap memory =
    let norm = row_sum_norm g.matrix in
    unless_refused Refused (first (taylor_plan_checks g tau cap (length memory))) [] memory
    (after_plan g.stored tau norm [] memory (sweep_plan cap tau g.matrix norm) cost_alone)

-- to compute: a line `unfolding open_taylor_plan` opens every definition of this file and of those below it
unfoldable pub open_taylor_plan : Unit {0}
unfolding taylor_plan_checks cost_alone taylor_plan open_calls
open_taylor_plan = tt
