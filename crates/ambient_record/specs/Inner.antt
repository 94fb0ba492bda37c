-- What the run of a record leaves: cited by a contract, and by no definition of the call. Definitions only.
use Rattle.std.specs.Prelude.{List, ◌+◌, Float}
use Rattle.general_operator.specs.Csr.{Csr}
use Rattle.combination.specs.Call.{Call, ends, cleared}
use Rattle.taylor_schedule.specs.declared.Job.{Job}
use Rattle.phi_action_helpers.specs.declared.SweepPlan.{SweepPlan}
use Rattle.taylor_job.specs.Calls.{Fields, report}
use Rattle.taylor_job.specs.Inner.{plan_by}
use Rattle.taylor_job.specs.Calls.{TaylorAnswer}

-- how a record that passed ends: n doubles more than its combination needed are cleared
abbrev pub record_end : Job → Csr → (SweepPlan → Fields) → List Float → Call TaylorAnswer
record_end j q run memory = ends (report (plan_by j q) (run (plan_by j q)).applied) (run (plan_by j q)).fields (cleared (j.need + j.g.n) memory)
