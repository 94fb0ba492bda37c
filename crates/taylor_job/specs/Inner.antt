-- What the inner functions of a Taylor call know and answer: cited by their contracts, and by no definition of a call. Definitions only.
use Rattle.std.specs.Prelude.{Bool, List, ◌≡◌, ℕ, ◌+◌, ◌*◌, ◌≤◌, length, Float, Some}
use Rattle.general_operator.specs.Csr.{Csr, csr}
use Rattle.generator_action.specs.Mass.{given}
use Rattle.generator_action.specs.Known.{Passed}
use Rattle.csr_shift.specs.Shift.{negated_csr_shift}
use Rattle.expmv.specs.Select.{select_s_m}
use Rattle.phi_action_helpers.specs.Augmented.{Augmented, augmented}
use Rattle.phi_action_helpers.specs.declared.Layout.{Layout}
use Rattle.phi_action_helpers.specs.declared.SweepPlan.{SweepPlan}
use Rattle.phi_shift.specs.Plan.{argument, with_shift}
use Rattle.combination.specs.Call.{Call, ends, cleared}
use Rattle.combination.specs.Checks.{taylor_need}
use Rattle.taylor_schedule.specs.declared.Job.{Job}
use Rattle.taylor_job.specs.Calls.{Fields, report}
use Rattle.taylor_job.specs.Calls.{TaylorAnswer}

-- where the operands lie in the lent memory: the field of n + d values, a term as long, a product of n values, and with a mass the quotients
-- (document 01, 'What must change shape')
abbrev pub layout : ℕ → ℕ → Bool → Layout
layout n d mass = record { n = n; d = d; w = n + d; av = 2 * (n + d); q = 3 * n + 2 * d; mass = mass }

-- what a run takes from the checks of its job
pub record Allowed (starts cols : List ℕ) (vals mass work : List Float) (j : Job) : Type 0 where
  pub passed : Passed (csr j.g.n starts cols vals) (given j.g.with_mass mass) j.g
  pub short : j.d ≤ 3
  pub needed : j.need ≡ taylor_need j.g.n j.d j.g.stored
  pub enough : j.need ≤ length work
  pub row : select_s_m j.cap (argument j.tau j.g.norm) ≡ Some j.row

-- the plan from the row that the checks found
abbrev pub plan_by : Job → Csr → SweepPlan
plan_by j q = with_shift j.cap j.tau j.row (negated_csr_shift q j.g.norm)

abbrev pub operator_by : Job → Csr → List Float → Augmented
operator_by j q vectors = augmented q j.d vectors j.b.places j.b.gains j.b.count

-- how it ends: the report, the fields, and what was needed cleared
abbrev pub job_end : Job → Csr → (SweepPlan → Fields) → List Float → Call TaylorAnswer
job_end j q run memory = ends (report (plan_by j q) (run (plan_by j q)).applied) (run (plan_by j q)).fields (cleared j.need memory)
