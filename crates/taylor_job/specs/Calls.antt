-- Whole calls: the answer, and what the output and the working memory hold at the end (phi_action.rs, `phi_combination`, `phi_action`,
-- `phi_action_batched`). Definitions only.
use Rattle.std.specs.Prelude.{List, [], ◌++◌, ℕ, suc, ◌+◌, ◌-◌, ◌*◌, length, Float, Option, Some, None}
use Rattle.lists.specs.Loop.{iter}
use Rattle.lists.specs.Window.{window}
use Rattle.checks.specs.First.{Check, first}
use Rattle.general_operator.specs.Csr.{row_sum_norm}
use Rattle.generator_action.specs.Mass.{open_mass}
use Rattle.generator_action.specs.Generator.{Generator}
use Rattle.pow2.specs.Pow2.{sup, eta_scaling}
use Rattle.phi_action_helpers.specs.Augmented.{Augmented}
use Rattle.phi_action_helpers.specs.Sweeps.{run_sweeps}
use Rattle.phi_action_helpers.specs.declared.SweepPlan.{SweepPlan}
use Rattle.phi_shift.specs.Plan.{argument, sweep_plan}
use Rattle.combination.specs.Combination.{further, eta_of, combination_operator, combination_start, action_operator, init_aug_vector}
use Rattle.combination.specs.Call.{Call, ends, unless_refused, cleared, open_call}
use Rattle.combination.specs.Checks.{plan_checks, vector_checks, sweep_checks, job_checks, taylor_need, open_checks}
use Rattle.checks.specs.Reasons.{Refused}
use Rattle.std.specs.Prelude.{Ok}
use Rattle.checks.specs.declared.Reason.TheVariants.{NoAdmissibleRow}
use Rattle.std.specs.Prelude.{Result}
use Rattle.checks.specs.declared.Refusal.{Refusal}
use Rattle.taylor_job.specs.declared.TaylorReport.{TaylorReport}

-- a refusal, or a report
abbrev pub TaylorAnswer : Type 0
TaylorAnswer = Result TaylorReport Refusal

-- the fields made, and the products with the generator
pub record Fields : Type 0 where
  pub fields : List Float
  pub applied : ℕ

abbrev pub report : SweepPlan → ℕ → TaylorAnswer
report p applied = Ok (record { s = p.s; m = p.m; mu = p.mu; applications = applied })

-- an accepted job leaves its fields and clears what it needed; that there is no plan is refusal 25 of the list already
unfoldable pub after_plan : ℕ → Float → Float → List Float → List Float → Option SweepPlan → (SweepPlan → Fields) → Call TaylorAnswer
after_plan need tau norm output memory None run = ends (Refused NoAdmissibleRow (argument tau norm)) output memory
after_plan need tau norm output memory (Some p) run = ends (report p (run p).applied) (run p).fields (cleared need memory)

-- the n values of the field after the sweeps
unfoldable pub swept_fields : Augmented → Float → List Float → SweepPlan → Fields
swept_fields b tau y p = let r = run_sweeps b tau p y in record { fields = window 0 b.matrix.n r.y; applied = r.applied }

-- ---- `phi_combination` of `count` vectors in one slice; no degree of the plan is above the cap (document 02, N7)
unfoldable pub combination_checks : Generator → Float → ℕ → ℕ → List Float → ℕ → ℕ → List Check
combination_checks g tau cap count w output memory =
    let n = g.matrix.n in
    g.checks
    ++ (vector_checks n (plan_checks tau cap) count w output
    ++ sweep_checks n tau cap (count - 1) (further n w) (row_sum_norm g.matrix) memory (taylor_need n (count - 1) g.stored))

-- a job that passed: w_0 is the first n values of v, w_1 to w_d are f
unfoldable pub combination_run : Generator → Float → ℕ → ℕ → List Float → List Float → List Float → List Float → Call TaylorAnswer
combination_run g tau cap d v f output memory =
    let q = g.matrix in
    let eta = eta_of q.n f tau d in
    after_plan (taylor_need q.n d g.stored) tau (row_sum_norm q) output memory (sweep_plan cap tau q (row_sum_norm q))
    (swept_fields (combination_operator q f tau d eta.eta) tau (combination_start q.n v d eta.inv))

unfoldable pub phi_combination : Generator → Float → ℕ → ℕ → List Float → List Float → List Float → Call TaylorAnswer
phi_combination g tau cap count w output memory =
    unless_refused Refused (first (combination_checks g tau cap count w (length output) (length memory))) output memory
    (combination_run g tau cap (count - 1) w (further g.matrix.n w) output memory)

-- ---- `phi_action` of index k, `phi_action_batched` of the indices 0 to p
unfoldable pub action_checks : Generator → Float → ℕ → ℕ → List Float → ℕ → ℕ → ℕ → List Check
action_checks g tau cap k v output wanted memory =
    let n = g.matrix.n in
    g.checks ++ job_checks k tau cap output wanted v n (row_sum_norm g.matrix) memory (taylor_need n 3 g.stored)

unfoldable pub phi_action : Generator → Float → ℕ → ℕ → List Float → List Float → List Float → Call TaylorAnswer
phi_action g tau cap k v output memory =
    let q = g.matrix in
    let eta = eta_scaling (sup v) in
    unless_refused Refused (first (action_checks g tau cap k v (length output) q.n (length memory))) output memory
    (after_plan (taylor_need q.n 3 g.stored) tau (row_sum_norm q) output memory (sweep_plan cap tau q (row_sum_norm q))
    (swept_fields (action_operator q v eta.eta) tau (init_aug_vector q.n v eta.inv k)))

-- one more function of a batch
unfoldable pub batch_step : Augmented → Float → SweepPlan → List Float → Float → ℕ → Fields → Fields
batch_step b tau p v inv k r =
    let f = swept_fields b tau (init_aug_vector b.matrix.n v inv k) p in
    record { fields = r.fields ++ f.fields; applied = r.applied + f.applied }

unfoldable pub batched : Augmented → Float → List Float → Float → ℕ → SweepPlan → Fields
batched b tau v inv k p = iter (batch_step b tau p v inv) k (record { fields = []; applied = 0 })

unfoldable pub phi_action_batched : Generator → Float → ℕ → ℕ → List Float → List Float → List Float → Call TaylorAnswer
phi_action_batched g tau cap p v output memory =
    let q = g.matrix in
    let eta = eta_scaling (sup v) in
    unless_refused Refused (first (action_checks g tau cap p v (length output) (suc p * q.n) (length memory))) output memory
    (after_plan (taylor_need q.n 3 g.stored) tau (row_sum_norm q) output memory (sweep_plan cap tau q (row_sum_norm q))
    (batched (action_operator q v eta.eta) tau v eta.inv (suc p)))

-- to compute: a line `unfolding open_calls` opens every definition of this file and of those below it
unfoldable pub open_calls : Unit {0}
unfolding after_plan swept_fields combination_checks combination_run phi_combination action_checks phi_action batch_step batched phi_action_batched open_mass open_checks open_call
open_calls = tt
