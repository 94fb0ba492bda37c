-- What the plan alone tells of a run over the same generator, time and highest degree. Definitions only.
use Rattle.std.specs.Prelude.{◌≡◌, Bool, false, ◌||◌, List, ◌++◌, ℕ, suc, ◌-◌, ◌*◌, ◌≤◌, eqb, length, Float}
use Rattle.checks.specs.First.{Check, first}
use Rattle.generator_action.specs.Generator.{Generator}
use Rattle.combination.specs.Call.{Call}
use Rattle.combination.specs.Combination.{further, eta_of}
use Rattle.combination.specs.Checks.{count_checks, index_checks, length_checks, finite_checks, magnitude_checks}
use Rattle.taylor_job.specs.declared.TaylorReport.{TaylorReport}
use Rattle.taylor_job.specs.Calls.{TaylorAnswer}
use Rattle.taylor_job.specs.Calls.{phi_combination, phi_action, phi_action_batched}
use Rattle.taylor_plan.specs.TaylorPlan.{taylor_plan}
use Rattle.checks.specs.Reasons.{number, Sound, Refused}
use Rattle.std.specs.Prelude.{Ok}
use Rattle.checks.specs.declared.Reason.{Reason}

-- the refusals that a run has for its vectors, its output and its working memory, and a plan has not
abbrev pub own : ℕ → Bool
own k = eqb 12 k || (eqb 13 k || (eqb 15 k || (eqb 16 k || (eqb 17 k || (eqb 21 k || (eqb 22 k || eqb 26 k))))))

-- the checks that make them, but 26: of a combination, and of an action of index k with `wanted` values of output
abbrev pub combination_own : Generator → Float → ℕ → List Float → ℕ → List Check
combination_own g tau count w output =
    let n = g.matrix.n in
    let f = further n w in
    count_checks count ++ (length_checks output n (length w) (count * n) ++ (finite_checks w ++ magnitude_checks n f tau (count - 1) (eta_of n f tau (count - 1)).eta))

abbrev pub action_own : Generator → ℕ → List Float → ℕ → ℕ → List Check
action_own g k v output wanted = index_checks k ++ (length_checks output wanted (length v) g.matrix.n ++ finite_checks v)

-- a run c of as many functions as `runs`, whose own checks but 26 are cs
pub record Foretold (g : Generator) (tau : Float) (cap : ℕ) (lent : List Float) (runs : ℕ) (cs : List Check) (c : Call TaylorAnswer) : Type 0 where
  -- where it gets a result, and the plan has its memory: s, m and mu of its report, and its applications for each function, are told beforehand
  pub told : {r : TaylorReport} → c.answer ≡ Ok r → g.stored ≤ length lent
      → (cost : ℕ) × ((taylor_plan g tau cap lent).answer ≡ Ok (record { s = r.s; m = r.m; mu = r.mu; applications = cost })) × (r.applications ≡ runs * cost)
  -- a refusal that is not its own is the plan's too; and the plan's is its, where it has none of its own
  pub refused : {k : Reason} {x : Float} → own (number k) ≡ false → c.answer ≡ Refused k x → (taylor_plan g tau cap lent).answer ≡ Refused k x
  pub refuses : {k : Reason} {x : Float} → own (number k) ≡ false → Sound ≡ first cs → (taylor_plan g tau cap lent).answer ≡ Refused k x → c.answer ≡ Refused k x

-- of every combination, action and batch
pub record PlanAhead (g : Generator) (tau : Float) (cap : ℕ) (lent : List Float) : Type 0 where
  pub combination : (count : ℕ) (w output memory : List Float)
      → Foretold g tau cap lent 1 (combination_own g tau count w (length output)) (phi_combination g tau cap count w output memory)
  pub action : (k : ℕ) (v output memory : List Float)
      → Foretold g tau cap lent 1 (action_own g k v (length output) g.matrix.n) (phi_action g tau cap k v output memory)
  pub batch : (p : ℕ) (v output memory : List Float)
      → Foretold g tau cap lent (suc p) (action_own g p v (length output) (suc p * g.matrix.n)) (phi_action_batched g tau cap p v output memory)
