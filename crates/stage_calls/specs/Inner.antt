-- What the inner functions of a soak in stages know and answer: cited by their contracts, and by no definition of the call. Definitions only.
use Rattle.std.specs.Prelude.{Bool, List, ◌++◌, ◌≡◌, ℕ, ◌-◌, ◌*◌, ◌≤◌, length, Float}
use Rattle.lists.specs.Window.{window}
use Rattle.checks.specs.First.{first}
use Rattle.generator_action.specs.Generator.{Generator}
use Rattle.combination.specs.Call.{Call, unless_refused}
use Rattle.phi_solver.specs.Combine.{combine}
use Rattle.phi_solver.specs.Combine.{PhiAnswer}
use Rattle.phi_solver.specs.declared.PhiReport.TheVariants as phi
use Rattle.schedule_checks.specs.Schedule.{further_need, stage_checks}
use Rattle.schedule_checks.specs.declared.Stage.{Stage}
use Rattle.checks.specs.Reasons.{Refused}

-- 12 to 16 have passed: of field, further vectors and output the lengths
pub record Whole (n count field vectors output : ℕ) : Type 0 where
  pub some : 1 ≤ count
  pub most : count ≤ 4
  pub fielded : field ≡ n
  pub rest : vectors ≡ (count - 1) * n
  pub out : output ≡ n

-- its checks, and its single call
unfoldable pub stage_end : Generator → Stage → Bool → ℕ → List Float → List Float → List Float → List Float → Call PhiAnswer
stage_end g s last used further field output memory =
    let n = g.matrix.n in
    unless_refused Refused (first (stage_checks n s last (length output) (length field) used (length further))) output memory
    (combine s.solver g s.tau s.count (field ++ window used (further_need n s) further) output memory)
