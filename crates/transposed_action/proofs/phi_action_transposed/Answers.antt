-- `transposed_action::phi_action_transposed` meets its contract. Assumes nothing.
use Rattle.std.proofs.Common.{rules, of_calls}
use Rattle.generator_action.specs.Generator.{Generator}
use Rattle.taylor_job.specs.Calls.{phi_action}
use Rattle.phi_combination.proofs.Calls.{action_refused}
use Rattle.transposed.specs.Transposed.{phi_action_transposed}
use Rattle.transposed_action.proofs.phi_action_transposed.Goals as goal

pub returns : goal.returns
unfolding phi_action_transposed
returns c =
    let x = c.args in
    c.on_transposed.ensures (λ (g : Generator) out work. phi_action g x.tau x.cap x.k x.v.now out work) (λ rows cols vals none g out work answer out₁ work₁ run gs sound. search (rules, of_calls))
    (λ g k y e. action_refused g x.tau x.cap x.out.now x.work.now e x.k x.v.now)
