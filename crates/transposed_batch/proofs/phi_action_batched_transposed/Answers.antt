-- `transposed_batch::phi_action_batched_transposed` meets its contract. Assumes nothing.
use Rattle.std.proofs.Common.{rules, of_calls}
use Rattle.generator_action.specs.Generator.{Generator}
use Rattle.taylor_job.specs.Calls.{phi_action_batched}
use Rattle.phi_combination.proofs.Calls.{batch_refused}
use Rattle.transposed.specs.Transposed.{phi_action_batched_transposed}
use Rattle.transposed_batch.proofs.phi_action_batched_transposed.Goals as goal

pub returns : goal.returns
unfolding phi_action_batched_transposed
returns c =
    let x = c.args in
    c.on_transposed.ensures (λ (g : Generator) out work. phi_action_batched g x.tau x.cap x.p x.v.now out work) (λ rows cols vals none g out work answer out₁ work₁ run gs sound. search (rules, of_calls))
    (λ g k y e. batch_refused g x.tau x.cap x.out.now x.work.now e x.p x.v.now)
