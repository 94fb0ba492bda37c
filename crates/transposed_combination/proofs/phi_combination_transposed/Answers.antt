-- `transposed_combination::phi_combination_transposed` meets its contract. Assumes nothing.
use Rattle.std.proofs.Common.{rules, of_calls}
use Rattle.generator_action.specs.Generator.{Generator}
use Rattle.taylor_job.specs.Calls.{phi_combination}
use Rattle.phi_combination.proofs.Calls.{combination_refused}
use Rattle.transposed.specs.Transposed.{phi_combination_transposed}
use Rattle.transposed_combination.proofs.phi_combination_transposed.Goals as goal

pub returns : goal.returns
unfolding phi_combination_transposed
returns c =
    let x = c.args in
    c.on_transposed.ensures (λ (g : Generator) out work. phi_combination g x.tau x.cap x.count x.w.now out work) (λ rows cols vals none g out work answer out₁ work₁ run gs sound. search (rules, of_calls))
    (λ g k y e. combination_refused g x.tau x.cap x.out.now x.work.now e x.count x.w.now)
