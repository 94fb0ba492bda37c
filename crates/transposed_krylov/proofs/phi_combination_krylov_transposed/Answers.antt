-- `transposed_krylov::phi_combination_krylov_transposed` meets its contract. Assumes nothing.
use Rattle.std.proofs.Common.{rules, of_calls}
use Rattle.generator_action.specs.Generator.{Generator}
use Rattle.krylov_job.specs.KrylovCall.{phi_combination_krylov}
use Rattle.krylov_job.proofs.Calls.{refused_generator}
use Rattle.transposed.specs.Transposed.{phi_combination_krylov_transposed}
use Rattle.transposed_krylov.proofs.phi_combination_krylov_transposed.Goals as goal

pub returns : goal.returns
unfolding phi_combination_krylov_transposed
returns c =
    let x = c.args in
    c.on_transposed.ensures (λ (g : Generator) out work. phi_combination_krylov g x.tau x.count x.w.now x.o out work) (λ rows cols vals none g out work answer out₁ work₁ run gs sound. search (rules, of_calls))
    (λ g k y e. refused_generator g x.tau x.count x.w.now x.o x.out.now x.work.now e)
