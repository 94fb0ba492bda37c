-- `phi_solver::combine` meets its contract. Assumes nothing.
use Rattle.phi_solver.proofs.Dispatch.{by_taylor, by_krylov}
use Rattle.phi_solver.proofs.combine.Goals as goal

pub returns-in-Taylor : goal.returns-in-Taylor
returns-in-Taylor c =
    let a = c.args in
    by_taylor _ a.tau a.count a.w.now a.out.now a.work.now c.in-Taylor.is c.of_taylor.ensures c.phi_combination.ensures

pub returns-in-Krylov : goal.returns-in-Krylov
returns-in-Krylov c =
    let a = c.args in
    by_krylov _ a.tau a.count a.w.now a.out.now a.work.now c.in-Krylov.is c.of_krylov.ensures c.phi_combination_krylov.ensures
