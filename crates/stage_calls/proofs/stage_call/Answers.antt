-- `stage_calls::stage_call` meets its contract. Assumes nothing.
use Rattle.phi_solver.proofs.Dispatch.{by_taylor, by_krylov}
use Rattle.combination.specs.Combination.{field_of}
use mathlib.Core.List.{◌++◌}
use Rattle.stage_calls.proofs.stage_call.Goals as goal

pub taylor_stage-requires : goal.taylor_stage-requires
taylor_stage-requires c = record { passed = c.requires.passed; whole = (c.requires.whole.0, rw c.in-Taylor.is at c.requires.whole.1) }

pub krylov_stage-requires : goal.krylov_stage-requires
krylov_stage-requires c = record { passed = c.requires.passed; whole = (c.requires.whole.0, rw c.in-Krylov.is at c.requires.whole.1) }

pub returns-in-Taylor : goal.returns-in-Taylor
returns-in-Taylor c gs sound =
    let a = c.args in
    by_taylor _ a.s.tau a.s.count ((field_of a.initial a.start.now a.out.now) ++ a.vectors.now) a.out.now a.work.now c.in-Taylor.is c.of_taylor.ensures (c.taylor_stage.ensures gs sound)

pub returns-in-Krylov : goal.returns-in-Krylov
returns-in-Krylov c gs sound =
    let a = c.args in
    by_krylov _ a.s.tau a.s.count ((field_of a.initial a.start.now a.out.now) ++ a.vectors.now) a.out.now a.work.now c.in-Krylov.is c.of_krylov.ensures (c.krylov_stage.ensures gs sound)
