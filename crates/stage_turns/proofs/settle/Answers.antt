-- `stage_turns::settle` meets its contract. Assumes nothing.
use native.Mathlib.Omega.{arith}
use mathlib.Core.Path.{refl}
use native.Mathlib.Nat.{add-zero}
use Rattle.schedule_checks.specs.Schedule.{counted, settle}
use Rattle.schedule_checks.specs.Inner.{turn_at}
use Rattle.schedule_checks.proofs.Checks.{few_further}
use Rattle.stage_turns.proofs.settle.Goals as goal

pub overflow_sub-need : goal.overflow_sub-need
overflow_sub-need c =
    let f = rw (c.in-Ok.is, c.in-Taylor.is) at c.requires.3 in
    f.0

pub overflow_mul-need : goal.overflow_mul-need
overflow_mul-need c =
    let f = rw (c.in-Ok.is, c.in-Taylor.is) at c.requires.3 in
    omega (arith, few_further c.args.count c.args.n f.1 c.requires.2)

pub counted-requires : goal.counted-requires
counted-requires c =
    let f = rw (c.in-Ok.is, c.in-Taylor.is) at c.requires.3 in
    let h = c.requires.1 in
    let i = c.requires.0 in
    ((omega (arith, h.0, i), omega (arith, h.1, i), omega (arith, h.2, i), omega (arith, h.3, i)), few_further c.args.count c.args.n f.1 c.requires.2, f.2, omega arith, omega arith)

pub overflow_sub-need-in-Krylov : goal.overflow_sub-need-in-Krylov
overflow_sub-need-in-Krylov c =
    let f = rw (c.in-Ok.is, c.in-Krylov.is) at c.requires.3 in
    f.0

pub overflow_mul-need-in-Krylov : goal.overflow_mul-need-in-Krylov
overflow_mul-need-in-Krylov c =
    let f = rw (c.in-Ok.is, c.in-Krylov.is) at c.requires.3 in
    omega (arith, few_further c.args.count c.args.n f.1 c.requires.2)

pub counted-requires-in-Krylov : goal.counted-requires-in-Krylov
counted-requires-in-Krylov c =
    let f = rw (c.in-Ok.is, c.in-Krylov.is) at c.requires.3 in
    let h = c.requires.1 in
    let i = c.requires.0 in
    ((omega (arith, h.0, i), omega (arith, h.1, i), omega (arith, h.2, i), omega (arith, h.3, i)), few_further c.args.count c.args.n f.1 c.requires.2, omega (arith, f.2), f.3, f.4)

pub returns-in-Err : goal.returns-in-Err
unfolding turn_at settle
returns-in-Err c = record { memory_value = λ output memory. rw c.in-Err.is refl; moderate = tt }

pub returns-in-Taylor : goal.returns-in-Taylor
unfolding turn_at settle counted
returns-in-Taylor c =
    let f = rw (c.in-Ok.is, c.in-Taylor.is) at c.requires.3 in
    let h = c.requires.1 in
    let n = few_further c.args.count c.args.n f.1 c.requires.2 in
    record { memory_value = λ output memory. rw (c.in-Ok.is, c.in-Taylor.is, c.counted.ensures, add-zero c.args.p.report.substeps, add-zero c.args.p.report.rejected) refl; moderate = rw c.counted.ensures (omega (arith, h.0, n), omega (arith, h.1, f.2), omega (arith, h.2), omega (arith, h.3)) }

pub returns-in-Krylov : goal.returns-in-Krylov
unfolding turn_at settle counted
returns-in-Krylov c =
    let f = rw (c.in-Ok.is, c.in-Krylov.is) at c.requires.3 in
    let h = c.requires.1 in
    let n = few_further c.args.count c.args.n f.1 c.requires.2 in
    record { memory_value = λ output memory. rw (c.in-Ok.is, c.in-Krylov.is, c.counted-in-Krylov.ensures) refl; moderate = rw c.counted-in-Krylov.ensures (omega (arith, h.0, n), omega (arith, h.1, f.2), omega (arith, h.2, f.3), omega (arith, h.3, f.4)) }
