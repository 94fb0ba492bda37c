-- `byte_calls::of_taylor` meets its contract. Assumes nothing.
use Rattle.std.proofs.Common.{refl}
use Rattle.answers.specs.Told.{taylor_numbers}
use Rattle.byte_calls.proofs.of_taylor.Goals as goal

pub returns-in-Err : goal.returns-in-Err
unfolding taylor_numbers
returns-in-Err c =
    let d = c.default.ensures in
    let n = c.number.ensures in
    rw c.in-Err.is cc

pub returns-in-Ok : goal.returns-in-Ok
unfolding taylor_numbers
returns-in-Ok c = rw (c.in-Ok.is, c.default-in-Ok.ensures.0) refl
