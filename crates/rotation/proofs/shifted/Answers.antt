-- `rotation::shifted` meets its contract. Assumes nothing.
use native.Mathlib.Omega.{arith}
use Rattle.rotation.proofs.Queue.{shift_is}
use Rattle.rotation.proofs.shifted.Goals as goal

pub returns : goal.returns
returns c =
    let a = c.args in
    shift_is a.queue a.from a.to a.last c.requires.0 (omega (arith, c.requires.1)) c.requires.2 c.copy_from_slice.ensures.after
