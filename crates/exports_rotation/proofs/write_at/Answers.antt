-- `exports_rotation::write_at` meets its contract. Assumes nothing.
use native.Mathlib.Omega.{arith}
use Prim.Native.Nat.{◌*◌}
use Rattle.exports_rotation.proofs.Units.{numbers_put, counts_put}
use Rattle.exports_rotation.proofs.write_at.Goals as goal

pub returns : goal.returns
returns c =
    let a = c.args in
    let e = c.write_run.ensures in
    record { numbers_after = numbers_put a.numbers.now a.counts.now (a.p * 10) (a.p * 8) (omega (arith, c.requires.0, c.requires.1)) (omega (arith, c.requires.0, c.requires.2)) a.run e; counts_after = counts_put a.numbers.now a.counts.now (a.p * 10) (a.p * 8) (omega (arith, c.requires.0, c.requires.1)) (omega (arith, c.requires.0, c.requires.2)) a.run e }
