-- `exports_rotation::held_at` meets its contract. Assumes nothing.
use native.Mathlib.Omega.{arith}
use Prim.Native.Nat.{◌*◌}
use Rattle.exports_rotation.proofs.Units.{read_held}
use Rattle.exports_rotation.proofs.held_at.Goals as goal

pub returns : goal.returns
returns c =
    read_held c.args.numbers.now c.args.counts.now (10 * c.args.p) (8 * c.args.p) (omega (arith, c.requires.0, c.requires.1)) (omega (arith, c.requires.0, c.requires.2)) c.read_run.ensures
