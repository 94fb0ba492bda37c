-- `power::root_bits` meets its contract. Assumes nothing.
use Rattle.std.proofs.Common.{◌<◌, arith}
use Rattle.doubles.proofs.Patterns.{finite_no_nan}
use Rattle.power.proofs.Bracket.{bracket_begin, bracket_end}
use Rattle.power.proofs.root_bits.Goals as goal

pub loop-lo-init : goal.loop-lo-init
loop-lo-init c = bracket_begin _ _ _ c.requires c.first_guess-trial.ensures.0 c.first_guess-trial.ensures.1

pub float_from_bits-trial : goal.float_from_bits-trial
float_from_bits-trial c =
    let between : (c.loop-lo.lo < c.loop-lo.trial) × (c.loop-lo.trial < c.loop-lo.hi) = c.loop-lo.invariant.between (omega (arith, c.loop-lo-test.true)) in
    finite_no_nan _ (omega (arith, between.1, c.loop-lo.invariant.top))

pub returns : goal.returns
returns c = bracket_end _ _ _ _ _ c.requires c.loop-lo.invariant (omega (arith, c.loop-lo-test.false))
