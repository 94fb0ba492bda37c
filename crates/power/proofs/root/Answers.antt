-- `power::root` meets its contract. Assumes nothing.
use Rattle.std.proofs.Common.{ap, ◌∙◌}
use lib.Ieee.{binary64, of_bits}
use Rattle.doubles.proofs.Patterns.{finite_no_nan}
use Rattle.doubles.proofs.Time.{above_zero}
use Rattle.power.proofs.Cases.{when_zero, when_number, when_endless, when_not}
use Rattle.power.proofs.root.Goals as goal

pub returns-then-t : goal.returns-then-t
returns-then-t c = when_zero c.args.t c.args.q c.if-t.true

pub root_bits-requires : goal.root_bits-requires
root_bits-requires c = above_zero c.args.t c.if-t-2.true

pub float_from_bits-result : goal.float_from_bits-result
float_from_bits-result c = finite_no_nan c.root_bits.result c.root_bits.ensures.1

pub returns-then-t-3 : goal.returns-then-t-3
returns-then-t-3 c = ap (of_bits binary64) c.root_bits.ensures.0 ∙ when_number c.args.t c.args.q c.if-t-2.true c.if-t-3.true

pub returns-then-t-2 : goal.returns-then-t-2
returns-then-t-2 c = when_endless c.args.t c.args.q c.if-t-2.true c.if-t-3.false

pub returns : goal.returns
unfolding of_bits
returns c = when_not c.args.t c.args.q c.if-t.false c.if-t-2.false
